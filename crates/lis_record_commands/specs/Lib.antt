-- What the commands over record text write.
pub mod Messages
pub mod MessageRuns
pub mod Check
pub mod Results
pub mod inside
pub use Rattle.lis_engine.specs.Output
pub use Rattle.lis_engine.specs.Outcome
pub use Rattle.lis_engine.specs.Runs
pub use Rattle.lis_engine.specs.Parts
pub use Rattle.lis_engine.specs.Steps
pub use Rattle.lis_report.specs.Codes
