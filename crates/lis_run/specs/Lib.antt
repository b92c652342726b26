-- What the commands over link bytes and captures write.
pub mod LineOutcome
pub mod CaptureRuns
pub mod Upgrade
pub mod Show
pub mod Replay
pub mod inside
pub use Rattle.lis_engine.specs.Output
pub use Rattle.lis_engine.specs.Outcome
pub use Rattle.lis_engine.specs.Runs
pub use Rattle.lis_engine.specs.Parts
pub use Rattle.lis_engine.specs.Steps
