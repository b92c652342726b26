-- What the program writes for what it reads.
pub mod Words
pub mod Commands
pub use Rattle.lis_record_commands.specs.Messages
pub use Rattle.lis_record_commands.specs.MessageRuns
pub use Rattle.lis_record_commands.specs.Check
pub use Rattle.lis_record_commands.specs.Results
pub use Rattle.lis_engine.specs.Output
pub use Rattle.lis_engine.specs.Outcome
pub use Rattle.lis_engine.specs.Runs
pub use Rattle.lis_engine.specs.Parts
pub use Rattle.lis_engine.specs.Steps
pub use Rattle.lis_report.specs.Codes
pub use Rattle.lis_run.specs.LineOutcome
pub use Rattle.lis_run.specs.CaptureRuns
pub use Rattle.lis_run.specs.Upgrade
pub use Rattle.lis_run.specs.Show
pub use Rattle.lis_run.specs.Replay
