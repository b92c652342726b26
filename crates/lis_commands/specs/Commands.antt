-- What each command's run does.
use Rattle.std.specs.Prelude.{Bool, true, false}
use Rattle.std.specs.declared.result.Result.{Result}
use Rattle.lis_engine.specs.declared.fault.ToolFault.{ToolFault}
use Rattle.lis_report.specs.Answers.{Report}
use Rattle.lis_run.specs.CaptureRuns.{CaptureRan}
use Rattle.lis_run.specs.Replay.{replay_writes, texts_writes}
use Rattle.lis_engine.specs.Runs.{HasRun, KnownPorts, Shown}
use Rattle.lis_run.specs.Show.{Shows, show}
use Rattle.lis_run.specs.Upgrade.{upgrade_writes}
use Rattle.lis_commands.specs.declared.commands.Command.{Command}
use Rattle.lis_commands.specs.declared.commands.Command.TheVariants.{Show, Check, Results, Replay, Texts, Upgrade}
use Rattle.lis_record_commands.specs.Check.{check_writes}
use Rattle.lis_record_commands.specs.MessageRuns.{MessagesRan}
use Rattle.lis_record_commands.specs.Results.{results_writes}
use Rattle.lis_commands.specs.Words.{limit_by}

-- how it ran, by what is known of its ports before and after it
abbrev pub CommandRan : Command → (old new : KnownPorts) → Result Report ToolFault → Type 0
CommandRan (Show long) old new result =
    HasRun false (Shows (limit_by long)) old new result × Shown (show (limit_by long)) old new result
CommandRan Check old new result = MessagesRan check_writes old new result
CommandRan Results old new result = MessagesRan results_writes old new result
CommandRan (Replay long) old new result = CaptureRan true (replay_writes (limit_by long)) old new result
CommandRan (Texts long) old new result = CaptureRan true (texts_writes (limit_by long)) old new result
CommandRan Upgrade old new result = CaptureRan false upgrade_writes old new result

-- whether it may write at the end of the input
abbrev pub closes : Command → Bool
closes (Show long) = false
closes Check = true
closes Results = true
closes (Replay long) = true
closes (Texts long) = true
closes Upgrade = true

-- whether it takes records, and may reject one before the end of the input
abbrev pub refuses : Command → Bool
refuses (Show long) = false
refuses Check = true
refuses Results = true
refuses (Replay long) = false
refuses (Texts long) = false
refuses Upgrade = false
