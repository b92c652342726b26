-- What a command over messages keeps and answers while the records come.
use Rattle.std.specs.Prelude.{◌≡◌, ℕ, ◌+◌, ◌<◌, ◌^◌, true, false, List, ◌++◌, length, Option, Ok, Err, refl}
use Rattle.std.proofs.Common.{ap, inl}
use Rattle.std.specs.declared.result.Result.{Result}
use Rattle.lis_engine.specs.declared.fault.ToolFault.{ToolFault}
use Rattle.lis_engine.specs.declared.machine.Stop.TheVariants.{Fault, Refused}
use Rattle.lis_message.specs.Kept.{RecordsState}
use Rattle.lis_engine.specs.Outcome.{going}
use Rattle.lis_engine.specs.Output.{Out}
use Rattle.lis_engine.specs.Steps.{Puts, Steps}
use Rattle.lis_report.specs.Answers.{Report}
use Rattle.lis_report.specs.inside.Answers.{Stop}
use Rattle.lis_tree.specs.Begun.{Begun}
use Rattle.lis_tree.specs.Tree.{MessageTree}
use Rattle.lis_record_commands.specs.Messages.{MessageWrites, IsReadingMessages, RunGives, goes_on}

-- so far the bytes are whole messages and a part of one
abbrev pub reads_on :
    {w : MessageWrites} {represents : List MessageTree → Option Begun → Type 0} {reader : RecordsState} {count : ℕ}
    {bytes text : List ℕ}
    → IsReadingMessages w represents reader count bytes text → RunGives w bytes false (going text)
reads_on {reader = reader} reading =
    inl (goes_on reading.messages reading.left reader.held reading.split refl (ap going reading.text_is))

-- Whatever was read before: of these bytes all but those that follow are read, and what they give was put.
pub record Advances (before after : List ℕ → List ℕ → Type 0) (bytes following : List ℕ) (old new : Out) : Type 0 where
  pub reads :
      (past text : List ℕ) → before past text → length past + length bytes < 2 ^ 44
      → (front : List ℕ) × (bytes ≡ front ++ following) × Puts (after (past ++ front)) old new text

-- why a run takes no more of its input that ended so
abbrev pub stop_by : Result Report ToolFault → Stop
stop_by (Ok report) = Refused report
stop_by (Err fault) = Fault fault

-- the run ends in these bytes, after this text
abbrev pub StopsAt : MessageWrites → List ℕ → Out → Out → List ℕ → Stop → Type 0
StopsAt w bytes old new text stop = Steps true true (λ all. ⊥) (RunGives w bytes false) old new text (Err stop)

-- whatever was read before, the run ends in these bytes
pub record StopsIn (w : MessageWrites) (before : List ℕ → List ℕ → Type 0) (bytes : List ℕ) (old new : Out)
    (stop : Stop) : Type 0 where
  pub stops :
      (past text : List ℕ) → before past text → length past + length bytes < 2 ^ 44
      → StopsAt w (past ++ bytes) old new text stop
