-- How a run over record text ends, by the messages of the bytes that were read.
use Rattle.std.specs.Prelude.{◌≡◌, ℕ, ◌≤◌, Bool, List, length, take, Option, None, Some, Ok, Err}
use Rattle.std.specs.declared.result.Result.{Result}
use Rattle.std.specs.Io.KnownBytes.{Appends, Consumes}
use Rattle.lis_engine.specs.declared.fault.ToolFault.{ToolFault}
use Rattle.lis_engine.specs.declared.fault.ToolFault.TheVariants.{CaptureLine, Read, Write, OutOfMemory, TooManyReads}
use Rattle.lis_report.specs.Answers.{Report}
use Rattle.lis_engine.specs.Outcome.{whole}
use Rattle.lis_report.specs.Answers.{Outcome}
use Rattle.lis_engine.specs.Output.{WentOut}
use Rattle.lis_engine.specs.Runs.{KnownPorts}
use Rattle.lis_record_commands.specs.Messages.{MessageWrites, HasOutcome}

-- A report is that of the bytes, and all of their text went out, with the closing lines. Where the source failed or
-- was read too often no record is rejected, and the text of the whole messages went out. Where the sink failed as much
-- went out as is reported, and if memory runs out a part without the closing lines.
abbrev pub MessageAnswer : MessageWrites → List ℕ → (ended : Bool) → Result Report ToolFault
    → (old new : Option (List ℕ)) → Type 0
MessageAnswer w given ended (Ok report) old new =
    (o : Outcome) × HasOutcome w given ended o × (o.halt ≡ Some (Ok report)) × Appends old new (whole o)
MessageAnswer w given ended (Err Read) old new =
    (o : Outcome) × HasOutcome w given ended o × (o.halt ≡ None) × Appends old new o.text
MessageAnswer w given ended (Err TooManyReads) old new =
    (o : Outcome) × HasOutcome w given ended o × (o.halt ≡ None) × Appends old new o.text
MessageAnswer w given ended (Err (Write written)) old new =
    (o : Outcome) × HasOutcome w given ended o × (count : ℕ) × WentOut old new 0 written (whole o) count
MessageAnswer w given ended (Err OutOfMemory) old new =
    (o : Outcome) × HasOutcome w given ended o × (count : ℕ) × (count ≤ length o.text)
    × Appends old new (take count o.text)
MessageAnswer w given ended (Err (CaptureLine line)) old new = ⊥

-- all the bytes that were read, and the answer by their messages
pub record MessagesRan (w : MessageWrites) (old new : KnownPorts) (result : Result Report ToolFault) : Type 0 where
  pub given : List ℕ
  pub read : Consumes old.left new.left given
  pub answer : MessageAnswer w given new.ended result old.taken new.taken
