-- How a run over a capture ends, by the lines of the bytes that were read.
use Rattle.std.specs.Prelude.{◌≡◌, ℕ, ◌+◌, ◌≤◌, Bool, true, false, List, [], ◌++◌, length, take, Option, Ok, Err}
use Rattle.std.specs.declared.result.Result.{Result}
use Rattle.std.specs.Io.KnownBytes.{Appends, Consumes}
use Rattle.lis_frame.specs.Stream.{stream_with}
use Rattle.lis_capture.specs.Capture.{Lines, capture}
use Rattle.lis_engine.specs.declared.fault.ToolFault.{ToolFault}
use Rattle.lis_engine.specs.declared.fault.ToolFault.TheVariants.{CaptureLine, Read, Write, OutOfMemory, TooManyReads}
use Rattle.lis_report.specs.Answers.{Report}
use Rattle.lis_run.specs.LineOutcome.{Writes, lines_outcome, lines_text}
use Rattle.lis_engine.specs.Outcome.{whole}
use Rattle.lis_engine.specs.Output.{WentOut}
use Rattle.lis_engine.specs.Runs.{KnownPorts}

-- A report is answered only where the input was read to its end and no line is rejected; then the text of all lines
-- and the closing lines went out. The number of a line is answered only where it is the first that is rejected; then
-- the text of the lines before it went out, as it did where the source failed or was read too often, and no line is
-- rejected. Where the sink failed as much went out as is reported. Memory is wanted only by a command that takes some;
-- then a part of the lines' text went out.
abbrev pub LineAnswer :
    (takes_memory : Bool) → Writes → Lines → (ended : Bool) → Result Report ToolFault → (old new : Option (List ℕ))
    → Type 0
LineAnswer takes_memory w read ended (Ok report) old new =
    (ended ≡ true) × (read.refused ≡ false) × (report ≡ w.report read.lines)
    × Appends old new (lines_text w read.lines ++ w.last read.lines)
LineAnswer takes_memory w read ended (Err (CaptureLine line)) old new =
    (read.refused ≡ true) × (line ≡ length read.lines + 1) × Appends old new (lines_text w read.lines)
LineAnswer takes_memory w read ended (Err Read) old new =
    (read.refused ≡ false) × Appends old new (lines_text w read.lines)
LineAnswer takes_memory w read ended (Err TooManyReads) old new =
    (read.refused ≡ false) × Appends old new (lines_text w read.lines)
LineAnswer takes_memory w read ended (Err (Write written)) old new =
    (count : ℕ) × WentOut old new 0 written (whole (lines_outcome w read.refused ended read.lines)) count
LineAnswer takes_memory w read ended (Err OutOfMemory) old new =
    (takes_memory ≡ true) × (count : ℕ) × (count ≤ length (lines_text w read.lines))
    × Appends old new (take count (lines_text w read.lines))

-- all the bytes that were read, and the answer by their lines
pub record CaptureRan
    (takes_memory : Bool) (w : Writes) (old new : KnownPorts) (result : Result Report ToolFault) : Type 0 where
  pub given : List ℕ
  pub read : Consumes old.left new.left given
  pub answer :
      LineAnswer takes_memory w (capture (stream_with [] given) new.ended) new.ended result old.taken new.taken
