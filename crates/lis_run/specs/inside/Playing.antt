-- What the program keeps of a capture that it plays, for `replay` and for `texts`.
use Rattle.std.specs.Prelude.{◌≡◌, ◌≢◌, ◌⊎◌, ℕ, ◌+◌, ◌*◌, ◌≤◌, min, Bool, true, false, List, ◌++◌, length, Ok, Err}
use Rattle.std.specs.Prelude.{if◌then◌else◌, vec_capacity, vec_len}
use Rattle.std.specs.declared.result.Result.{Result}
use Rattle.std.specs.List.{flat_map}
use Rattle.std.specs.Option.{option_to_list}
use Rattle.std.specs.Str.{bytes_eq}
use Rattle.lis_capture.specs.declared.line.Line.{Line}
use Rattle.lis_link.specs.declared.receiver.Note.TheVariants.{OutOfMemory}
use Rattle.lis_link.specs.declared.receiver.Step.{Step}
use Rattle.lis_link.specs.Representation.{IsIn}
use Rattle.lis_engine.specs.declared.fault.ToolFault.{ToolFault}
use Rattle.lis_engine.specs.declared.fault.ToolFault.TheVariants as faults
use Rattle.lis_run.specs.declared.playing.Playing.{Playing}
use Rattle.lis_run.specs.LineOutcome.{Writes}
use Rattle.lis_engine.specs.Output.{Broke, IsPut, Out, WentOn, most_counted}
use Rattle.lis_run.specs.Replay.{compared_line, difference_count, played, replay_writes, text_count, text_line}
use Rattle.lis_run.specs.Replay.{texts_writes}

-- by whether it reports in lines
abbrev pub playing_writes : (in_lines : Bool) → ℕ → Writes
playing_writes true limit = replay_writes limit
playing_writes false limit = texts_writes limit

-- what is written for texts
abbrev pub text_part : (in_lines : Bool) → ℕ → List ℕ → List ℕ
text_part true number text = text_line number text
text_part false number text = text

abbrev pub text_parts : (in_lines : Bool) → ℕ → List (List ℕ) → List ℕ
text_parts in_lines number delivered = flat_map (text_part in_lines number) delivered

-- What is kept of lines that were played: the receiver, and how many texts it delivered; and where replies are compared
-- those collected, and the count of differences. No line has more than 2,047 bytes, so that the texts can be counted.
pub record IsPlaying (in_lines : Bool) (limit : ℕ) {size mode : ℕ} (p : Playing size mode) (lines : List Line) : Type 0
  where
    pub receiver_is : IsIn limit p.receiver (played limit lines).receiver
    pub replies_are : in_lines ≡ true → p.replies.items ≡ (played limit lines).replies
    pub texts_are : p.texts ≡ text_count limit lines
    pub differences_are : in_lines ≡ true → p.differences ≡ difference_count limit lines
    pub few : text_count limit lines ≤ 2047 * length lines

-- a step of the receiver was taken: its reply is kept where replies are compared, the count has one more for its text,
-- and what is written for that was put, or the sink failed in it
pub record IsTaken (in_lines : Bool) (number : ℕ) (step : Step) {size mode : ℕ} (old new : Playing size mode)
    (a b : Out) (result : Result Unit ToolFault) : Type 0 where
  pub heard : step.note ≢ OutOfMemory
  pub replies_are : in_lines ≡ true → new.replies.items ≡ old.replies.items ++ option_to_list step.reply
  pub texts_are : new.texts ≡ min (old.texts + length (option_to_list step.message)) most_counted
  pub put : IsPut a b result (text_parts in_lines number (option_to_list step.message))

-- or memory ran out: to the receiver, or to the list of replies, which then was full (its length had reached its
-- capacity)
pub record IsStarved (step : Step) {size mode : ℕ} (old : Playing size mode) (a b : Out)
    (result : Result Unit ToolFault) : Type 0 where
  pub result_is : result ≡ Err faults.OutOfMemory
  pub full : step.note ≢ OutOfMemory → vec_capacity old.replies ≤ vec_len old.replies
  pub unchanged : b ≡ a

abbrev pub TakesStep : {size mode : ℕ} → (in_lines : Bool) (number : ℕ) (step : Step) (old new : Playing size mode)
    (a b : Out) → Result Unit ToolFault → Type 0
TakesStep in_lines number step old new a b result =
    IsTaken in_lines number step old new a b result ⊎ IsStarved step old a b result

-- what comparing bytes of the computer with the replies adds: the line of a difference, and one to their count
abbrev pub Compares : (place want got : List ℕ) (count : ℕ) → (old new : Out) → Result ℕ ToolFault → Type 0
Compares place want got count old new (Ok counted) =
    WentOn old new (compared_line place want got)
    × (counted ≡ min (if bytes_eq want got then count else count + 1) most_counted)
Compares place want got count old new (Err fault) = Broke old new fault (compared_line place want got)
