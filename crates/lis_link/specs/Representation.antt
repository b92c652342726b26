-- What a receiver of the program represents: it counts the frames that it accepted and keeps the held text alone.
use Rattle.std.specs.Prelude.{◌≡◌, ⊤, ℕ, ◌+◌, ◌<◌, ◌≤◌, false, List, length, Option, None, Some}
use Rattle.lis_text.specs.Control.{NAK}
use Rattle.lis_frame.specs.Frame.{FrameContent}
use Rattle.lis_frame.specs.Scanner.{StandsFor}
use Rattle.lis_link.specs.declared.receiver.Note.{Note}
use Rattle.lis_link.specs.declared.receiver.Note.TheVariants.{Accepted, OutOfMemory}
use Rattle.lis_link.specs.declared.receiver.Step.{Step}
use Rattle.lis_link.specs.Kept.{Kept}
use Rattle.lis_link.specs.Receiver.{ReceiverState, ReceiverStep, held_text, held_while}

-- a receiver that keeps this is in this state
pub record IsIn (limit : ℕ) (kept : Kept) (r : ReceiverState) : Type 0 where
  pub open_is : kept.is_open ≡ r.is_open
  pub accepted_is : kept.accepted ≡ length r.accepted
  pub readiness_is : kept.readiness ≡ r.readiness
  pub room_is : kept.room ≡ r.room
  pub held_is : kept.held ≡ held_while r.is_open (held_text r)
  pub stream_is : StandsFor limit kept.scanner r.past

-- the program's answer is the definition's
pub record IsStep (step : ReceiverStep) (result : Step) : Type 0 where
  pub reply_is : result.reply ≡ step.reply
  pub message_is : result.message ≡ step.message
  pub note_is : result.note ≡ step.note

-- the step was made
pub record IsStepMade (limit : ℕ) (step : ReceiverStep) (result : Step) (new : Kept) : Type 0 where
  pub answer : IsStep step result
  pub state : IsIn limit new step.after

-- memory ran out for the text of a frame that would be accepted and is longer than the spare room: NAK, and nothing
-- else
pub record RefusesFrame (limit spare : ℕ) (step : ReceiverStep) (r : ReceiverState) (result : Step) (new : Kept) : Type
    0 where
  pub frame : FrameContent
  pub would_accept : step.taken ≡ Some frame
  pub too_long : spare < length frame.text
  pub reply_is : result.reply ≡ Some NAK
  pub message_is : result.message ≡ None
  pub spare_kept : spare ≤ new.spare
  pub state : IsIn limit new r

-- the spare room after a step: an intermediate frame that was taken lowers it by at most its length, a last one may
-- leave none, and nothing else lowers it
abbrev pub SpareAfter : ℕ → ℕ → Option FrameContent → Type 0
SpareAfter before after None = before ≤ after
SpareAfter before after (Some frame) = frame.last ≡ false → before ≤ after + length frame.text

-- the bytes of text for which there is memory, held or spare
abbrev pub room_of : Kept → ℕ
room_of kept = length kept.held + kept.spare

-- it stays if no frame is accepted; if memory runs out it is no less; a text that is delivered takes its memory along
abbrev pub KeepsRoom : Note → Option (List ℕ) → ℕ → ℕ → Type 0
KeepsRoom (Accepted number) None before after = ⊤
KeepsRoom (Accepted number) (Some text) before after = after ≡ 0
KeepsRoom OutOfMemory message before after = before ≤ after
KeepsRoom note message before after = after ≡ before
