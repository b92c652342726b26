-- What a receiver's private calls answer: a frame is taken, or the first of some bytes are heard.
use Rattle.std.specs.Prelude.{◌≡◌, ◌≢◌, ℕ, ◌+◌, List, length, take, drop, None, Some}
use Rattle.lis_text.specs.Control.{ACK}
use Rattle.lis_frame.specs.Frame.{FrameContent}
use Rattle.lis_link.specs.declared.receiver.Hearing.{Hearing}
use Rattle.lis_link.specs.declared.receiver.Note.TheVariants.{Accepted, OutOfMemory, Quiet}
use Rattle.lis_link.specs.declared.receiver.Step.{Step}
use Rattle.lis_link.specs.Joining.{completed, held_with}
use Rattle.lis_link.specs.Kept.{Kept, KeptLine}
use Rattle.lis_link.specs.Receiver.{ReceiverState, ReceiverStep, answers, heard_on, on_bytes, with_heard}
use Rattle.lis_link.specs.Representation.{IsStepMade, RefusesFrame, SpareAfter}

-- the bytes of text for which there is memory, held or spare
abbrev pub room_in : KeptLine → ℕ
room_in line = length line.held + line.spare

-- a frame was taken: what is held and delivered, and that nothing else but the count has changed
pub record IsTaken (old : KeptLine) (frame : FrameContent) (number : ℕ) (result : Step) (new : KeptLine) : Type 0 where
  pub reply_is : result.reply ≡ Some ACK
  pub message_is : result.message ≡ completed old.held frame
  pub note_is : result.note ≡ Accepted number
  pub new_is : new ≡ record old { accepted = old.accepted + 1; held = held_with old.held frame; spare = new.spare }

-- the front of bytes was heard: all but its last byte were quiet, this step is meant for the last, and it was made or
-- rejected; where it is quiet too, nothing has changed but the stream
pub record HearsFront (limit : ℕ) (bytes : List ℕ) (r : ReceiverState) (spare : ℕ) (result : Hearing) (new : Kept) :
    Type 0 where
  pub meant : ReceiverStep
  pub goes_on : on_bytes limit bytes r
      ≡ heard_on result.count meant.note meant (on_bytes limit (drop result.count bytes)
      (with_heard (take result.count bytes) r))
  pub quiet : meant.note ≡ Quiet → meant ≡ answers None Quiet (with_heard (take result.count bytes) r)
  pub makes : result.step.note ≢ OutOfMemory → IsStepMade limit meant result.step new
  pub refused : result.step.note ≡ OutOfMemory → RefusesFrame limit spare meant
      (with_heard (take result.count bytes) r) result.step new
  pub spare_after : SpareAfter spare new.spare meant.taken
