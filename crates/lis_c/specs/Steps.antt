-- What C gets of a receiver's step.
use Rattle.std.specs.Prelude.{◌≡◌, ◌≢◌, ℕ, ◌<◌, ◌≤◌, Bool, true, false, List, length, Option, None, Some}
use Rattle.lis_text.specs.Control.{NAK}
use Rattle.lis_frame.specs.Frame.{FrameContent}
use Rattle.lis_link.specs.declared.receiver.Note.TheVariants.{OutOfMemory}
use Rattle.lis_link.specs.Receiver.{ReceiverState, ReceiverStep}
use Rattle.lis_c.specs.Codes.{note_code, note_detail, note_place, reply_code}
use Rattle.lis_c.specs.Limits.{Receives, spare_of}
use Rattle.lis_c.specs.declared.handle_state.ReceiverHandleState.{ReceiverHandleState}
use Rattle.lis_c.specs.declared.out.LisStep.{LisStep}

-- memory ran out
abbrev pub IsOutOfMemory : LisStep → Type 0
IsOutOfMemory out = out.note ≡ note_code OutOfMemory

abbrev pub IsNotOutOfMemory : LisStep → Type 0
IsNotOutOfMemory out = out.note ≢ note_code OutOfMemory

-- a text that is delivered is held, and where none is, the one before it
abbrev pub HoldsText : Option (List ℕ) → Bool → List ℕ → List ℕ → Type 0
HoldsText None has before text = (has ≡ false) × (text ≡ before)
HoldsText (Some message) has before text = (has ≡ true) × (text ≡ message)

-- the step was made and reported
pub record MakesStep (step : ReceiverStep) (old : ReceiverHandleState) (out : LisStep) (new : ReceiverHandleState) :
    Type 0 where
  pub reply_is : out.reply ≡ reply_code step.reply
  pub note_is : out.note ≡ note_code step.note
  pub detail_is : out.detail ≡ note_detail step.note
  pub place_is : out.place ≡ note_place step.note
  pub text_is : HoldsText step.message out.has_text old.text new.text
  pub state : Receives new.receiver step.after

-- memory ran out for a frame that would be accepted and is longer than the spare room: NAK, and nothing else; what
-- was reserved stays
pub record ReportsRefusedFrame (step : ReceiverStep) (r : ReceiverState) (old : ReceiverHandleState) (out : LisStep)
    (new : ReceiverHandleState) : Type 0 where
  pub frame : FrameContent
  pub would_accept : step.taken ≡ Some frame
  pub too_long : spare_of old.receiver < length frame.text
  pub reply_is : out.reply ≡ NAK
  pub detail_is : out.detail ≡ 0
  pub place_is : out.place ≡ 0
  pub text_is : HoldsText None out.has_text old.text new.text
  pub spare_kept : spare_of old.receiver ≤ spare_of new.receiver
  pub state : Receives new.receiver r
