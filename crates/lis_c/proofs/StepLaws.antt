-- A receiver's answer, reported in numbers.
use Rattle.std.proofs.Common.{◌≡◌, ◌≤◌, ℕ, List, Option, None, Some, refl, ap, sym, ◌∙◌, subst, arith}
use Rattle.lis_frame.specs.Frame.{FrameContent}
use Rattle.lis_link.specs.declared.receiver.Note.{Note}
use Rattle.lis_link.specs.declared.receiver.Note.TheVariants as Notes
use Rattle.lis_link.specs.declared.receiver.Step.{Step}
use Rattle.lis_link.specs.Receiver.{ReceiverState, ReceiverStep}
use Rattle.lis_link.specs.Representation.{SpareAfter}
use Rattle.lis_link.specs.Representation as Representation
use Rattle.lis_c.specs.Codes.{note_code, note_detail, note_place, reply_code}
use Rattle.lis_c.specs.Limits.{Receives, kept_by, receiver_limit, spare_of}
use Rattle.lis_c.specs.Steps.{ReportsRefusedFrame, HoldsText}
use Rattle.lis_c.specs.inside.Steps.{ReportsStep}
use Rattle.lis_c.specs.declared.handle_state.ReceiverHandleState.{ReceiverHandleState}
use Rattle.lis_c.specs.declared.out.LisStep.{LisStep}
use Rattle.lis_c.specs.declared.receiving.AnyReceiver.{AnyReceiver}

pub out_of_memory : (note : Note) → note_code note ≡ 11 → note ≡ Notes.OutOfMemory
out_of_memory Notes.OutOfMemory e = refl
out_of_memory note e = absurd (omega (e, arith))

-- the answer means that memory ran out exactly where its note does
pub is_out : (answer : Step) (before text : List ℕ) (out : LisStep) → ReportsStep answer before out text
    → out.note ≡ 11 → answer.note ≡ Notes.OutOfMemory
is_out answer before text out reported same = out_of_memory answer.note (sym reported.note_is ∙ same)

-- a step for which memory ran out is reported
pub refused :
    (step : ReceiverStep) (r : ReceiverState) (answer : Step) (kept : AnyReceiver) (old new : ReceiverHandleState)
    (out : LisStep) →
    (answer.note ≡ Notes.OutOfMemory →
    Representation.RefusesFrame (receiver_limit kept) (spare_of old.receiver) step r answer (kept_by kept)) →
    ReportsStep answer old.text out new.text → out.note ≡ 11 → spare_of kept ≤ spare_of new.receiver →
    ((s : ReceiverState) → Receives kept s → Receives new.receiver s) → ReportsRefusedFrame step r old out new
refused step r answer kept old new out refuses reported same more stays =
    let note = is_out answer old.text new.text out reported same in
    let was = refuses note in
    record {
      frame = was.frame;
      would_accept = was.would_accept;
      too_long = was.too_long;
      reply_is = reported.reply_is ∙ ap reply_code was.reply_is;
      detail_is = reported.detail_is ∙ ap note_detail note;
      place_is = reported.place_is ∙ ap note_place note;
      text_is = subst (λ message. HoldsText message out.has_text old.text new.text) was.message_is reported.text_is;
      spare_kept = omega (was.spare_kept, more, arith);
      state = stays r was.state;
    }

-- more room than is promised after a step is as good
pub with_more : (before after more : ℕ) (taken : Option FrameContent) → SpareAfter before after taken → after ≤ more →
    SpareAfter before more taken
with_more before after more None kept le = omega (kept, le, arith)
with_more before after more (Some frame) kept le = λ inner. omega (kept inner, le, arith)
