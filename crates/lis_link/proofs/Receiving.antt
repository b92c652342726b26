-- Steps of the receiver that its program makes.
use Rattle.std.proofs.Common.{◌≡◌, ℕ, ◌+◌, true, [], ◌∷◌, ◌++◌, length, sym, ap, ◌∙◌, subst}
use Rattle.std.proofs.lemmas.List.{length_push}
use Rattle.lis_frame.specs.declared.scanner.SignalOf.TheVariants.{Good}
use Rattle.lis_frame.specs.Frame.{FrameContent}
use Rattle.lis_link.specs.declared.receiver.Note.TheVariants.{Accepted}
use Rattle.lis_link.specs.declared.receiver.Step.{Step}
use Rattle.lis_link.specs.Joining.{held_with, completed}
use Rattle.lis_frame.specs.Scanner.{Held}
use Rattle.lis_link.specs.Kept.{KeptLine, kept_of}
use Rattle.lis_link.specs.Receiver.{ReceiverState, classified_by, classified, on_classified, heard_by, held_text}
use Rattle.lis_link.specs.Receiver.{held_while}
use Rattle.lis_link.specs.Representation.{IsIn, IsStepMade}
use Rattle.lis_link.specs.inside.Representation.{IsTaken}
use Rattle.lis_link.proofs.JoiningLaws.{rest-append}

taken_step :
    (limit : ℕ) (scanner : Held) (old new : KeptLine) (r : ReceiverState) (f : FrameContent) (n : ℕ) (result : Step)
    → IsIn limit (kept_of old scanner) r
    → r.is_open ≡ true
    → IsTaken old f n result new
    → IsStepMade limit (on_classified r f (Accepted n)) result (kept_of new scanner)
taken_step limit scanner old new r f n result is_in open_is taken =
    let held : old.held ≡ held_text r = is_in.held_is ∙ ap (λ o. held_while o (held_text r)) open_is in
    record {
      answer = record {
        reply_is = taken.reply_is;
        message_is = taken.message_is ∙ ap (λ t. completed t f) held;
        note_is = taken.note_is;
      };
      state = subst (λ k. IsIn limit (kept_of k scanner) (record r { accepted = r.accepted ++ f ∷ [] }))
          (sym taken.new_is) (record {
            open_is = is_in.open_is;
            accepted_is = ap (λ k. k + 1) is_in.accepted_is ∙ sym (length_push r.accepted f);
            readiness_is = is_in.readiness_is;
            room_is = is_in.room_is;
            held_is =
                ap (λ t. held_with t f) held ∙ sym (rest-append [] r.accepted (f ∷ []))
                ∙ sym (ap (λ o. held_while o (held_text (record r { accepted = r.accepted ++ f ∷ [] }))) open_is);
            stream_is = is_in.stream_is;
          });
    }

-- a frame that was found acceptable, and taken
pub accepted_step :
    (limit : ℕ) (scanner : Held) (old new : KeptLine) (r : ReceiverState) (f : FrameContent) (n : ℕ) (result : Step)
    → IsIn limit (kept_of old scanner) r
    → old.is_open ≡ true
    → Accepted n ≡ classified_by old.accepted (length old.held) old.room f.number (length f.text)
    → IsTaken old f n result new
    → IsStepMade limit (heard_by {limit = limit} r.is_open (Good f) r) result (kept_of new scanner)
accepted_step limit scanner old new r f n result is_in is_open found taken =
    let open_is : r.is_open ≡ true = sym is_in.open_is ∙ is_open in
    let held : length old.held ≡ length (held_text r) =
    ap length (is_in.held_is ∙ ap (λ o. held_while o (held_text r)) open_is) in
    let found_is : Accepted n ≡ classified r f =
    found
    ∙ ap (λ a. classified_by a (length old.held) old.room f.number (length f.text)) is_in.accepted_is
    ∙ ap (λ h. classified_by (length r.accepted) h old.room f.number (length f.text)) held
    ∙ ap (λ m. classified_by (length r.accepted) (length (held_text r)) m f.number (length f.text)) is_in.room_is in
    let step = taken_step limit scanner old new r f n result is_in open_is taken in
    subst (λ o. IsStepMade limit (heard_by {limit = limit} o (Good f) r) result (kept_of new scanner)) (sym open_is)
    (subst (λ note. IsStepMade limit (on_classified r f note) result (kept_of new scanner)) found_is step)
