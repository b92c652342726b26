-- Careful hearing is the receiver's own of what each byte is heard as.
use Rattle.std.proofs.Common.{◌≡◌, ◌≢◌, ℕ, suc, ◌+◌, ◌≤◌, ◌<◌, Bool, true, false, List, [], ◌∷◌, ◌++◌}
use Rattle.std.proofs.Common.{Option}
use Rattle.std.proofs.Common.{None, Some, length, take, drop, refl, ap, sym, ◌∙◌, subst, arith, drop-drop, get_or}
use Rattle.std.proofs.Common.{length-drop}
use Rattle.std.proofs.lemmas.List.{nil_from_length}
use Rattle.std.specs.Option.{is_some}
use Rattle.std.specs.Prelude.{◌==◌, ◌&&◌, ◌||◌}
use Rattle.lis_text.specs.Control.{STX, LF, ENQ, EOT}
use Rattle.lis_text.specs.declared.readiness.Readiness.{Readiness}
use Rattle.lis_text.specs.declared.readiness.Readiness.TheVariants.{Ready, Busy, Contending}
use Rattle.lis_frame.specs.declared.scanner.SignalOf.{SignalOf}
use Rattle.lis_frame.specs.declared.scanner.SignalOf.TheVariants.{Enq, Eot, Good, Bad}
use Rattle.lis_frame.specs.Frame.{FrameContent}
use Rattle.lis_frame.specs.declared.scanner.Heard.{Heard}
use Rattle.lis_frame.specs.declared.scanner.Heard.TheVariants as heards
use Rattle.lis_frame.specs.Scanner.{StandsFor, heard_signal}
use Rattle.lis_frame.specs.Stream.{open_body, ended_body, signal_after, stream_with}
use Rattle.lis_link.specs.declared.receiver.Hearing.{Hearing}
use Rattle.lis_link.specs.declared.receiver.Note.{Note}
use Rattle.lis_link.specs.declared.receiver.Note.TheVariants.{Quiet, Accepted, Duplicate, OutOfMemory}
use Rattle.lis_link.specs.declared.receiver.Step.{Step}
use Rattle.lis_link.specs.Kept.{Kept}
use Rattle.lis_link.specs.Representation.{IsIn, IsStepMade, RefusesFrame, SpareAfter}
use Rattle.lis_link.specs.Receiver.{ReceiverState, ReceiverStep, ReceiverHearing, answers, answered_request, classified}
use Rattle.lis_link.specs.Receiver.{on_classified, heard_by, heard, on_byte, on_bytes, heard_on, with_heard}
use Rattle.lis_link.proofs.HearingLaws.{passed, on_byte-quiet}
use Rattle.lis_careful.specs.Careful.{begins_within, is_altered, is_noise, heard_only}
use Rattle.lis_careful.specs.inside.Hearing.{AreUnspecial, is_special}
use Rattle.lis_careful.specs.Careful.{ends_session, session_ended, heard_as, careful_by, on_byte_carefully}
use Rattle.lis_careful.specs.Careful.{on_bytes_by, on_bytes_carefully, noise_by, noise_in, noise_of, counted_on}
use Rattle.lis_careful.specs.declared.receiver.CarefulHearing.{CarefulHearing}
use Rattle.lis_careful.specs.inside.Hearing.{HearsFront, IsHeard}

-- ---- one byte

-- a byte is added to the stream, whatever it means
request-past : (readiness : Readiness) (r : ReceiverState) → (answered_request readiness r).after.past ≡ r.past
request-past Ready r = refl
request-past Busy r = refl
request-past Contending r = refl

classified-past : (r : ReceiverState) (frame : FrameContent) (note : Note) → (on_classified r frame note).after.past
    ≡ r.past
classified-past r frame (Accepted n) = refl
classified-past r frame (Duplicate n) = refl
classified-past r frame _ = refl

heard_by-past : {limit : ℕ} (is_open : Bool) (signal : SignalOf limit) (r : ReceiverState)
    → (heard_by is_open signal r).after.past ≡ r.past
heard_by-past true Enq r = request-past r.readiness r
heard_by-past true Eot r = refl
heard_by-past true (Good frame) r = classified-past r frame (classified r frame)
heard_by-past true (Bad fault) r = refl
heard_by-past false Enq r = request-past r.readiness r
heard_by-past false Eot r = refl
heard_by-past false (Good frame) r = refl
heard_by-past false (Bad fault) r = refl

heard-past : {limit : ℕ} (signal : Option (SignalOf limit)) (r : ReceiverState) → (heard signal r).after.past ≡ r.past
heard-past None r = refl
heard-past (Some signal) r = heard_by-past r.is_open signal r

pub on_byte-past : (limit b : ℕ) (r : ReceiverState) → (on_byte limit b r).after.past ≡ b ∷ r.past
on_byte-past limit b r = heard-past (signal_after limit r.past b) (with_heard (b ∷ []) r)

pub on_byte-heard_only : (limit b : ℕ) (r : ReceiverState)
    → record r { past = b ∷ r.past } ≡ heard_only (on_byte limit b r) r
on_byte-heard_only limit b r = ap (λ (p : List ℕ). record r { past = p }) (sym (on_byte-past limit b r))

-- the end of a session is heard as EOT
pub eot_ends : (limit : ℕ) (r : ReceiverState) → r.is_open ≡ true
    → on_byte limit EOT r ≡ record (session_ended r) {
      after = record r { is_open = false; past = EOT ∷ r.past };
    }
unfolding signal_after
eot_ends limit r is_open = rw is_open refl

pub forgets : (limit : ℕ) (kept : Kept) (r : ReceiverState) → IsIn limit kept (record r { past = EOT ∷ r.past })
    → IsIn limit kept (record r { past = [] })
unfolding StandsFor open_body
forgets limit kept r is_in = record {
  open_is = is_in.open_is;
  accepted_is = is_in.accepted_is;
  readiness_is = is_in.readiness_is;
  room_is = is_in.room_is;
  held_is = is_in.held_is;
  stream_is = is_in.stream_is;
}

pub open_then : (is_open ends : Bool) → (is_open && ends) ≡ true → is_open ≡ true
open_then true ends e = refl
open_then false ends e = e

pub ended_made : (limit b : ℕ) (r : ReceiverState) (result : Step) (new : Kept) → ends_session r b ≡ true
    → IsStepMade limit (on_byte limit EOT r) result new → IsStepMade limit (on_byte_carefully limit b r) result new
ended_made limit b r result new ends made =
    let is_open = open_then r.is_open (b == ENQ || b == EOT) ends in
    let eot : IsStepMade limit (record (session_ended r) {
      after = record r { is_open = false; past = EOT ∷ r.past };
    }) result new = subst (λ (s : ReceiverStep). IsStepMade limit s result new) (eot_ends limit r is_open) made in
    let here : IsStepMade limit (session_ended r) result new = record {
      answer = record {
        reply_is = eot.answer.reply_is;
        message_is = eot.answer.message_is;
        note_is = eot.answer.note_is;
      };
      state = forgets limit new (record r { is_open = false }) eot.state;
    } in
    subst (λ t. IsStepMade limit (careful_by t limit b r) result new) (sym ends) here

pub ended_refused : (limit b spare : ℕ) (r other : ReceiverState) (result : Step) (new : Kept) (A : Type 0)
    → ends_session r b ≡ true → RefusesFrame limit spare (on_byte limit EOT r) other result new → A
ended_refused limit b spare r other result new A ends refused =
    let is_open = open_then r.is_open (b == ENQ || b == EOT) ends in
    let none : (on_byte limit EOT r).taken ≡ None = ap (λ (s : ReceiverStep). s.taken) (eot_ends limit r is_open) in
    let some = refused.would_accept in
    absurd (cc)

pub ended_spare : (limit b before after : ℕ) (r : ReceiverState) → ends_session r b ≡ true
    → SpareAfter before after (on_byte limit EOT r).taken → SpareAfter before after (on_byte_carefully limit b r).taken
ended_spare limit b before after r ends spare =
    let is_open = open_then r.is_open (b == ENQ || b == EOT) ends in
    let none : (on_byte limit EOT r).taken ≡ None = ap (λ (s : ReceiverStep). s.taken) (eot_ends limit r is_open) in
    subst (λ t. SpareAfter before after (careful_by t limit b r).taken) (sym ends)
    (subst (λ t. SpareAfter before after t) none spare)

-- any other byte is the receiver's own
pub not_ended : (limit b : ℕ) (r : ReceiverState) → ends_session r b ≡ false
    → on_byte limit (heard_as (open_body r.past) b) r ≡ on_byte_carefully limit b r
not_ended limit b r goes = ap (λ t. careful_by t limit b r) (sym goes)

pub none_ends : (is_open : Bool) → (is_open && false) ≡ false
none_ends true = refl
none_ends false = refl

pub itself : (within : Option (List ℕ)) (b : ℕ) → (b == STX) ≡ false → heard_as within b ≡ b
itself None b e = refl
itself (Some body) b e = rw e refl

as_pinned : (limit b : ℕ) (r : ReceiverState) → (b == ENQ || b == EOT) ≡ false → heard_as (open_body r.past) b ≡ b
    → on_byte_carefully limit b r ≡ on_byte limit b r
as_pinned limit b r other same =
    let goes : ends_session r b ≡ false = ap (λ t. r.is_open && t) other ∙ none_ends r.is_open in
    sym (not_ended limit b r goes) ∙ ap (λ c. on_byte limit c r) same

pub first_false : (a b : Bool) → (a || b) ≡ false → a ≡ false
first_false true b e = e
first_false false b e = refl

pub second_false : (a b : Bool) → (a || b) ≡ false → b ≡ false
second_false true b e = cc
second_false false b e = e

pub unspecial_step : (limit b : ℕ) (r : ReceiverState) → is_special b ≡ false
    → on_byte_carefully limit b r ≡ on_byte limit b r
unspecial_step limit b r plain =
    as_pinned limit b r (second_false (b == STX) (b == ENQ || b == EOT) plain)
    (itself (open_body r.past) b (first_false (b == STX) (b == ENQ || b == EOT) plain))

outside_is : (within : Option (List ℕ)) → begins_within within STX ≡ false → within ≡ None
outside_is None e = refl
outside_is (Some body) e = cc

pub start_step : (limit : ℕ) (r : ReceiverState) → begins_within (open_body r.past) STX ≡ false
    → on_byte_carefully limit STX r ≡ on_byte limit STX r
start_step limit r outside =
    as_pinned limit STX r refl (ap (λ o. heard_as o STX) (outside_is (open_body r.past) outside))

-- ---- bytes that the receiver hears at once

passed-none : (following : ReceiverHearing) → following ≡ passed 0 following
passed-none following =
    let none : following.count ≡ 0 + following.count = omega arith in
    ap (λ (n : ℕ). record following { count = n }) none

passed-passed : (m n : ℕ) (following : ReceiverHearing) → passed m (passed n following) ≡ passed (m + n) following
passed-passed m n following =
    let sum : m + (n + following.count) ≡ m + n + following.count = omega arith in
    ap (λ (k : ℕ). record following { count = k }) sum

passed-heard_on :
    (m n : ℕ) (note : Note) (step : ReceiverStep) (following : ReceiverHearing) →
    passed m (heard_on n note step following) ≡ heard_on (m + n) note step following
passed-heard_on m n Quiet step following = passed-passed m n following
passed-heard_on m n _ step following = refl

-- careful hearing goes on after what the receiver hears at once of the front
abbrev pub GoesOn : ℕ → List ℕ → List ℕ → ReceiverState → ReceiverHearing → Type 0
GoesOn limit xs following r h =
    on_bytes_carefully limit (xs ++ following) r
    ≡ heard_on h.count h.step.note h.step (on_bytes_carefully limit (drop h.count (xs ++ following)) h.step.after)

first_and_rest :
    (limit b : ℕ) (xs following : List ℕ) (r : ReceiverState)
    → on_byte_carefully limit b r ≡ on_byte limit b r
    → GoesOn limit xs following (with_heard (b ∷ []) r) (on_bytes limit xs (with_heard (b ∷ []) r))
    → GoesOn limit (b ∷ xs) following r (on_bytes limit (b ∷ xs) r)
first_and_rest limit b xs following r same later =
    ap (λ (s : ReceiverStep). heard_on 1 s.note s (on_bytes_carefully limit (xs ++ following) s.after)) same
    ∙ by (on_byte limit b r).note refl later
  where
    by :
        (note : Note) → (on_byte limit b r).note ≡ note
        → GoesOn limit xs following (with_heard (b ∷ []) r) (on_bytes limit xs (with_heard (b ∷ []) r))
        → heard_on 1 note (on_byte limit b r)
        (on_bytes_carefully limit (xs ++ following) (on_byte limit b r).after)
        ≡ heard_on
        (heard_on 1 note (on_byte limit b r) (on_bytes limit xs (with_heard (b ∷ []) r))).count
        (heard_on 1 note (on_byte limit b r) (on_bytes limit xs (with_heard (b ∷ []) r))).step.note
        (heard_on 1 note (on_byte limit b r) (on_bytes limit xs (with_heard (b ∷ []) r))).step
        (on_bytes_carefully limit
        (drop (heard_on 1 note (on_byte limit b r) (on_bytes limit xs (with_heard (b ∷ []) r))).count
        (b ∷ (xs ++ following)))
        (heard_on 1 note (on_byte limit b r) (on_bytes limit xs (with_heard (b ∷ []) r))).step.after)
    by Quiet e later =
        let h : ReceiverHearing = on_bytes limit xs (with_heard (b ∷ []) r) in
        let after_is : (on_byte limit b r).after ≡ with_heard (b ∷ []) r =
        ap (λ (s : ReceiverStep). s.after) (on_byte-quiet limit b r e) in
        let further : 1 + h.count ≡ suc h.count = omega arith in
        ap (λ (s : ReceiverState). passed 1 (on_bytes_carefully limit (xs ++ following) s)) after_is
        ∙ ap (passed 1) later
        ∙ passed-heard_on 1 h.count h.step.note h.step
        (on_bytes_carefully limit (drop h.count (xs ++ following)) h.step.after)
        ∙ ap (λ n. heard_on (1 + h.count) h.step.note h.step
        (on_bytes_carefully limit (drop n (b ∷ (xs ++ following))) h.step.after)) (sym further)
    by note e later = ap (λ m. heard_on 1 m (on_byte limit b r)
        (on_bytes_carefully limit (xs ++ following) (on_byte limit b r).after)) (sym e)

unspecial_goes_on : (limit : ℕ) (xs following : List ℕ) (r : ReceiverState) → AreUnspecial xs
    → GoesOn limit xs following r (on_bytes limit xs r)
unspecial_goes_on limit [] following r plain = passed-none (on_bytes_carefully limit following r)
unspecial_goes_on limit (b ∷ xs) following r plain =
    first_and_rest limit b xs following r (unspecial_step limit b r plain.0)
    (unspecial_goes_on limit xs following (with_heard (b ∷ []) r) plain.1)

-- no noise is among them
not_noise : (is_open enquiry other within : Bool) → (is_open && (enquiry || other) || within) ≡ false
    → (is_open && (enquiry || within)) ≡ false
not_noise true true other within e = cc
not_noise true false true within e = cc
not_noise true false false within e = e
not_noise false enquiry other within e = refl

pub plain_no_noise : (b : ℕ) (r : ReceiverState) → is_altered r b ≡ false → is_noise r b ≡ false
plain_no_noise b r plain = not_noise r.is_open (b == ENQ) (b == EOT) (begins_within (open_body r.past) b) plain

within_start : (within : Option (List ℕ)) (b : ℕ) → (b == STX) ≡ false → begins_within within b ≡ false
within_start None b e = refl
within_start (Some body) b e = e

neither : (is_open enquiry within : Bool) → enquiry ≡ false → within ≡ false → (is_open && (enquiry || within)) ≡ false
neither true enquiry within first second = rw (first, second) refl
neither false enquiry within first second = refl

unspecial_no_noise : (b : ℕ) (r : ReceiverState) → is_special b ≡ false → is_noise r b ≡ false
unspecial_no_noise b r plain =
    let others = second_false (b == STX) (b == ENQ || b == EOT) plain in
    neither r.is_open (b == ENQ) (begins_within (open_body r.past) b) (first_false (b == ENQ) (b == EOT) others)
    (within_start (open_body r.past) b (first_false (b == STX) (b == ENQ || b == EOT) plain))

abbrev NoNoise : ℕ → List ℕ → List ℕ → ReceiverState → ReceiverHearing → Type 0
NoNoise limit xs following r h =
    noise_in limit (xs ++ following) r
    ≡ counted_on 0 h.step.note (noise_in limit (drop h.count (xs ++ following)) h.step.after)

none_more : (n : ℕ) → n ≡ 0 + n
none_more n = omega arith

none_counted : (note : Note) (n : ℕ) → 0 + counted_on 0 note n ≡ counted_on 0 note n
none_counted note n = omega arith

first_no_noise :
    (limit b : ℕ) (xs following : List ℕ) (r : ReceiverState) → is_noise r b ≡ false
    → on_byte_carefully limit b r ≡ on_byte limit b r
    → NoNoise limit xs following (with_heard (b ∷ []) r) (on_bytes limit xs (with_heard (b ∷ []) r))
    → NoNoise limit (b ∷ xs) following r (on_bytes limit (b ∷ xs) r)
first_no_noise limit b xs following r none same later =
    ap (λ t. counted_on (noise_of t) (on_byte_carefully limit b r).note
    (noise_in limit (xs ++ following) (on_byte_carefully limit b r).after)) none
    ∙ ap (λ (s : ReceiverStep). counted_on 0 s.note (noise_in limit (xs ++ following) s.after)) same
    ∙ by (on_byte limit b r).note refl later
  where
    by :
        (note : Note) → (on_byte limit b r).note ≡ note
        → NoNoise limit xs following (with_heard (b ∷ []) r) (on_bytes limit xs (with_heard (b ∷ []) r))
        → counted_on 0 note (noise_in limit (xs ++ following) (on_byte limit b r).after)
        ≡ counted_on 0
        (heard_on 1 note (on_byte limit b r) (on_bytes limit xs (with_heard (b ∷ []) r))).step.note
        (noise_in limit
        (drop (heard_on 1 note (on_byte limit b r) (on_bytes limit xs (with_heard (b ∷ []) r))).count
        (b ∷ (xs ++ following)))
        (heard_on 1 note (on_byte limit b r) (on_bytes limit xs (with_heard (b ∷ []) r))).step.after)
    by Quiet e later =
        let h : ReceiverHearing = on_bytes limit xs (with_heard (b ∷ []) r) in
        let after_is : (on_byte limit b r).after ≡ with_heard (b ∷ []) r =
        ap (λ (s : ReceiverStep). s.after) (on_byte-quiet limit b r e) in
        let further : 1 + h.count ≡ suc h.count = omega arith in
        ap (λ (s : ReceiverState). 0 + noise_in limit (xs ++ following) s) after_is
        ∙ ap (λ n. 0 + n) later
        ∙ none_counted h.step.note (noise_in limit (drop h.count (xs ++ following)) h.step.after)
        ∙ ap (λ n. counted_on 0 h.step.note (noise_in limit (drop n (b ∷ (xs ++ following))) h.step.after))
        (sym further)
    by note e later = ap (λ m. counted_on 0 m
        (noise_in limit (xs ++ following) (on_byte limit b r).after)) (sym e)

unspecial_none : (limit : ℕ) (xs following : List ℕ) (r : ReceiverState) → AreUnspecial xs
    → NoNoise limit xs following r (on_bytes limit xs r)
unspecial_none limit [] following r plain = none_more (noise_in limit following r)
unspecial_none limit (b ∷ xs) following r plain =
    first_no_noise limit b xs following r (unspecial_no_noise b r plain.0) (unspecial_step limit b r plain.0)
    (unspecial_none limit xs following (with_heard (b ∷ []) r) plain.1)

-- what is quiet of them changes the stream alone
on_bytes-quiet : (limit : ℕ) (xs : List ℕ) (r : ReceiverState) → (on_bytes limit xs r).step.note ≡ Quiet
    → (on_bytes limit xs r).step ≡ answers None Quiet (heard_only (on_bytes limit xs r).step r)
on_bytes-quiet limit [] r e = refl
on_bytes-quiet limit (b ∷ xs) r e = by (on_byte limit b r).note refl e (on_bytes-quiet limit xs (with_heard (b ∷ []) r))
  where
    by :
        (note : Note) → (on_byte limit b r).note ≡ note
        → (heard_on 1 note (on_byte limit b r) (on_bytes limit xs (with_heard (b ∷ []) r))).step.note ≡ Quiet
        → ((on_bytes limit xs (with_heard (b ∷ []) r)).step.note ≡ Quiet
        → (on_bytes limit xs (with_heard (b ∷ []) r)).step
        ≡ answers None Quiet (heard_only (on_bytes limit xs (with_heard (b ∷ []) r)).step r))
        → (heard_on 1 note (on_byte limit b r) (on_bytes limit xs (with_heard (b ∷ []) r))).step
        ≡ answers None Quiet (heard_only (heard_on 1 note (on_byte limit b r)
        (on_bytes limit xs (with_heard (b ∷ []) r))).step r)
    by Quiet is e later = later e
    by note is e later = cc

on_bytes-past : (limit : ℕ) (xs : List ℕ) (r : ReceiverState)
    → (on_bytes limit xs r).step.after.past ≡ stream_with r.past (take (on_bytes limit xs r).count xs)
on_bytes-past limit [] r = refl
on_bytes-past limit (b ∷ xs) r = by (on_byte limit b r).note (on_bytes-past limit xs (with_heard (b ∷ []) r))
  where
    by :
        (note : Note)
        → (on_bytes limit xs (with_heard (b ∷ []) r)).step.after.past
        ≡ stream_with (b ∷ r.past) (take (on_bytes limit xs (with_heard (b ∷ []) r)).count xs)
        → (heard_on 1 note (on_byte limit b r) (on_bytes limit xs (with_heard (b ∷ []) r))).step.after.past
        ≡ stream_with r.past (take (heard_on 1 note (on_byte limit b r)
        (on_bytes limit xs (with_heard (b ∷ []) r))).count (b ∷ xs))
    by Quiet later =
        let h : ReceiverHearing = on_bytes limit xs (with_heard (b ∷ []) r) in
        let further : suc h.count ≡ 1 + h.count = omega arith in
        later ∙ ap (λ n. stream_with r.past (take n (b ∷ xs))) further
    by note later = on_byte-past limit b r

-- bytes of which none is noise
abbrev pub quietly : Hearing → CarefulHearing
quietly h = record { count = h.count; noise = 0; step = h.step }

-- the front is what the receiver hears at once of bytes of which the first is not altered and the others not special
not_altered : (limit b : ℕ) (r : ReceiverState) → is_altered r b ≡ false
    → on_byte_carefully limit b r ≡ on_byte limit b r
not_altered limit b r plain =
    sym (not_ended limit b r (first_false (ends_session r b) (begins_within (open_body r.past) b) plain))
    ∙ ap (λ c. on_byte limit c r)
    (same (open_body r.past) (second_false (ends_session r b) (begins_within (open_body r.past) b) plain))
  where
    same : (within : Option (List ℕ)) → begins_within within b ≡ false → heard_as within b ≡ b
    same None e = refl
    same (Some body) e = rw e refl

pub front_plain :
    (limit b : ℕ) (bytes xs following : List ℕ) (r : ReceiverState) (spare : ℕ) (result : Hearing) (new : Kept)
    → bytes ≡ (b ∷ xs) ++ following → is_altered r b ≡ false → AreUnspecial xs
    → result.count ≡ (on_bytes limit (b ∷ xs) r).count
    → (result.step.note ≢ OutOfMemory → IsStepMade limit (on_bytes limit (b ∷ xs) r).step result.step new)
    → (result.step.note ≡ OutOfMemory → RefusesFrame limit spare (on_bytes limit (b ∷ xs) r).step
    (with_heard (take result.count (b ∷ xs)) r) result.step new)
    → SpareAfter spare new.spare (on_bytes limit (b ∷ xs) r).step.taken
    → HearsFront limit (on_byte_carefully limit) bytes r spare (quietly result) new
front_plain limit b bytes xs following r spare result new bytes_are plain others count_is makes refused spare_after =
    let h : ReceiverHearing = on_bytes limit (b ∷ xs) r in
    let all : on_bytes_carefully limit ((b ∷ xs) ++ following) r
    ≡ heard_on h.count h.step.note h.step
    (on_bytes_carefully limit (drop h.count ((b ∷ xs) ++ following)) h.step.after) =
    first_and_rest limit b xs following r (not_altered limit b r plain)
    (unspecial_goes_on limit xs following (with_heard (b ∷ []) r) others) in
    let noise : noise_in limit ((b ∷ xs) ++ following) r
    ≡ counted_on 0 h.step.note (noise_in limit (drop h.count ((b ∷ xs) ++ following)) h.step.after) =
    first_no_noise limit b xs following r (plain_no_noise b r plain) (not_altered limit b r plain)
    (unspecial_none limit xs following (with_heard (b ∷ []) r) others) in
    let past_is : stream_with r.past (take result.count (b ∷ xs)) ≡ h.step.after.past =
    ap (λ n. stream_with r.past (take n (b ∷ xs))) count_is ∙ sym (on_bytes-past limit (b ∷ xs) r) in
    record {
      meant = h.step;
      goes_on = subst (λ (ys : List ℕ). on_bytes_carefully limit ys r
          ≡ heard_on result.count h.step.note h.step
          (on_bytes_carefully limit (drop result.count ys) h.step.after)) (sym bytes_are)
          (all ∙ ap (λ n. heard_on n h.step.note h.step
          (on_bytes_carefully limit (drop n ((b ∷ xs) ++ following)) h.step.after)) (sym count_is));
      noise_is = subst (λ (ys : List ℕ). noise_in limit ys r
          ≡ counted_on 0 h.step.note (noise_in limit (drop result.count ys) h.step.after)) (sym bytes_are)
          (noise ∙ ap (λ n. counted_on 0 h.step.note
          (noise_in limit (drop n ((b ∷ xs) ++ following)) h.step.after)) (sym count_is));
      quiet = on_bytes-quiet limit (b ∷ xs) r;
      makes = makes;
      refused = λ oom. subst (λ (p : List ℕ). RefusesFrame limit spare h.step (record r { past = p }) result.step new)
          past_is (refused oom);
      spare_after = spare_after;
    }

heard_on-loud :
    (count : ℕ) (note : Note) (step : ReceiverStep) (following : ReceiverHearing) → note ≢ Quiet →
    heard_on count note step following ≡ record { count = count; step = step }
heard_on-loud count Quiet step following loud = absurd (loud refl)
heard_on-loud count _ step following loud = refl

more_spare : (spare before after : ℕ) (taken : Option FrameContent) → spare ≤ before → SpareAfter before after taken
    → SpareAfter spare after taken
more_spare spare before after None less rises = omega (arith, less, rises)
more_spare spare before after (Some frame) less rises = λ is_last. omega (arith, less, rises is_last)

refused_more :
    (limit spare before : ℕ) (step : ReceiverStep) (r : ReceiverState) (result : Step) (new : Kept) → spare ≤ before
    → RefusesFrame limit before step r result new →
    RefusesFrame limit spare step r result new
refused_more limit spare before step r result new less h = record {
  frame = h.frame;
  would_accept = h.would_accept;
  too_long = omega (arith, less, h.too_long);
  reply_is = h.reply_is;
  message_is = h.message_is;
  spare_kept = omega (arith, less, h.spare_kept);
  state = h.state;
}

-- the front of bytes is one byte
pub careful-quiet : (limit b : ℕ) (r : ReceiverState) → (on_byte_carefully limit b r).note ≡ Quiet
    → on_byte_carefully limit b r ≡ answers None Quiet (heard_only (on_byte_carefully limit b r) r)
careful-quiet limit b r = by (ends_session r b)
  where
    by : (ends : Bool) → (careful_by ends limit b r).note ≡ Quiet
        → careful_by ends limit b r ≡ answers None Quiet (heard_only (careful_by ends limit b r) r)
    by true e = cc
    by false e =
        let c : ℕ = heard_as (open_body r.past) b in
        on_byte-quiet limit c r e ∙ ap (λ (s : ReceiverState). answers None Quiet s) (on_byte-heard_only limit c r)

pub front_byte :
    (limit : ℕ) (hear : ℕ → ReceiverState → ReceiverStep) (b noise : ℕ) (bytes : List ℕ) (r : ReceiverState)
    (spare : ℕ) (result : Step) (new : Kept) → 0 < length bytes
    → ((hear b r).note ≡ Quiet → hear b r ≡ answers None Quiet (heard_only (hear b r) r))
    → b ≡ get_or bytes 0 0 → noise ≡ noise_of (is_noise r b)
    → (result.note ≢ OutOfMemory → IsStepMade limit (hear b r) result new)
    → (result.note ≡ OutOfMemory → RefusesFrame limit spare (hear b r) (heard_only (hear b r) r) result new)
    → SpareAfter spare new.spare (hear b r).taken
    → HearsFront limit hear bytes r spare (record { count = 1; noise = noise; step = result }) new
front_byte limit hear b noise [] r spare result new some quiet is counted makes refused spare_after =
    absurd (omega (some, arith))
front_byte limit hear b noise (c ∷ following) r spare result new some quiet is counted makes refused spare_after =
    record {
      meant = hear b r;
      goes_on = ap (λ x. on_bytes_by hear (x ∷ following) r) (sym is);
      noise_is = ap (λ x. noise_by hear (x ∷ following) r) (sym is)
          ∙ ap (λ n. counted_on n (hear b r).note (noise_by hear following (hear b r).after)) (sym counted);
      quiet = quiet;
      makes = makes;
      refused = refused;
      spare_after = spare_after;
    }

-- what is heard of an LF says whether the stream ends within a frame
pub within_by : (limit : ℕ) (reported : Option Heard) (past : List ℕ)
    → heard_signal {limit = limit} reported ≡ signal_after limit past LF
    → is_some reported ≡ begins_within (open_body past) STX
unfolding signal_after
within_by limit reported past = by (open_body past) reported
  where
    by : (within : Option (List ℕ)) (reported : Option Heard) → heard_signal {limit = limit} reported
        ≡ ended_body limit within
        → is_some reported ≡ begins_within within STX
    by None None e = refl
    by None (Some heards.Enq) e = cc
    by None (Some heards.Eot) e = cc
    by None (Some (heards.Good frame)) e = cc
    by None (Some (heards.Bad fault)) e = cc
    by (Some body) None e = cc
    by (Some body) (Some heard) e = refl

-- ---- bytes

-- so many bytes were heard, and each was quiet: nothing but the stream has changed
pub record IsHearing (limit : ℕ) (hear : ℕ → ReceiverState → ReceiverStep) (bytes : List ℕ) (r : ReceiverState)
    (spare count noise : ℕ) (kept : Kept) : Type 0 where
  pub at : ReceiverState
  pub only : at ≡ record r { past = at.past }
  pub state : IsIn limit kept at
  pub goes_on : on_bytes_by hear bytes r ≡ passed count (on_bytes_by hear (drop count bytes) at)
  pub noise_is : noise_by hear bytes r ≡ noise + noise_by hear (drop count bytes) at
  pub spare_kept : spare ≤ kept.spare

pub hears_none : (limit : ℕ) (hear : ℕ → ReceiverState → ReceiverStep) (bytes : List ℕ) (r : ReceiverState)
    (kept : Kept) → IsIn limit kept r → IsHearing limit hear bytes r kept.spare 0 0 kept
hears_none limit hear bytes r kept is_in = record {
  at = r;
  only = refl;
  state = is_in;
  goes_on = passed-none (on_bytes_by hear bytes r);
  noise_is = none_more (noise_by hear bytes r);
  spare_kept = omega arith;
}

abbrev pub quiet_answer : Step
quiet_answer = record { reply = None; message = None; note = Quiet }

counted_more : (m n following : ℕ) (note : Note) → m + counted_on n note following ≡ counted_on (m + n) note following
counted_more m n following Quiet = omega arith
counted_more m n following _ = refl

counted-loud : (n following : ℕ) (note : Note) → note ≢ Quiet → counted_on n note following ≡ n
counted-loud n following Quiet loud = absurd (loud refl)
counted-loud n following _ loud = refl

module _ (limit : ℕ) (hear : ℕ → ReceiverState → ReceiverStep) (bytes : List ℕ) (r : ReceiverState)
    (spare count noise : ℕ) (kept : Kept) (more : CarefulHearing) (new : Kept) where
  goes_on_more :
      (hearing : IsHearing limit hear bytes r spare count noise kept)
      → (front : HearsFront limit hear (drop count bytes) hearing.at kept.spare more new)
      → on_bytes_by hear bytes r ≡ heard_on (count + more.count) front.meant.note front.meant
      (on_bytes_by hear (drop (count + more.count) bytes) front.meant.after)
  goes_on_more hearing front =
      hearing.goes_on
      ∙ ap (passed count) front.goes_on
      ∙ passed-heard_on count more.count front.meant.note front.meant
      (on_bytes_by hear (drop more.count (drop count bytes)) front.meant.after)
      ∙ ap (λ xs. heard_on (count + more.count) front.meant.note front.meant
      (on_bytes_by hear xs front.meant.after)) (drop-drop more.count count bytes)

  noise_more :
      (hearing : IsHearing limit hear bytes r spare count noise kept)
      → (front : HearsFront limit hear (drop count bytes) hearing.at kept.spare more new)
      → noise_by hear bytes r ≡ counted_on (noise + more.noise) front.meant.note
      (noise_by hear (drop (count + more.count) bytes) front.meant.after)
  noise_more hearing front =
      hearing.noise_is
      ∙ ap (λ n. noise + n) front.noise_is
      ∙ counted_more noise more.noise (noise_by hear (drop more.count (drop count bytes)) front.meant.after)
      front.meant.note
      ∙ ap (λ xs. counted_on (noise + more.noise) front.meant.note (noise_by hear xs front.meant.after))
      (drop-drop more.count count bytes)

  same_rest : (at : ReceiverState) (past : List ℕ) → at ≡ record r { past = at.past }
      → record at { past = past } ≡ record r { past = past }
  same_rest at past only = ap (λ (s : ReceiverState). record s { past = past }) only

  -- bytes that are quiet too
  pub hears_more :
      (hearing : IsHearing limit hear bytes r spare count noise kept)
      → HearsFront limit hear (drop count bytes) hearing.at kept.spare more new
      → more.step.note ≡ Quiet
      → IsHearing limit hear bytes r spare (count + more.count) (noise + more.noise) new
  hears_more hearing front is_quiet =
      let fine : more.step.note ≢ OutOfMemory = λ e. cc in
      let made = front.makes fine in
      let note_is : front.meant.note ≡ Quiet = sym made.answer.note_is ∙ is_quiet in
      let meant_is = front.quiet note_is in
      let after_is : front.meant.after ≡ heard_only front.meant hearing.at =
      ap (λ (s : ReceiverStep). s.after) meant_is in
      let taken_is : front.meant.taken ≡ None = ap (λ (s : ReceiverStep). s.taken) meant_is in
      let spare_kept : kept.spare ≤ new.spare = subst (λ t. SpareAfter kept.spare new.spare t) taken_is
      front.spare_after in
      record {
        at = front.meant.after;
        only = after_is ∙ same_rest hearing.at front.meant.after.past hearing.only;
        state = made.state;
        goes_on = goes_on_more hearing front ∙ ap (λ note. heard_on (count + more.count) note front.meant
            (on_bytes_by hear (drop (count + more.count) bytes) front.meant.after)) note_is;
        noise_is = noise_more hearing front ∙ ap (λ note. counted_on (noise + more.noise) note
            (noise_by hear (drop (count + more.count) bytes) front.meant.after)) note_is;
        spare_kept = omega (arith, hearing.spare_kept);
      }

  -- or bytes whose last is not quiet
  pub hears_last :
      (hearing : IsHearing limit hear bytes r spare count noise kept)
      → HearsFront limit hear (drop count bytes) hearing.at kept.spare more new
      → more.step.note ≢ Quiet
      → IsHeard limit hear bytes r spare
      (record { count = count + more.count; noise = noise + more.noise; step = more.step }) new
  hears_last hearing front loud =
      let meant_loud : front.meant.note ≢ Quiet = λ e.
      let taken_is : front.meant.taken ≡ None = ap (λ (s : ReceiverStep). s.taken) (front.quiet e) in
      let fine : more.step.note ≢ OutOfMemory = λ oom. let accepted = (front.refused oom).would_accept in cc in
      loud ((front.makes fine).answer.note_is ∙ e) in
      let all : on_bytes_by hear bytes r ≡ record { count = count + more.count; step = front.meant } =
      goes_on_more hearing front
      ∙ heard_on-loud (count + more.count) front.meant.note front.meant _ meant_loud in
      record {
        count_is = sym (ap (λ (h : ReceiverHearing). h.count) all);
        noise_is = sym (noise_more hearing front ∙ counted-loud (noise + more.noise) _ front.meant.note meant_loud);
        makes = λ fine. subst (λ (h : ReceiverHearing). IsStepMade limit h.step more.step new) (sym all)
            (front.makes fine);
        refused = λ oom.
            subst (λ (h : ReceiverHearing). RefusesFrame limit spare h.step (heard_only h.step r) more.step new)
            (sym all)
            (subst (λ s. RefusesFrame limit spare front.meant s more.step new)
            (same_rest hearing.at front.meant.after.past hearing.only)
            (refused_more limit spare kept.spare front.meant _ more.step new hearing.spare_kept (front.refused oom)));
        spare_after =
            subst (λ (h : ReceiverHearing). SpareAfter spare new.spare h.step.taken) (sym all)
            (more_spare spare kept.spare new.spare front.meant.taken hearing.spare_kept front.spare_after);
      }

  -- or those that were heard from there
  pub hears_on :
      (hearing : IsHearing limit hear bytes r spare count noise kept)
      → IsHeard limit hear (drop count bytes) hearing.at kept.spare more new
      → IsHeard limit hear bytes r spare
      (record { count = count + more.count; noise = noise + more.noise; step = more.step }) new
  hears_on hearing rest =
      let step : ReceiverStep = (on_bytes_by hear (drop count bytes) hearing.at).step in
      record {
        count_is = ap (λ n. count + n) rest.count_is ∙ sym (ap (λ (h : ReceiverHearing). h.count) hearing.goes_on);
        noise_is = ap (λ n. noise + n) rest.noise_is ∙ sym hearing.noise_is;
        makes = λ fine. subst (λ (h : ReceiverHearing). IsStepMade limit h.step more.step new) (sym hearing.goes_on)
            (rest.makes fine);
        refused = λ oom.
            subst (λ (h : ReceiverHearing). RefusesFrame limit spare h.step (heard_only h.step r) more.step new)
            (sym hearing.goes_on)
            (subst (λ s. RefusesFrame limit spare step s more.step new)
            (same_rest hearing.at step.after.past hearing.only)
            (refused_more limit spare kept.spare step _ more.step new hearing.spare_kept (rest.refused oom)));
        spare_after =
            subst (λ (h : ReceiverHearing). SpareAfter spare new.spare h.step.taken) (sym hearing.goes_on)
            (more_spare spare kept.spare new.spare step.taken hearing.spare_kept rest.spare_after);
      }

-- all bytes were quiet
pub hears_all :
    (limit : ℕ) (hear : ℕ → ReceiverState → ReceiverStep) (bytes : List ℕ) (r : ReceiverState)
    (spare count noise : ℕ) (kept : Kept)
    → (hearing : IsHearing limit hear bytes r spare count noise kept) → length bytes ≤ count → count ≤ length bytes
    → IsHeard limit hear bytes r spare (record { count = count; noise = noise; step = quiet_answer }) kept
hears_all limit hear bytes r spare count noise kept hearing long short =
    let none : drop count bytes ≡ [] = nil_from_length (drop count bytes) (omega (arith, length-drop count bytes)) in
    let all : on_bytes_by hear bytes r
    ≡ record { count = count + 0; step = answers None Quiet hearing.at } =
    hearing.goes_on ∙ ap (λ xs. passed count (on_bytes_by hear xs hearing.at)) none in
    let noise_all : noise_by hear bytes r ≡ noise + 0 =
    hearing.noise_is ∙ ap (λ xs. noise + noise_by hear xs hearing.at) none in
    record {
      count_is = let counted = ap (λ (h : ReceiverHearing). h.count) all in omega (counted, arith);
      noise_is = omega (noise_all, arith);
      makes = λ fine. subst (λ (h : ReceiverHearing). IsStepMade limit h.step quiet_answer kept) (sym all)
          (record { answer = record { reply_is = refl; message_is = refl; note_is = refl }; state = hearing.state });
      refused = λ oom. absurd cc;
      spare_after = subst (λ (h : ReceiverHearing). SpareAfter spare kept.spare h.step.taken) (sym all)
          hearing.spare_kept;
    }

-- ---- the first front

without_first : (more : CarefulHearing)
    → record { count = 0 + more.count; noise = 0 + more.noise; step = more.step } ≡ more
without_first more =
    ap (λ n. record { count = n; noise = 0 + more.noise; step = more.step }) (sym (none_more more.count))
    ∙ ap (λ n. record { count = more.count; noise = n; step = more.step }) (sym (none_more more.noise))

module _ (limit : ℕ) (hear : ℕ → ReceiverState → ReceiverStep) (bytes : List ℕ) (r : ReceiverState) (kept : Kept)
    (is_in : IsIn limit kept r) (first : CarefulHearing) (new : Kept)
    (front : HearsFront limit hear bytes r kept.spare first new) where
  pub first_quiet : first.step.note ≡ Quiet → IsHearing limit hear bytes r kept.spare first.count first.noise new
  unfolding hears_none
  first_quiet quiet =
      subst (λ (h : CarefulHearing). IsHearing limit hear bytes r kept.spare h.count h.noise new) (without_first first)
      (hears_more limit hear bytes r kept.spare 0 0 kept first new (hears_none limit hear bytes r kept is_in) front
      quiet)

  pub first_last : first.step.note ≢ Quiet → IsHeard limit hear bytes r kept.spare first new
  unfolding hears_none
  first_last loud =
      subst (λ (h : CarefulHearing). IsHeard limit hear bytes r kept.spare h new) (without_first first)
      (hears_last limit hear bytes r kept.spare 0 0 kept first new (hears_none limit hear bytes r kept is_in) front
      loud)
