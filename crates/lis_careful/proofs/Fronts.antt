-- The front that a receiver hears at once is heard as carefully.
use Rattle.std.proofs.Common.{◌≡◌, ◌≢◌, ◌≤◌, ◌<◌, ◌+◌, ◌∷◌, ◌∙◌, ℕ, zero, suc, Bool, true, false, List, [], refl, ap}
use Rattle.std.proofs.Common.{sym, arith, cond, drop, get_or, length, max, not, subst, take, take-append-drop}
use Rattle.std.proofs.lemmas.Bool.Decides.{nat_tests}
use Rattle.std.specs.Prelude.{◌==◌}
use Rattle.lis_text.specs.Control.{STX}
use Rattle.lis_frame.specs.Scanner.{unmarked_length}
use Rattle.lis_frame.specs.Stream.{is_mark}
use Rattle.lis_link.specs.declared.receiver.Hearing.{Hearing}
use Rattle.lis_link.specs.declared.receiver.Note.TheVariants.{OutOfMemory}
use Rattle.lis_link.specs.Front.{IsFront, run, whole}
use Rattle.lis_link.specs.Kept.{Kept}
use Rattle.lis_link.specs.Receiver.{ReceiverState, on_bytes, with_heard}
use Rattle.lis_link.specs.Representation.{IsStepMade, RefusesFrame, SpareAfter}
use Rattle.lis_link.proofs.HearingLaws.{taken_twice}
use Rattle.lis_careful.specs.Careful.{is_altered, on_byte_carefully}
use Rattle.lis_careful.specs.inside.Hearing.{AreUnspecial, HearsFront, is_special}
use Rattle.lis_careful.proofs.Frames.{encoding_of, unspecial_after_start}
use Rattle.lis_careful.proofs.Receiving.{front_plain, quietly}

taken_none : (n : ℕ) → take {A = ℕ} n [] ≡ []
taken_none zero = refl
taken_none (suc n) = refl

-- of the front none but the first byte is special
unspecial_run : (xs : List ℕ) → AreUnspecial (take (unmarked_length xs) xs)
unspecial_run [] = tt
unspecial_run (x ∷ xs) = by (is_mark x) refl (unspecial_run xs)
  where
    by : (mark : Bool) → is_mark x ≡ mark → AreUnspecial (take (unmarked_length xs) xs)
        → AreUnspecial (take (cond (not mark) (1 + unmarked_length xs) 0) (x ∷ xs))
    by true e later = tt
    by false e later =
        let longer : 1 + unmarked_length xs ≡ suc (unmarked_length xs) = omega arith in
        let plain : is_special x ≡ false = grind (arith, nat_tests) in
        subst (λ n. AreUnspecial (take n (x ∷ xs))) (sym longer) (plain, later)

front_unspecial : (limit : ℕ) (bytes : List ℕ) (count : ℕ) → IsFront limit bytes count
    → AreUnspecial (drop 1 (take count bytes))
front_unspecial limit bytes count (whole frame is_frame) =
    subst (λ xs. AreUnspecial (drop 1 xs)) (sym (encoding_of limit (take count bytes) frame is_frame))
    (unspecial_after_start limit (take count bytes) frame is_frame)
front_unspecial limit [] count (run none is) =
    subst (λ (xs : List ℕ). AreUnspecial (drop 1 xs)) (sym (taken_none count)) tt
front_unspecial limit (b ∷ bytes) count (run none is) =
    subst (λ n. AreUnspecial (drop 1 (take n (b ∷ bytes)))) (sym is) (by (b == STX) refl)
  where
    by : (starts : Bool) → (b == STX) ≡ starts
        → AreUnspecial (drop 1 (take (max 1 (cond starts (unmarked_length bytes + 1) (unmarked_length (b ∷ bytes))))
        (b ∷ bytes)))
    by true e =
        let count : max 1 (unmarked_length bytes + 1) ≡ suc (unmarked_length bytes) = omega arith in
        subst (λ n. AreUnspecial (drop 1 (take n (b ∷ bytes)))) (sym count) (unspecial_run bytes)
    by false e = by_mark (is_mark b) refl
      where
        by_mark : (mark : Bool) → is_mark b ≡ mark
            → AreUnspecial (drop 1 (take (max 1 (cond (not mark) (1 + unmarked_length bytes) 0)) (b ∷ bytes)))
        by_mark true e = tt
        by_mark false e =
            let count : max 1 (1 + unmarked_length bytes) ≡ suc (unmarked_length bytes) = omega arith in
            subst (λ n. AreUnspecial (drop 1 (take n (b ∷ bytes)))) (sym count) (unspecial_run bytes)

-- the front that is taken
pub front_taken :
    (limit : ℕ) (bytes : List ℕ) (r : ReceiverState) (spare : ℕ) (result : Hearing) (new : Kept)
    → 0 < result.count → result.count ≤ length bytes → is_altered r (get_or bytes 0 0) ≡ false
    → IsFront limit bytes result.count
    → result.count ≡ (on_bytes limit (take result.count bytes) r).count
    → (result.step.note ≢ OutOfMemory
    → IsStepMade limit (on_bytes limit (take result.count bytes) r).step result.step new)
    → (result.step.note ≡ OutOfMemory
    → RefusesFrame limit spare (on_bytes limit (take result.count bytes) r).step
    (with_heard (take result.count bytes) r) result.step new)
    → SpareAfter spare new.spare (on_bytes limit (take result.count bytes) r).step.taken
    → HearsFront limit (on_byte_carefully limit) bytes r spare (quietly result) new
front_taken limit bytes r spare result new some bound plain front count_is makes refused spare_after =
    by result.count bytes refl some bound plain (front_unspecial limit bytes result.count front) count_is makes refused
    spare_after
  where
    by : (n : ℕ) (bytes : List ℕ) → result.count ≡ n → 0 < n → n ≤ length bytes
        → is_altered r (get_or bytes 0 0) ≡ false → AreUnspecial (drop 1 (take n bytes))
        → result.count ≡ (on_bytes limit (take n bytes) r).count
        → (result.step.note ≢ OutOfMemory → IsStepMade limit (on_bytes limit (take n bytes) r).step result.step new)
        → (result.step.note ≡ OutOfMemory → RefusesFrame limit spare (on_bytes limit (take n bytes) r).step
        (with_heard (take n bytes) r) result.step new)
        → SpareAfter spare new.spare (on_bytes limit (take n bytes) r).step.taken
        → HearsFront limit (on_byte_carefully limit) bytes r spare (quietly result) new
    by zero bytes is some bound plain others count_is makes refused spare_after = absurd (omega (some, arith))
    by (suc m) [] is some bound plain others count_is makes refused spare_after = absurd (omega (bound, arith))
    by (suc m) (b ∷ bytes) is some bound plain others count_is makes refused spare_after =
        let xs : List ℕ = take m bytes in
        let again : take result.count (b ∷ xs) ≡ b ∷ xs =
        ap (λ n. take n (b ∷ xs)) is ∙ ap (λ (ys : List ℕ). b ∷ ys) (taken_twice m bytes) in
        front_plain limit b (b ∷ bytes) xs (drop m bytes) r spare result new
        (ap (λ (ys : List ℕ). b ∷ ys) (sym (take-append-drop m bytes))) plain others count_is makes
        (λ oom. subst (λ (ys : List ℕ). RefusesFrame limit spare (on_bytes limit (b ∷ xs) r).step (with_heard ys r)
        result.step new) (sym again) (refused oom))
        spare_after
