-- Hearing carefully with a limit on a text, or without one.
use Rattle.std.proofs.Common.{◌≡◌, ◌≢◌, ◌≤◌, ◌<◌, ℕ, ◌+◌, Bool, true, false, List, [], ◌∷◌, Option, None, Some}
use Rattle.std.proofs.Common.{length, take, drop, refl, ap, sym, ◌∙◌, subst, arith, get_or}
use Rattle.std.specs.Prelude.{if◌then◌else◌}
use Rattle.lis_text.specs.Control.{EOT, NAK}
use Rattle.lis_frame.specs.Stream.{open_body, signal_after}
use Rattle.lis_link.specs.Kept.{Kept}
use Rattle.lis_link.specs.declared.receiver.Hearing.{Hearing}
use Rattle.lis_link.specs.declared.receiver.Note.{Note}
use Rattle.lis_link.specs.declared.receiver.Note.TheVariants.{OutOfMemory, Quiet, TooLong}
use Rattle.lis_link.specs.declared.receiver.Step.{Step}
use Rattle.lis_link.specs.Receiver.{ReceiverHearing, ReceiverState, ReceiverStep, answers, heard_on, on_byte}
use Rattle.lis_link.specs.Receiver.{with_heard}
use Rattle.lis_link.specs.Representation.{IsIn, IsStepMade, RefusesFrame, SpareAfter}
use Rattle.lis_link.proofs.HearingLaws.{on_byte-quiet}
use Rattle.lis_careful.specs.Careful.{ends_session, heard_as, heard_only, careful_by, is_noise, noise_of, counted_on}
use Rattle.lis_careful.specs.Careful.{noise_by, noise_in, on_byte_carefully, on_bytes_by, on_bytes_carefully}
use Rattle.lis_careful.specs.declared.receiver.CarefulHearing.{CarefulHearing}
use Rattle.lis_careful.proofs.Receiving.{IsHearing, front_byte, hears_last, hears_more, on_byte-heard_only}
use Rattle.lis_careful.specs.inside.Hearing.{HearsFront, IsHeard}
use Rattle.lis_c.specs.Within.{is_over, on_byte_within}
use Rattle.lis_c.specs.Careful.{careful_within, on_byte_set, on_bytes_set, heard_set, noises_set}
use Rattle.lis_c.specs.inside.Careful.{IsHeardSet}
use Rattle.lis_c.proofs.WithinHearing.{at_place}

-- ---- one byte

-- without a limit on a text
unlimited :
    (ends : Bool) (limit b : ℕ) (r : ReceiverState) → careful_by ends limit b r ≡ careful_within ends limit None b r
unlimited true limit b r = refl
unlimited false limit b r = refl

pub all_bytes : (limit b : ℕ) (r : ReceiverState) → on_byte_carefully limit b r ≡ on_byte_set true limit None b r
all_bytes limit b r = unlimited (ends_session r b) limit b r

-- a byte that ends the session, and any other
pub ends_as : (limit : ℕ) (most : Option ℕ) (b : ℕ) (r : ReceiverState) → ends_session r b ≡ true
    → on_byte_carefully limit b r ≡ on_byte_set true limit most b r
ends_as limit most b r ends =
    ap (λ t. careful_by t limit b r) ends ∙ sym (ap (λ t. careful_within t limit most b r) ends)

pub goes_as : (limit : ℕ) (most : Option ℕ) (b c : ℕ) (r : ReceiverState) → ends_session r b ≡ false
    → c ≡ heard_as (open_body r.past) b → on_byte_within limit most c r ≡ on_byte_set true limit most b r
goes_as limit most b c r goes is =
    ap (λ d. on_byte_within limit most d r) is ∙ sym (ap (λ t. careful_within t limit most b r) goes)

-- the byte is in the stream
within-past : (limit : ℕ) (most : Option ℕ) (b : ℕ) (r : ReceiverState)
    → record r { past = b ∷ r.past } ≡ heard_only (on_byte_within limit most b r) r
within-past limit most b r = by (is_over most (signal_after limit r.past b) r)
  where
    by : (over : Bool) → record r { past = b ∷ r.past }
        ≡ heard_only (if over then answers (Some NAK) TooLong (record r { past = b ∷ r.past }) else on_byte limit b r) r
    by true = refl
    by false = on_byte-heard_only limit b r

pub refused_as : (limit : ℕ) (most : Option ℕ) (b c spare : ℕ) (r : ReceiverState) (result : Step) (new : Kept)
    → ends_session r b ≡ false → c ≡ heard_as (open_body r.past) b
    → RefusesFrame limit spare (on_byte_within limit most c r) (record r { past = c ∷ r.past }) result new
    → RefusesFrame limit spare (on_byte_set true limit most b r) (heard_only (on_byte_set true limit most b r) r) result
    new
refused_as limit most b c spare r result new goes is refused =
    subst (λ step. RefusesFrame limit spare step (heard_only step r) result new) (goes_as limit most b c r goes is)
    (subst (λ s. RefusesFrame limit spare (on_byte_within limit most c r) s result new) (within-past limit most c r)
    refused)

-- a quiet byte changes the stream alone
pub set-quiet :
    (limit : ℕ) (most : Option ℕ) (b : ℕ) (r : ReceiverState) → (on_byte_set true limit most b r).note ≡ Quiet
    → on_byte_set true limit most b r ≡ answers None Quiet (heard_only (on_byte_set true limit most b r) r)
set-quiet limit most b r = ended (ends_session r b)
  where
    by : (c : ℕ) (over : Bool) →
        (if over then answers (Some NAK) TooLong (with_heard (c ∷ []) r) else on_byte limit c r).note ≡ Quiet →
        (if over then answers (Some NAK) TooLong (with_heard (c ∷ []) r) else on_byte limit c r)
        ≡ answers None Quiet (with_heard (c ∷ []) r)
    by c true e = absurd cc
    by c false e = on_byte-quiet limit c r e

    ended : (ends : Bool) → (careful_within ends limit most b r).note ≡ Quiet
        → careful_within ends limit most b r
        ≡ answers None Quiet (heard_only (careful_within ends limit most b r) r)
    ended true e = absurd cc
    ended false e =
        let c : ℕ = heard_as (open_body r.past) b in
        by c (is_over most (signal_after limit r.past c) r) e
        ∙ ap (λ (s : ReceiverState). answers None Quiet s) (within-past limit most c r)

-- ---- bytes

-- the same steps hear the same bytes, and the same noise
same_bytes : (f g : ℕ → ReceiverState → ReceiverStep) → ((b : ℕ) (r : ReceiverState) → f b r ≡ g b r)
    → (bytes : List ℕ) (r : ReceiverState) → on_bytes_by f bytes r ≡ on_bytes_by g bytes r
same_bytes f g same [] r = refl
same_bytes f g same (b ∷ bytes) r =
    ap (λ (s : ReceiverStep). heard_on 1 s.note s (on_bytes_by f bytes s.after)) (same b r)
    ∙ ap (heard_on 1 (g b r).note (g b r)) (same_bytes f g same bytes (g b r).after)

same_noise : (f g : ℕ → ReceiverState → ReceiverStep) → ((b : ℕ) (r : ReceiverState) → f b r ≡ g b r)
    → (bytes : List ℕ) (r : ReceiverState) → noise_by f bytes r ≡ noise_by g bytes r
same_noise f g same [] r = refl
same_noise f g same (b ∷ bytes) r =
    ap (λ (s : ReceiverStep). counted_on (noise_of (is_noise r b)) s.note (noise_by f bytes s.after)) (same b r)
    ∙ ap (counted_on (noise_of (is_noise r b)) (g b r).note) (same_noise f g same bytes (g b r).after)

pub all_heard : (limit : ℕ) (bytes : List ℕ) (r : ReceiverState)
    → on_bytes_carefully limit bytes r ≡ on_bytes_set true limit None bytes r
all_heard limit bytes r = same_bytes (on_byte_carefully limit) (on_byte_set true limit None) (all_bytes limit) bytes r

pub all_noise : (limit : ℕ) (bytes : List ℕ) (r : ReceiverState)
    → noise_in limit bytes r ≡ noises_set true limit None bytes r
all_noise limit bytes r = same_noise (on_byte_carefully limit) (on_byte_set true limit None) (all_bytes limit) bytes r

pub all_set : (limit : ℕ) (bytes : List ℕ) (r : ReceiverState) (spare : ℕ) (hearing : CarefulHearing) (new : Kept)
    → hearing.count ≡ (on_bytes_carefully limit bytes r).count
    → hearing.noise ≡ noise_in limit bytes r
    → (hearing.step.note ≢ OutOfMemory → IsStepMade limit (on_bytes_carefully limit bytes r).step hearing.step new)
    → (hearing.step.note ≡ OutOfMemory → RefusesFrame limit spare (on_bytes_carefully limit bytes r).step
    (heard_only (on_bytes_carefully limit bytes r).step r) hearing.step new)
    → SpareAfter spare new.spare (on_bytes_carefully limit bytes r).step.taken
    → IsHeardSet true limit None bytes r spare hearing new
all_set limit bytes r spare hearing new count noise makes refused after =
    let same = all_heard limit bytes r in
    record {
      count_is = count ∙ ap (λ (h : ReceiverHearing). h.count) same;
      noise_is = noise ∙ all_noise limit bytes r;
      makes = λ fine. subst (λ (h : ReceiverHearing). IsStepMade limit h.step hearing.step new) same (makes fine);
      refused = λ out. subst (λ (h : ReceiverHearing). RefusesFrame limit spare h.step (heard_only h.step r)
          hearing.step new) same (refused out);
      spare_after = subst (λ (h : ReceiverHearing). SpareAfter spare new.spare h.step.taken) same after;
    }

pub heard_is : (limit : ℕ) (most : Option ℕ) (bytes : List ℕ) (r : ReceiverState) (spare : ℕ)
    (hearing : CarefulHearing) (new : Kept)
    → IsHeard limit (on_byte_set true limit most) bytes r spare hearing new
    → IsHeardSet true limit most bytes r spare hearing new
heard_is limit most bytes r spare hearing new is = record {
  count_is = is.count_is;
  noise_is = is.noise_is;
  makes = is.makes;
  refused = is.refused;
  spare_after = is.spare_after;
}

-- ---- one byte after quiet ones

front_is : (bytes : List ℕ) (count : ℕ) → count < length bytes → get_or bytes count 0 ≡ get_or (drop count bytes) 0 0
front_is bytes count within = sym (ap (λ (xs : List ℕ). get_or xs 0 0) (at_place bytes count within))

some_left : (bytes : List ℕ) (count : ℕ) → count < length bytes → 0 < length (drop count bytes)
some_left bytes count within =
    subst (λ (xs : List ℕ). 0 < length xs) (sym (at_place bytes count within)) (omega arith)

module _ (limit most : ℕ) (bytes : List ℕ) (r : ReceiverState) (spare count noise : ℕ) (kept : Kept) (louder : ℕ)
    (step : Step) (new : Kept)
    (heard : IsHearing limit (on_byte_set true limit (Some most)) bytes r spare count noise kept)
    (within : count < length bytes) (loud : louder ≡ noise_of (is_noise heard.at (get_or bytes count 0)))
    (makes : step.note ≢ OutOfMemory
    → IsStepMade limit (on_byte_set true limit (Some most) (get_or bytes count 0) heard.at) step new)
    (refuses : step.note ≡ OutOfMemory
    → RefusesFrame limit kept.spare (on_byte_set true limit (Some most) (get_or bytes count 0) heard.at)
    (heard_only (on_byte_set true limit (Some most) (get_or bytes count 0) heard.at) heard.at) step new)
    (after : SpareAfter kept.spare new.spare
    (on_byte_set true limit (Some most) (get_or bytes count 0) heard.at).taken) where
  front : HearsFront limit (on_byte_set true limit (Some most)) (drop count bytes) heard.at kept.spare
      (record { count = 1; noise = louder; step = step }) new
  front =
      front_byte limit (on_byte_set true limit (Some most)) (get_or bytes count 0) louder (drop count bytes) heard.at
      kept.spare step new (some_left bytes count within)
      (set-quiet limit (Some most) (get_or bytes count 0) heard.at) (front_is bytes count within) loud makes refuses
      after

  pub one_more : step.note ≡ Quiet
      → IsHearing limit (on_byte_set true limit (Some most)) bytes r spare (count + 1) (noise + louder) new
  one_more quiet =
      hears_more limit (on_byte_set true limit (Some most)) bytes r spare count noise kept
      (record { count = 1; noise = louder; step = step }) new heard front quiet

  pub one_last : step.note ≢ Quiet
      → IsHeardSet true limit (Some most) bytes r spare
      (record { count = count + 1; noise = noise + louder; step = step }) new
  one_last not_quiet =
      heard_is limit (Some most) bytes r spare _ new
      (hears_last limit (on_byte_set true limit (Some most)) bytes r spare count noise kept
      (record { count = 1; noise = louder; step = step }) new heard front not_quiet)
