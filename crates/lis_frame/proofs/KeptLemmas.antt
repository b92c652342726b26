-- The bytes that a frame body in fixed buffers keeps, and what further ones do to them.
use Rattle.std.proofs.Common.{◌≡◌, ℕ, zero, suc, ◌+◌, ◌-◌, ◌≤◌, ◌<◌, Bool, true, false, List, [], ◌∷◌, ◌++◌, Option}
use Rattle.std.proofs.Common.{Some, None, Ok, Err, MatchResult, length, take, get_or, zero-add, refl, ap, arith, sym}
use Rattle.std.proofs.Common.{◌∙◌, append_assoc, append-nil, length-append, length-take, length-take-le}
use Rattle.std.proofs.lemmas.List.{take_all, take-append-le, take-take}
use Rattle.std.proofs.lemmas.Simd.{take_more_put_chunk}
use Rattle.std.proofs.Math.Seq.{take-append-add}
use lib.Lanes.{put_chunk}
use Rattle.std.specs.Prelude.{nat_lt}
use Rattle.std.proofs.lemmas.Bool.Decides.{nat_tests}
use Rattle.std.specs.declared.result.Result.{Result}
use Rattle.lis_frame.specs.declared.frame.FrameFault.{FrameFault}
use Rattle.lis_frame.specs.declared.frame.FrameFault.TheVariants.{Shape}
use Rattle.lis_frame.specs.declared.scanner.SignalOf.{SignalOf}
use Rattle.lis_frame.specs.declared.scanner.SignalOf.TheVariants.{Good, Bad}
use Rattle.lis_frame.specs.Scanner.{outside, beyond, kept}
use Rattle.lis_frame.specs.inside.Scanner.{with_bytes, ended_held}
use Rattle.lis_frame.specs.inside.Kept.{kept_held}
use Rattle.lis_frame.specs.Frame.{FrameContent}
use Rattle.lis_frame.specs.FrameBody.{content_of, body_fault}
use Rattle.lis_frame.specs.inside.FrameBody.{body_of}
use Rattle.lis_frame.specs.Stream.{read_body}
use Rattle.lis_frame.proofs.FrameBodyLemmas.{last_four_at, body_fault-few}
use Rattle.lis_frame.proofs.ScannerLemmas.{kept-push}

-- a run of plain bytes is kept as one
with_bytes-beyond : (limit : ℕ) (run : List ℕ) → with_bytes limit beyond run ≡ beyond
with_bytes-beyond limit [] = refl
with_bytes-beyond limit (b ∷ run) = with_bytes-beyond limit run

pub with_bytes-outside : (limit : ℕ) (run : List ℕ) → with_bytes limit outside run ≡ outside
with_bytes-outside limit [] = refl
with_bytes-outside limit (b ∷ run) = with_bytes-outside limit run

-- after a frame body that is held
with_bytes-kept : (limit : ℕ) (s run : List ℕ) → with_bytes limit (kept limit s) run ≡ kept limit (s ++ run)
with_bytes-kept limit s [] = rw (append-nil s) refl
with_bytes-kept limit s (b ∷ run) =
    rw (← kept-push limit s b) (with_bytes-kept limit (s ++ b ∷ []) run ∙ ap (kept limit) (append_assoc s (b ∷ []) run))

-- the bytes that the fields hold
abbrev pub kept_bytes : ℕ → ℕ → List ℕ → List ℕ
kept_bytes count number following = take count (number ∷ following)

-- whose buffers have room for the greatest frame body
module _ (limit count number : ℕ) (following : List ℕ) (room : length following ≡ limit + 4) where
  length-kept : count ≤ limit + 5 → length (kept_bytes count number following) ≡ count
  length-kept fits = length-take-le count (number ∷ following) (omega (arith, room, fits))

  -- they are held as they are
  kept_held-kept : count ≤ limit + 5 → kept_held limit count number following
      ≡ kept limit (kept_bytes count number following)
  kept_held-kept fits =
      let now : nat_lt (limit + 5) count ≡ false = grind (arith, nat_tests) in
      let held : nat_lt (limit + 5) (length (kept_bytes count number following)) ≡ false = rw (length-kept fits) now in
      rw (now, held) refl

  -- and so with a run
  with_bytes-run :
      (run : List ℕ) → count ≤ limit + 5 →
      with_bytes limit (kept_held limit count number following) run
      ≡ kept limit (kept_bytes count number following ++ run)
  with_bytes-run run fits = rw (kept_held-kept fits) (with_bytes-kept limit (kept_bytes count number following) run)

  length-run :
      (run : List ℕ) (taken : ℕ) → length run ≡ taken → count ≤ limit + 5 →
      length (kept_bytes count number following ++ run) ≡ count + taken
  length-run run taken long fits = omega (
    arith,
    length-append (kept_bytes count number following) run,
    length-kept
        fits,
    long,
  )

  -- a run that a frame has room for
  pub kept_held-run :
      (taken number' : ℕ) (following' run : List ℕ) → length run ≡ taken → count + taken ≤ limit + 5 →
      kept_bytes (count + taken) number' following' ≡ kept_bytes count number following ++ run →
      kept_held limit (count + taken) number' following' ≡ with_bytes limit (kept_held limit count number following) run
  kept_held-run taken number' following' run long fits bytes =
      let now : nat_lt (limit + 5) (count + taken) ≡ false = grind (arith, nat_tests) in
      let before : count ≤ limit + 5 = omega (arith, fits) in
      let held : nat_lt (limit + 5) (length (kept_bytes count number following ++ run)) ≡ false =
      rw (length-run run taken long before) now in
      rw (with_bytes-run run before, now, held, bytes) refl

  -- one that no frame has room for
  pub kept_held-over :
      (taken : ℕ) (run : List ℕ) → length run ≡ taken → limit + 5 < count + taken →
      beyond ≡ with_bytes limit (kept_held limit count number following) run
  kept_held-over taken run long over = by (nat_lt (limit + 5) count) refl
    where
      by :
          (test : Bool) → nat_lt (limit + 5) count ≡ test →
          beyond ≡ with_bytes limit (kept_held limit count number following) run
      by true e = rw e (sym (with_bytes-beyond limit run))
      by false e =
          let fits : count ≤ limit + 5 = grind (arith, nat_tests) in
          let held : nat_lt (limit + 5) (length (kept_bytes count number following ++ run)) ≡ true =
          rw (length-run run taken long fits) (grind (arith, nat_tests)) in
          rw (with_bytes-run run fits, held) refl

-- fewer than five bytes are no frame
pub ended-few :
    (limit count number : ℕ) (following : List ℕ) → count < 5 →
    Some (Bad Shape) ≡ ended_held limit (kept_held limit count number following)
ended-few limit count number following few =
    let s = kept_bytes count number following in
    let test : nat_lt (limit + 5) count ≡ false = grind (arith, nat_tests) in
    let short : length s ≤ count = omega (arith, length-take count (number ∷ following)) in
    rw (test, body_fault-few limit s (omega (arith, short, few)) (omega (arith, short, few))) refl

-- the parts of five bytes or more
pub kept-parts :
    (count number : ℕ) (front back : List ℕ) → 5 ≤ count → count ≤ length front + 5 → length back ≡ 4 →
    kept_bytes count number (front ++ back)
    ≡ body_of number (take (count - 5) front)
    (get_or (front ++ back) (count - 5) 0) (get_or (front ++ back) (count - 5 + 1) 0)
    (get_or (front ++ back) (count - 5 + 2) 0) (get_or (front ++ back) (count - 5 + 3) 0)
kept-parts count number front back five fits four =
    let more : count ≡ suc (count - 5 + 4) = omega (arith, five) in
    let long : count - 5 + 4 ≤ length (front ++ back) = omega (arith, length-append front back, fits, four, five) in
    rw (
      ap (λ n. take n (number ∷ (front ++ back))) more,
      ← take-append-le (count - 5) front back (omega (arith, fits, five)),
    )
    (ap (λ (xs : List ℕ). number ∷ xs) (last_four_at (front ++ back) (count - 5) long))

-- what is found in a frame body, and what an LF reports by it
abbrev pub FoundFrame : ℕ → List ℕ → Result FrameContent FrameFault → Type 0
FoundFrame limit s r =
    MatchResult r (λ frame. (frame ≡ content_of s) × (body_fault limit s ≡ None))
    (λ fault. body_fault limit s ≡ Some fault)

abbrev pub IsReported : (limit : ℕ) → Option (SignalOf limit) → Result FrameContent FrameFault → Type 0
IsReported limit reported r = MatchResult r (λ frame. Some (Good frame) ≡ reported) (λ fault. Some (Bad fault)
    ≡ reported)

found-reported : (limit : ℕ) (s : List ℕ) (r : Result FrameContent FrameFault) → FoundFrame limit s r
    → IsReported limit (Some (read_body limit s)) r
found-reported limit s (Ok frame) found = rw (found.1, found.0) refl
found-reported limit s (Err fault) found = rw found refl

pub reported-parts :
    (limit count number : ℕ) (following s : List ℕ) (r : Result FrameContent FrameFault) → count ≤ limit + 5 →
    kept_bytes count number following ≡ s → FoundFrame limit s r
    → IsReported limit (ended_held limit (kept_held limit count number following)) r
reported-parts limit count number following s r fits is found =
    let test : nat_lt (limit + 5) count ≡ false = grind (arith, nat_tests) in
    rw (test, is) (found-reported limit s r found)

-- bytes put after the number, or after nothing
pub kept-more :
    (count taken number : ℕ) (xs ys run : List ℕ) → 0 < count →
    take (count - 1 + taken) ys ≡ take (count - 1) xs ++ run →
    kept_bytes (count + taken) number ys ≡ kept_bytes count number xs ++ run
kept-more zero taken number xs ys run some put = absurd (omega (arith, some))
kept-more (suc k) taken number xs ys run some put =
    let next : suc k + taken ≡ suc (k + taken) = omega arith in
    let before : suc k - 1 ≡ k = omega arith in
    rw next (ap (λ (zs : List ℕ). number ∷ zs) (rw before at put))

pub kept-first :
    (count taken number : ℕ) (xs following ys : List ℕ) → count ≡ 0 → 0 < taken →
    take (0 + (taken - 1)) ys ≡ take (taken - 1) following →
    kept_bytes (count + taken) number ys ≡ take count xs ++ take taken (number ∷ following)
kept-first count zero number xs following ys none some put = absurd (omega (arith, some))
kept-first count (suc k) number xs following ys none some put =
    let all : count + suc k ≡ suc k = omega (arith, none) in
    let before : suc k - 1 ≡ k = omega arith in
    rw (all, none) (ap (λ (zs : List ℕ). number ∷ zs) (rw (before, zero-add k) at put))

-- bytes put at a place of two buffers that act as one: in the first
module _ (place taken : ℕ) (front back front' back' run : List ℕ) where
  pub put-front :
      place + taken ≤ length front → length front' ≡ length front →
      take (place + taken) front' ≡ take place front ++ run →
      take (place + taken) (front' ++ back') ≡ take place (front ++ back) ++ run
  put-front fits same put =
      take-append-le (place + taken) front' back' (omega (arith, fits, same))
      ∙ put ∙ ap (λ (xs : List ℕ). xs ++ run) (sym (take-append-le place front back (omega (arith, fits))))

  -- in the second
  pub put-back :
      length front ≤ place → take (place - length front + taken) back' ≡ take (place - length front) back ++ run →
      take (place + taken) (front ++ back') ≡ take place (front ++ back) ++ run
  put-back following put =
      let old : place ≡ length front + (place - length front) = omega (arith, following) in
      let new : place + taken ≡ length front + (place - length front + taken) = omega (arith, following) in
      ap (λ n. take n (front ++ back')) new
      ∙ take-append-add front back' (place - length front + taken)
      ∙ ap (λ (xs : List ℕ). front ++ xs) put
      ∙ sym (append_assoc front (take (place - length front) back) run)
      ∙ ap (λ (xs : List ℕ). xs ++ run)
      (sym (ap (λ n. take n (front ++ back)) old ∙ take-append-add front back (place - length front)))

  -- in both
  pub put-across :
      (first second : List ℕ) → first ++ second ≡ run →
      place + length first ≡ length front → length first + length second ≡ taken → length front' ≡ length front →
      take (place + length first) front' ≡ take place front ++ first → take (0 + length second) back' ≡ second →
      take (place + taken) (front' ++ back') ≡ take place (front ++ back) ++ run
  put-across first second both full all same put put' =
      let new : place + taken ≡ length front' + length second = omega (arith, all, full, same) in
      let filled : front' ≡ take place front ++ first =
      sym (take_all (place + length first) front' (omega (arith, full, same))) ∙ put in
      ap (λ n. take n (front' ++ back')) new
      ∙ take-append-add front' back' (length second)
      ∙ ap (λ (xs : List ℕ). front' ++ xs) (rw (zero-add (length second)) at put')
      ∙ ap (λ (xs : List ℕ). xs ++ second) filled
      ∙ append_assoc (take place front) first second
      ∙ rw (both, take-append-le place front back (omega (arith, full))) refl

-- sixteen bytes put, of which not all count
pub put-sixteen :
    (place taken : ℕ) (front bytes : List ℕ) → taken ≤ 16 → 16 ≤ length bytes → place + 16 ≤ length front →
    take (place + taken) (put_chunk place front (take 16 bytes)) ≡ take place front ++ take taken bytes
put-sixteen place taken front bytes few there fits =
    let sixteen : length (take 16 bytes) ≡ 16 = length-take-le 16 bytes there in
    let before : length (take place front) ≡ place = length-take-le place front (omega (arith, fits)) in
    let all : take (place + 16) (put_chunk place front (take 16 bytes)) ≡ take place front ++ take 16 bytes =
    take_more_put_chunk place front (take 16 bytes) (place + 16) (omega (arith, sixteen))
    (omega (arith, sixteen, fits)) in
    sym (take-take (place + taken) (place + 16) (put_chunk place front (take 16 bytes)) (omega (arith, few)))
    ∙ ap (take (place + taken)) all
    ∙ ap (λ n. take (n + taken) (take place front ++ take 16 bytes)) (sym before)
    ∙ take-append-add (take place front) (take 16 bytes) taken
    ∙ ap (λ xs. take place front ++ xs) (take-take taken 16 bytes few)
