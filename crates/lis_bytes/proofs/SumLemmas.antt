-- Sums modulo 256: kept apart in the lanes of a vector, and of the bytes before a place.
use Rattle.std.proofs.Common.{◌≡◌, ℕ, zero, suc, ◌+◌, ◌-◌, ◌%◌, Bool, true, false, cond, List, [], ◌∷◌}
use Rattle.std.proofs.Common.{length, map, take, drop, replicate, refl, ap, sym, ◌∙◌, ◌≤◌, arith, zero-add, take-add}
use Rattle.std.specs.Prelude.{nat_lt}
use Rattle.std.specs.List.{sum, range_with_len}
use Rattle.std.specs.Simd.Lanes.{zip2, fold_l, sel_l, sum_l, top}
use mir.Syntax.{w8}
use Rattle.std.proofs.lemmas.Simd.{length-zip2, tops_compared, zip2_splat}
use Rattle.std.proofs.lemmas.List.Sums.{sum_by-cons, sum_by-append}
use Rattle.std.proofs.lemmas.Bool.Decides.{nat_tests}
use Rattle.lis_bytes.proofs.OverLemmas.{part_long, parts_are}

pub sum_l-sum : (xs : List ℕ) → sum_l xs ≡ sum xs
sum_l-sum [] = refl
sum_l-sum (x ∷ xs) = rw (sum_by-cons (λ (x : ℕ). x) x xs, sum_l-sum xs) refl

-- the lanes of a vector, added with wrapping
fold-wrapped :
    (a : ℕ) (xs : List ℕ) → fold_l (λ (s x : ℕ). (s + x) % 256) (a % 256) xs ≡ (a + sum_l xs) % 256
fold-wrapped a [] = omega arith
fold-wrapped a (x ∷ xs) =
    let next : (a % 256 + x) % 256 ≡ (a + x) % 256 = omega arith in
    let later = fold-wrapped (a + x) xs in
    let all : (a + x + sum_l xs) % 256 ≡ (a + (x + sum_l xs)) % 256 = omega arith in
    rw next (later ∙ all)

pub fold-lanes : (xs : List ℕ) → fold_l (λ (s x : ℕ). (s + x) % 256) 0 xs ≡ sum_l xs % 256
fold-lanes xs = rw (zero-add (sum_l xs)) at (fold-wrapped 0 xs)

-- two vectors, added lane by lane with wrapping
zip-wrapped :
    (xs ys : List ℕ) → length xs ≡ length ys →
    sum_l (zip2 {C = ℕ} (λ (a b : ℕ). (a + b) % 256) xs ys) % 256 ≡ (sum_l xs + sum_l ys) % 256
zip-wrapped [] [] e = refl
zip-wrapped [] (y ∷ ys) e = cc
zip-wrapped (x ∷ xs) [] e = cc
zip-wrapped (x ∷ xs) (y ∷ ys) e = omega (arith, zip-wrapped xs ys (omega arith))

-- the lanes before a place, and 0 after them
selected :
    (i n : ℕ) (xs : List ℕ) →
    sum_l (sel_l (map (λ (a : ℕ). nat_lt a n) (range_with_len i (length xs))) xs (replicate (length xs) 0))
    ≡ sum_l (take (n - i) xs)
selected i n [] = none (n - i)
  where
    none : (k : ℕ) → 0 ≡ sum_l (take k [])
    none zero = refl
    none (suc k) = refl
selected i n (x ∷ xs) = by (nat_lt i n) refl (selected (i + 1) n xs)
  where
    by :
        (test : Bool) → nat_lt i n ≡ test →
        sum_l (sel_l (map (λ (a : ℕ). nat_lt a n) (range_with_len (i + 1) (length xs))) xs (replicate (length xs) 0))
        ≡ sum_l (take (n - (i + 1)) xs) →
        cond test x 0
        + sum_l (sel_l (map (λ (a : ℕ). nat_lt a n) (range_with_len (i + 1) (length xs))) xs (replicate (length xs) 0))
        ≡ sum_l (take (n - i) (x ∷ xs))
    by true t later =
        let at : n - i ≡ suc (n - (i + 1)) = grind (arith, nat_tests, t) in
        rw (at, later) refl
    by false t later =
        let at : n - i ≡ 0 = grind (arith, nat_tests, t) in
        let following : n - (i + 1) ≡ 0 = grind (arith, nat_tests, t) in
        rw (
          at,
          zero-add (sum_l (sel_l (map (λ (a : ℕ). nat_lt a n) (range_with_len (i + 1) (length xs))) xs
              (replicate (length xs) 0))),
        ) (rw following at later)

pub front-selected :
    (n : ℕ) (xs : List ℕ) → length xs ≡ 16 →
    sum_l (sel_l (map (top 7) (zip2 {C = ℕ} (λ a b. cond (nat_lt a b) 255 0) (range_with_len 0 16) (replicate 16 n)))
    xs (replicate 16 0))
    ≡ sum (take n xs)
front-selected n xs long =
    let tops = tops_compared w8 nat_lt (range_with_len 0 16) (replicate 16 n) in
    let lanes = zip2_splat {Z = Bool} nat_lt (range_with_len 0 16) 16 n refl in
    let all : n - 0 ≡ n = omega arith in
    let few : sum_l (sel_l (map (λ (a : ℕ). nat_lt a n) (range_with_len 0 16)) xs (replicate 16 0))
    ≡ sum_l (take n xs) =
    rw (long, all) at (selected 0 n xs) in
    ap (λ (ms : List Bool). sum_l (sel_l ms xs (replicate 16 0))) (tops ∙ lanes) ∙ (few ∙ sum_l-sum (take n xs))

-- the sum before a place further on
sum-before :
    (place count : ℕ) (bytes : List ℕ) → sum (take (place + count) bytes)
    ≡ sum (take place bytes) + sum (take count (drop place bytes))
sum-before place count bytes =
    rw (take-add place count bytes) (sum_by-append (λ (x : ℕ). x) (take place bytes) (take count (drop place bytes)))

-- by what the lanes hold of the bytes before a place, the sum of those before a further one
pub lanes-before :
    (place count : ℕ) (bytes lanes more : List ℕ) → length lanes ≡ length more →
    sum_l lanes % 256 ≡ sum (take place bytes) % 256 → sum_l more % 256 ≡ sum (take count (drop place bytes)) % 256 →
    sum_l (zip2 {C = ℕ} (λ (a b : ℕ). (a + b) % 256) lanes more) % 256 ≡ sum (take (place + count) bytes) % 256
lanes-before place count bytes lanes more long total added =
    omega (arith, zip-wrapped lanes more long, total, added, sum-before place count bytes)

-- the same of a sum that is no vector's
pub wrapped-before :
    (place count : ℕ) (bytes lanes : List ℕ) (more : ℕ) → sum_l lanes % 256 ≡ sum (take place bytes) % 256 →
    more ≡ sum (take count (drop place bytes)) % 256 →
    (fold_l (λ (s x : ℕ). (s + x) % 256) 0 lanes + more) % 256 ≡ sum (take (place + count) bytes) % 256
wrapped-before place count bytes lanes more total added =
    omega (arith, fold-lanes lanes, total, added, sum-before place count bytes)

-- four times sixteen bytes, added lane by lane
abbrev plus : ℕ → ℕ → ℕ
plus a b = (a + b) % 256

abbrev pub four : List ℕ → List ℕ → List ℕ → List ℕ → List ℕ
four bytes second third fourth =
    zip2 plus (zip2 plus (take 16 bytes) (take 16 second)) (zip2 plus (take 16 third) (take 16 fourth))

module _ (bytes second third fourth : List ℕ) (many : 64 ≤ length bytes) (is_second : second ≡ drop 16 bytes)
    (is_third : third ≡ drop 16 second) (is_fourth : fourth ≡ drop 16 third) where
  at : (third ≡ drop 32 bytes) × (fourth ≡ drop 48 bytes)
  at = parts_are bytes second third fourth is_second is_third is_fourth

  front_parts : (length (take 16 bytes) ≡ 16) × (length (take 16 second) ≡ 16)
  front_parts = (part_long 0 bytes bytes refl (omega arith), part_long 16 bytes second is_second (omega arith))

  back_parts : (length (take 16 third) ≡ 16) × (length (take 16 fourth) ≡ 16)
  back_parts = (part_long 32 bytes third at.0 (omega arith), part_long 48 bytes fourth at.1 (omega arith))

  front_same : length (take 16 bytes) ≡ length (take 16 second)
  front_same = front_parts.0 ∙ sym front_parts.1

  back_same : length (take 16 third) ≡ length (take 16 fourth)
  back_same = back_parts.0 ∙ sym back_parts.1

  front_long : length (zip2 plus (take 16 bytes) (take 16 second)) ≡ 16
  front_long = length-zip2 plus (take 16 bytes) (take 16 second) front_same ∙ front_parts.0

  back_long : length (zip2 plus (take 16 third) (take 16 fourth)) ≡ 16
  back_long = length-zip2 plus (take 16 third) (take 16 fourth) back_same ∙ back_parts.0

  all_same : length (zip2 plus (take 16 bytes) (take 16 second)) ≡ length (zip2 plus (take 16 third) (take 16 fourth))
  all_same = front_long ∙ sym back_long

  pub four_long : length (four bytes second third fourth) ≡ 16
  four_long =
      length-zip2 plus (zip2 plus (take 16 bytes) (take 16 second)) (zip2 plus (take 16 third) (take 16 fourth)) all_same
      ∙ front_long

  pub four_sum : sum_l (four bytes second third fourth) % 256 ≡ sum (take 64 bytes) % 256
  four_sum =
      let first = sum_l-sum (take 16 bytes) in
      let next = sum_l-sum (take 16 second) ∙ ap (λ (l : List ℕ). sum (take 16 l)) is_second in
      let further = sum_l-sum (take 16 third) ∙ ap (λ (l : List ℕ). sum (take 16 l)) at.0 in
      let last = sum_l-sum (take 16 fourth) ∙ ap (λ (l : List ℕ). sum (take 16 l)) at.1 in
      omega (
        arith,
        zip-wrapped (zip2 plus (take 16 bytes) (take 16 second)) (zip2 plus (take 16 third) (take 16 fourth)) all_same,
        zip-wrapped (take 16 bytes) (take 16 second) front_same,
        zip-wrapped (take 16 third) (take 16 fourth) back_same,
        first,
        next,
        further,
        last,
        sum-before 16 16 bytes,
        sum-before 32 16 bytes,
        sum-before 48 16 bytes,
      )
