-- The first place that passes a test, by the lanes of a vector.
use Rattle.std.proofs.Common.{append-nil, ◌≡◌, ℕ, zero, suc, ◌+◌, ◌-◌, ◌*◌, ◌≤◌, ◌<◌, Bool, true, false, cond, List, []}
use Rattle.std.proofs.Common.{◌∷◌, ◌++◌, Option, None, Some, length, map, take, drop, length-take, take-append-drop}
use Rattle.std.proofs.Common.{refl, ap, sym, ◌∙◌, arith, length-drop, zero-add, add-zero}
use Rattle.std.proofs.lemmas.List.{drop-drop}
use Rattle.std.specs.Prelude.{nat_lt, not}
use Rattle.std.specs.List.{position_from, prefix_len}
use Rattle.std.specs.Option.{option_map}
use Rattle.std.specs.Simd.Lanes.{mask_l}
use Rattle.std.specs.Int.Count.{count_trailing_zeros}
use Rattle.std.proofs.lemmas.Simd.{leading_from_mask_l, trailing_mask_l}
use Rattle.std.proofs.lemmas.List.Sums.{prefix_len-le-length}
use Rattle.std.proofs.lemmas.Bool.Decides.{nat_tests}
use Rattle.lis_bytes.specs.inside.Search.{Passed}

-- a run in which no byte passes is passed over
position-none :
    (f : ℕ → Bool) (i : ℕ) (xs ys : List ℕ) → prefix_len (λ x. not (f x)) xs ≡ length xs →
    position_from f i (xs ++ ys) ≡ position_from f (i + length xs) ys
position-none f i [] ys e = rw (add-zero i) refl
position-none f i (x ∷ xs) ys e = by (f x) e (position-none f (i + 1) xs ys)
  where
    by :
        (test : Bool) → cond (not test) (1 + prefix_len (λ x. not (f x)) xs) 0 ≡ suc (length xs) →
        (prefix_len (λ x. not (f x)) xs ≡ length xs
        → position_from f (i + 1) (xs ++ ys) ≡ position_from f (i + 1 + length xs) ys) →
        cond test (Some i) (position_from f (i + 1) (xs ++ ys)) ≡ position_from f (i + suc (length xs)) ys
    by true e later = absurd (omega arith)
    by false e later =
        let at : i + suc (length xs) ≡ i + 1 + length xs = omega arith in
        rw at (later (omega arith))

-- else the first that passes is found in it
position-some :
    (f : ℕ → Bool) (i : ℕ) (xs ys : List ℕ) → prefix_len (λ x. not (f x)) xs < length xs →
    position_from f i (xs ++ ys) ≡ Some (i + prefix_len (λ x. not (f x)) xs)
position-some f i [] ys e = absurd (omega arith)
position-some f i (x ∷ xs) ys e = by (f x) e (position-some f (i + 1) xs ys)
  where
    by :
        (test : Bool) → cond (not test) (1 + prefix_len (λ x. not (f x)) xs) 0 < suc (length xs) →
        (prefix_len (λ x. not (f x)) xs < length xs
        → position_from f (i + 1) (xs ++ ys) ≡ Some (i + 1 + prefix_len (λ x. not (f x)) xs)) →
        cond test (Some i) (position_from f (i + 1) (xs ++ ys))
        ≡ Some (i + cond (not test) (1 + prefix_len (λ x. not (f x)) xs) 0)
    by true e later = rw (add-zero i) refl
    by false e later =
        let at : i + (1 + prefix_len (λ x. not (f x)) xs) ≡ i + 1 + prefix_len (λ x. not (f x)) xs = omega arith in
        rw at (later (omega arith))

-- what is before the first that passes
pub record Before (f : ℕ → Bool) (i k : ℕ) (xs : List ℕ) : Type 0 where
  pub from : i ≤ k
  pub inside : k < i + length xs
  pub clean : position_from f i (take (k - i) xs) ≡ None

position-before : (f : ℕ → Bool) (i k : ℕ) (xs : List ℕ) → position_from f i xs ≡ Some k → Before f i k xs
position-before f i k [] e = cc
position-before f i k (x ∷ xs) e = by (f x) refl e (position-before f (i + 1) k xs)
  where
    by :
        (test : Bool) → f x ≡ test → cond test (Some i) (position_from f (i + 1) xs) ≡ Some k →
        (position_from f (i + 1) xs ≡ Some k → Before f (i + 1) k xs) → Before f i k (x ∷ xs)
    by true t e later =
        let same : i ≡ k = cc in
        let at : k - i ≡ 0 = omega arith in
        record { from = omega arith; inside = omega arith; clean = rw at refl }
    by false t e later =
        let before = later e in
        let at : k - i ≡ suc (k - (i + 1)) = omega (arith, before.from) in
        record {
          from = omega (arith, before.from);
          inside = omega (arith, before.inside);
          clean = rw (at, t) before.clean;
        }

module _ (f : ℕ → Bool) (xs : List ℕ) where
  pub clean-before : (k : ℕ) → position_from f 0 xs ≡ Some k → (k < length xs) × (position_from f 0 (take k xs) ≡ None)
  clean-before k e =
      let before = position-before f 0 k xs e in
      let at : k - 0 ≡ k = omega arith in
      (omega (arith, before.inside), rw at at before.clean)

  -- the first that passes is after all that don't, and no further
  pub prefix-found : (k : ℕ) → position_from f 0 xs ≡ Some k → k ≡ prefix_len (λ x. not (f x)) xs
  prefix-found k e = by (nat_lt (prefix_len (λ x. not (f x)) xs) (length xs)) refl
    where
      by : (test : Bool) → nat_lt (prefix_len (λ x. not (f x)) xs) (length xs) ≡ test
          → k ≡ prefix_len (λ x. not (f x)) xs
      by true t =
          let found : position_from f 0 (xs ++ []) ≡ Some (0 + prefix_len (λ x. not (f x)) xs) =
          position-some f 0 xs [] (grind (arith, nat_tests, t)) in
          let at : 0 + prefix_len (λ x. not (f x)) xs ≡ prefix_len (λ x. not (f x)) xs =
          zero-add (prefix_len (λ x. not (f x)) xs) in
          let same : position_from f 0 xs ≡ Some (prefix_len (λ x. not (f x)) xs) = rw (append-nil xs, at) at found in
          cc
      by false t =
          let all : prefix_len (λ x. not (f x)) xs ≡ length xs =
          grind (arith, nat_tests, t, prefix_len-le-length (λ x. not (f x)) xs) in
          let none : position_from f 0 (xs ++ []) ≡ None = position-none f 0 xs [] all in
          let same = rw (append-nil xs) at none in
          cc

  pub prefix-none : position_from f 0 xs ≡ None → length xs ≡ prefix_len (λ x. not (f x)) xs
  prefix-none e = by (nat_lt (prefix_len (λ x. not (f x)) xs) (length xs)) refl
    where
      by : (test : Bool) → nat_lt (prefix_len (λ x. not (f x)) xs) (length xs) ≡ test
          → length xs ≡ prefix_len (λ x. not (f x)) xs
      by true t =
          let found : position_from f 0 (xs ++ []) ≡ Some (0 + prefix_len (λ x. not (f x)) xs) =
          position-some f 0 xs [] (grind (arith, nat_tests, t)) in
          let same = rw (append-nil xs) at found in
          cc
      by false t = grind (arith, nat_tests, t, prefix_len-le-length (λ x. not (f x)) xs)

-- the same by the mask of a vector's lanes
pub passed-chunk :
    (f : ℕ → Bool) (i n : ℕ) (xs : List ℕ) → n ≤ length xs → mask_l (map f (take n xs)) ≡ 0 →
    position_from f i xs ≡ position_from f (i + n) (drop n xs)
passed-chunk f i n xs room none =
    let long : length (take n xs) ≡ n = omega (arith, length-take n xs) in
    let passed = position-none f i (take n xs) (drop n xs) (leading_from_mask_l f (take n xs) none) in
    rw (take-append-drop n xs, long) at passed

-- a run that holds no byte of the set is passed over
pub passes :
    (f : ℕ → Bool) (n place : ℕ) (rest following bytes : List ℕ) → Passed f place rest bytes → n ≤ length rest
    → following ≡ drop n rest → mask_l (map f (take n rest)) ≡ 0 → Passed f (place + n) following bytes
passes f n place rest following bytes passed room is none = record {
  following = is ∙ ap (drop n) passed.following ∙ drop-drop n place bytes;
  fits = rw is (omega (arith, length-drop n rest, room, passed.fits));
  same = rw is (passed.same ∙ passed-chunk f place n rest room none);
}

-- nothing was passed yet
pub passed_none : (f : ℕ → Bool) (bytes : List ℕ) → Passed f 0 bytes bytes
passed_none f bytes = record { following = refl; fits = omega arith; same = refl }

positive : (m : ℕ) → (m ≡ 0 → ⊥) → 0 < m
positive zero some = absurd (some refl)
positive (suc m) some = omega arith

within : (f : ℕ → Bool) (ys : List ℕ) → 0 < mask_l (map f ys) → prefix_len (λ x. not (f x)) ys < length ys
within f [] set = absurd (omega arith)
within f (y ∷ ys) set = by (f y) set (within f ys)
  where
    by :
        (test : Bool) → 0 < cond test 1 0 + 2 * mask_l (map f ys) →
        (0 < mask_l (map f ys) → prefix_len (λ x. not (f x)) ys < length ys) →
        cond (not test) (1 + prefix_len (λ x. not (f x)) ys) 0 < suc (length ys)
    by true set later = omega arith
    by false set later = omega (arith, later (omega arith))

pub found-chunk :
    (f : ℕ → Bool) (i n : ℕ) (xs : List ℕ) → n ≤ 64 → n ≤ length xs → (mask_l (map f (take n xs)) ≡ 0 → ⊥) →
    position_from f i xs ≡ Some (i + count_trailing_zeros 64 (mask_l (map f (take n xs))))
found-chunk f i n xs short room some =
    let long : length (take n xs) ≡ n = omega (arith, length-take n xs) in
    let set : 0 < mask_l (map f (take n xs)) = positive _ some in
    let at = trailing_mask_l f 64 (take n xs) (omega arith) set in
    let inside : prefix_len (λ x. not (f x)) (take n xs) < length (take n xs) = within f (take n xs) set in
    rw (take-append-drop n xs, ← at) at (position-some f i (take n xs) (drop n xs) inside)

pub found-within :
    (f : ℕ → Bool) (n : ℕ) (xs : List ℕ) → n ≤ 64 → n ≤ length xs → (mask_l (map f (take n xs)) ≡ 0 → ⊥) →
    count_trailing_zeros 64 (mask_l (map f (take n xs))) < n
found-within f n xs short room some =
    let long : length (take n xs) ≡ n = omega (arith, length-take n xs) in
    let set : 0 < mask_l (map f (take n xs)) = positive _ some in
    let at = trailing_mask_l f 64 (take n xs) (omega arith) set in
    omega (arith, at, within f (take n xs) set)

-- places counted from elsewhere
position-shift :
    (f : ℕ → Bool) (i j : ℕ) (xs : List ℕ) → position_from f (i + j) xs ≡ option_map (λ k. i + k) (position_from f j xs)
position-shift f i j [] = refl
position-shift f i j (x ∷ xs) = by (f x) (position-shift f i (j + 1) xs)
  where
    by :
        (test : Bool) → position_from f (i + (j + 1)) xs ≡ option_map (λ k. i + k) (position_from f (j + 1) xs) →
        cond test (Some (i + j)) (position_from f (i + j + 1) xs)
        ≡ option_map (λ k. i + k) (cond test (Some j) (position_from f (j + 1) xs))
    by true later = refl
    by false later =
        let at : i + j + 1 ≡ i + (j + 1) = omega arith in
        rw at later

pub position-following :
    (f : ℕ → Bool) (i : ℕ) (xs : List ℕ) (o : Option ℕ) → o ≡ position_from f 0 xs
    → option_map (λ k. i + k) o ≡ position_from f i xs
position-following f i xs o e = rw e (sym (rw (add-zero i) at (position-shift f i 0 xs)))

-- tests that agree on each byte
pub same_map : (f g : ℕ → Bool) → ((b : ℕ) → f b ≡ g b) → (xs : List ℕ) → map f xs ≡ map g xs
same_map f g same [] = refl
same_map f g same (x ∷ xs) = rw (same x, same_map f g same xs) refl

-- sixty-four bytes that are all in a set have a place that is
pub all_found : (bytes : List ℕ) → 64 ≤ length bytes → mask_l (map (λ b. true) (take 64 bytes)) ≡ 0 → ⊥
all_found [] many none = absurd (omega arith)
all_found (b ∷ bytes) many none = absurd (omega arith)
