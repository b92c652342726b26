-- The places of a byte among the first bytes of a text, as bits.
use Rattle.std.proofs.Common.{◌≡◌, ◌≤◌, ◌<◌, ℕ, zero, suc, ◌+◌, ◌*◌, ◌-◌, ◌/◌, ◌%◌, ◌^◌, ◌==◌, Bool, Some}
use Rattle.std.proofs.Common.{List, [], ◌∷◌, length, map, take, drop, ap, subst, sym, ◌∙◌, arith, refl, length-take}
use Rattle.std.proofs.Common.{cond, eqb, replicate}
use Rattle.std.specs.List.{position}
use Rattle.std.specs.Int.Count.{count_trailing_zeros}
use Rattle.std.specs.Simd.Lanes.{mask_l, top, zip2}
use Rattle.std.proofs.Math.Nat.{div-le_self, pow-succ', mul_assoc}
use Rattle.std.proofs.Math.Pow.{pow_mono}
use Rattle.std.proofs.lemmas.Iterator.Adapters.{position_from-zero}
use Rattle.std.proofs.lemmas.List.{drop-drop, drop-take, length-drop, length-map, take-take}
use Rattle.std.proofs.lemmas.Simd.{bitmask_splat, mask_l-lt}
use mir.Syntax.{w8}
use Rattle.lis_bytes.proofs.SearchLemmas.{found-chunk, found-within}
use Rattle.lis_bytes.specs.Marks.{AreMarks}
use Rattle.lis_bytes.proofs.LastBits.{mask_l-drop}

module _ (f : ℕ → Bool) where
  -- the bits of the first bytes, and those of the others above them
  mask_l-split : (n : ℕ) (xs : List ℕ) → n ≤ length xs
      → mask_l (map f (take n xs)) + 2 ^ n * mask_l (map f (drop n xs)) ≡ mask_l (map f xs)
  mask_l-split zero xs room = omega arith
  mask_l-split (suc n) [] room = absurd (omega arith)
  mask_l-split (suc n) (x ∷ xs) room =
      rw (pow-succ' 2 n, mul_assoc 2 (2 ^ n) (mask_l (map f (drop n xs))))
      (omega (arith, mask_l-split n xs (omega arith)))

  -- of the bytes after so many, by those that are among the same number of bytes at their end
  pub window-bits : (lanes count : ℕ) (text : List ℕ) → count ≤ lanes
      → mask_l (map f (take lanes (drop count text))) / 2 ^ (lanes - count)
      ≡ mask_l (map f (take count (drop lanes text)))
  window-bits lanes count text few =
      let all : lanes - count + count ≡ lanes = omega arith in
      let at : count + (lanes - count) ≡ lanes = omega arith in
      ap (λ (n : ℕ). mask_l (map f (take n (drop count text))) / 2 ^ (lanes - count)) (sym all)
      ∙ mask_l-drop f (lanes - count) (take (lanes - count + count) (drop count text))
      ∙ ap (λ (l : List ℕ). mask_l (map f l)) (drop-take (lanes - count) count (drop count text))
      ∙ ap (λ (l : List ℕ). mask_l (map f (take count l))) (drop-drop (lanes - count) count text)
      ∙ ap (λ (n : ℕ). mask_l (map f (take count (drop n text)))) at

  -- of the first bytes, by two windows that may overlap
  pub front-bits : (lanes count : ℕ) (text : List ℕ) → count ≤ lanes → lanes + count ≤ length text
      → mask_l (map f (take lanes text)) + 2 ^ lanes * mask_l (map f (take count (drop lanes text)))
      ≡ mask_l (map f (take (lanes + count) text))
  front-bits lanes count text few room =
      let front = take (lanes + count) text in
      let long : lanes ≤ length front = omega (arith, length-take (lanes + count) text, room) in
      let first : take lanes front ≡ take lanes text = take-take lanes (lanes + count) text (omega arith) in
      let later : drop lanes front ≡ take count (drop lanes text) = drop-take lanes count text in
      rw (first, later) at (mask_l-split lanes front long)

  -- how large they can be
  pub bits-small : (lanes : ℕ) (text : List ℕ) → mask_l (map f (take lanes text)) < 2 ^ lanes
  bits-small lanes text =
      let few : length (map f (take lanes text)) ≤ lanes =
      omega (arith, length-map (take lanes text) f, length-take lanes text) in
      let most = pow_mono few in
      omega (arith, mask_l-lt (map f (take lanes text)), most)

none-taken : (n : ℕ) → [] ≡ take {A = ℕ} n []
none-taken zero = refl
none-taken (suc n) = refl

-- after so many bytes
pub front-following : (m n : ℕ) (xs : List ℕ) → drop m (take n xs) ≡ take (n - m) (drop m xs)
front-following zero n xs = let all : n - 0 ≡ n = omega arith in rw all refl
front-following (suc m) zero xs = let none : 0 - suc m ≡ 0 = omega arith in rw none refl
front-following (suc m) (suc n) [] = none-taken (suc n - suc m)
front-following (suc m) (suc n) (x ∷ xs) = let same : suc n - suc m ≡ n - m = omega arith in rw same
    (front-following m n xs)

module _ (mark : ℕ) (text : List ℕ) where
  pub marks-none : AreMarks mark text 0
  marks-none = record { count = 0; few = omega arith; within = omega arith; are = refl }

  module _ (bits : ℕ) (m : AreMarks mark text bits) where
    pub marks-following : (passed : ℕ) → AreMarks mark (drop passed text) (bits / 2 ^ passed)
    marks-following passed = record {
      count = m.count - passed;
      few = omega (arith, m.few);
      within = omega (arith, m.within, length-drop passed text);
      are =
          ap (λ (n : ℕ). n / 2 ^ passed) m.are
          ∙ mask_l-drop (λ b. b == mark) passed (take m.count text)
          ∙ ap (λ (l : List ℕ). mask_l (map (λ b. b == mark) l)) (front-following passed m.count text);
    }

    some : (bits ≡ 0 → ⊥) → mask_l (map (λ b. b == mark) (take m.count text)) ≡ 0 → ⊥
    some found none = found (m.are ∙ none)

    pub marks-found : (bits ≡ 0 → ⊥) → position (λ b. b == mark) text ≡ Some (count_trailing_zeros 64 bits)
    marks-found found =
        let at : 0 + count_trailing_zeros 64 bits ≡ count_trailing_zeros 64 bits = omega arith in
        position_from-zero (λ (b : ℕ). b == mark) text
        ∙ rw (← m.are) at (found-chunk (λ b. b == mark) 0 m.count text m.few m.within (some found)) ∙ ap Some at

    pub marks-within : (bits ≡ 0 → ⊥) → count_trailing_zeros 64 bits < 64
    marks-within found =
        omega (arith, rw (← m.are) at (found-within (λ b. b == mark) m.count text m.few m.within (some found)), m.few)

    pub marks-inside : (bits ≡ 0 → ⊥) → count_trailing_zeros 64 bits < length text
    marks-inside found =
        omega (
          arith,
          rw (← m.are) at (found-within (λ b. b == mark) m.count text m.few m.within (some found)),
          m.within,
        )

-- after one byte
pub marks-next : (mark byte bits : ℕ) (text following : List ℕ) → text ≡ byte ∷ following → AreMarks mark text bits
    → AreMarks mark following (bits / 2 ^ 1)
marks-next mark byte bits text following is m =
    subst (λ (l : List ℕ). AreMarks mark (drop 1 l) (bits / 2 ^ 1)) is (marks-following mark text bits m 1)

-- those of the first bytes, by two windows, the second after those of the first that are new
module _ (mark lanes count : ℕ) (text rest : List ℕ) (first window bits : ℕ) where
  pub marks_windows : first ≡ mask_l (map (λ b. b == mark) (take lanes text))
      → window ≡ mask_l (map (λ b. b == mark) (take lanes rest)) → rest ≡ drop count text → count ≤ lanes → lanes ≤ 32
      → lanes + count ≤ length text → bits ≡ first + 2 ^ lanes * (window / 2 ^ (lanes - count))
      → AreMarks mark text bits
  marks_windows first_is window_is following few most room is = record {
    count = lanes + count;
    few = omega arith;
    within = room;
    are =
        is
        ∙ rw (first_is, rw following at window_is, window-bits (λ b. b == mark) lanes count text few)
        (front-bits (λ b. b == mark) lanes count text few room);
  }

-- how large they are
following_small : (f : ℕ → Bool) (lanes count window : ℕ) (rest : List ℕ) → window ≡ mask_l (map f (take lanes rest))
    → window / 2 ^ (lanes - count) < 2 ^ lanes
following_small f lanes count window rest window_is =
    let small : window < 2 ^ lanes = rw window_is (bits-small f lanes rest) in
    omega (arith, small, div-le_self window (2 ^ (lanes - count)))

pub following_fits_32 : (f : ℕ → Bool) (count window : ℕ) (rest : List ℕ) → window ≡ mask_l (map f (take 32 rest))
    → 4294967296 * (window / 2 ^ (32 - count)) < 18446744073709551616
following_fits_32 f count window rest window_is = omega (arith, following_small f 32 count window rest window_is)

pub fit_32 : (f : ℕ → Bool) (count first window : ℕ) (text rest : List ℕ) → first ≡ mask_l (map f (take 32 text))
    → window ≡ mask_l (map f (take 32 rest)) → first + 4294967296 * (window / 2 ^ (32 - count)) < 18446744073709551616
fit_32 f count first window text rest first_is window_is =
    let small : first < 2 ^ 32 = rw first_is (bits-small f 32 text) in
    omega (arith, small, following_small f 32 count window rest window_is)

pub turned_fit_32 : (f : ℕ → Bool) (count first window : ℕ) (text rest : List ℕ)
    → first ≡ mask_l (map f (take 32 text)) → window ≡ mask_l (map f (take 32 rest))
    → 4294967296 * (window / 2 ^ (32 - count)) + first < 18446744073709551616
turned_fit_32 f count first window text rest first_is window_is =
    omega (arith, fit_32 f count first window text rest first_is window_is)

pub following_fits_16 : (f : ℕ → Bool) (count window : ℕ) (rest : List ℕ) → window ≡ mask_l (map f (take 16 rest))
    → 65536 * (window / 2 ^ (16 - count)) < 18446744073709551616
following_fits_16 f count window rest window_is = omega (arith, following_small f 16 count window rest window_is)

pub fit_16 : (f : ℕ → Bool) (count first window : ℕ) (text rest : List ℕ) → first ≡ mask_l (map f (take 16 text))
    → window ≡ mask_l (map f (take 16 rest)) → first + 65536 * (window / 2 ^ (16 - count)) < 18446744073709551616
fit_16 f count first window text rest first_is window_is =
    let small : first < 2 ^ 16 = rw first_is (bits-small f 16 text) in
    omega (arith, small, following_small f 16 count window rest window_is)

pub turned_fit_16 : (f : ℕ → Bool) (count first window : ℕ) (text rest : List ℕ)
    → first ≡ mask_l (map f (take 16 text)) → window ≡ mask_l (map f (take 16 rest))
    → 65536 * (window / 2 ^ (16 - count)) + first < 18446744073709551616
turned_fit_16 f count first window text rest first_is window_is =
    omega (arith, fit_16 f count first window text rest first_is window_is)

-- by the comparison of so many lanes with a vector of this byte
module _ (mark : ℕ) (bytes : List ℕ) where
  compared : (n : ℕ) → n ≤ 32 → n ≤ length bytes
      → mask_l (map (top 7) (zip2 {C = ℕ} (λ a b. cond (eqb a b) 255 0) (take n bytes) (replicate n mark))) % 2 ^ 64
      ≡ mask_l (map (λ b. b == mark) (take n bytes))
  compared n few many = bitmask_splat w8 eqb (take n bytes) n mark (omega (arith, length-take n bytes, many)) (omega arith)

  pub compared_16 : 16 ≤ length bytes
      → mask_l (map (top 7) (zip2 {C = ℕ} (λ a b. cond (eqb a b) 255 0) (take 16 bytes) (replicate 16 mark))) % 2 ^ 64
      ≡ mask_l (map (λ b. b == mark) (take 16 bytes))
  compared_16 many = compared 16 (omega arith) many

  pub compared_32 : 32 ≤ length bytes
      → mask_l (map (top 7) (zip2 {C = ℕ} (λ a b. cond (eqb a b) 255 0) (take 32 bytes) (replicate 32 mark))) % 2 ^ 64
      ≡ mask_l (map (λ b. b == mark) (take 32 bytes))
  compared_32 many = compared 32 (omega arith) many
