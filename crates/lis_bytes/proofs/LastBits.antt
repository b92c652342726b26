-- The last bytes of a text, fewer than sixteen, by the bits of the last sixteen.
use Rattle.std.proofs.Common.{◌≡◌, ◌≤◌, ℕ, zero, suc, ◌+◌, ◌*◌, ◌-◌, ◌/◌, ◌^◌, Bool, true, false, cond, None, Some}
use Rattle.std.proofs.Common.{List, [], ◌∷◌, length, map, take, drop, ap, sym, ◌∙◌, arith}
use Rattle.std.specs.Prelude.{count_by}
use Rattle.std.specs.List.{position_from}
use Rattle.std.specs.Int.Count.{count_trailing_zeros}
use Rattle.std.specs.Int.RustNames.{count_ones}
use Rattle.std.specs.Simd.Lanes.{mask_l}
use Rattle.std.proofs.Math.Nat.{pow-succ', div-div-eq-div-mul, div-one, zero-div}
use Rattle.std.proofs.lemmas.List.{drop-drop, drop_all, length-drop, take_all}
use Rattle.std.proofs.lemmas.List.Sums.{sum_by-take-drop}
use Rattle.std.proofs.lemmas.Simd.{ones-mask_l}
use Rattle.lis_bytes.proofs.SearchLemmas.{passed-chunk, found-chunk}

module _ (f : ℕ → Bool) where
  halved : (b : Bool) (n : ℕ) → (cond b 1 0 + 2 * n) / 2 ≡ n
  halved true n = omega arith
  halved false n = omega arith

  -- the bits after so many are those of the bytes after as many
  pub mask_l-drop : (k : ℕ) (xs : List ℕ) → mask_l (map f xs) / 2 ^ k ≡ mask_l (map f (drop k xs))
  mask_l-drop zero xs = div-one (mask_l (map f xs))
  mask_l-drop (suc k) [] = zero-div (2 ^ suc k)
  mask_l-drop (suc k) (x ∷ xs) =
      ap (λ (n : ℕ). mask_l (map f (x ∷ xs)) / n) (pow-succ' 2 k)
      ∙ sym (div-div-eq-div-mul (mask_l (map f (x ∷ xs))) 2 (2 ^ k))
      ∙ ap (λ (n : ℕ). n / 2 ^ k) (halved (f x) (mask_l (map f xs))) ∙ mask_l-drop k xs

  last-bits : (text : List ℕ) (count : ℕ) → 16 ≤ length text → count ≤ 16
      → mask_l (map f (take 16 (drop (length text - 16) text))) / 2 ^ (16 - count)
      ≡ mask_l (map f (drop (length text - count) text))
  last-bits text count room few =
      let last : List ℕ = drop (length text - 16) text in
      let whole : take 16 last ≡ last = take_all 16 last (omega (arith, length-drop (length text - 16) text)) in
      let following : length text - 16 + (16 - count) ≡ length text - count = omega arith in
      ap (λ (l : List ℕ). mask_l (map f l) / 2 ^ (16 - count)) whole
      ∙ mask_l-drop (16 - count) last
      ∙ ap (λ (l : List ℕ). mask_l (map f l)) (drop-drop (16 - count) (length text - 16) text
      ∙ ap (λ (n : ℕ). drop n text) following)

  -- by the bits of the last sixteen
  pub last_shifted : (text last : List ℕ) (count bits : ℕ) → 16 ≤ length text → count ≤ 16
      → last ≡ drop (length text - 16) text → bits ≡ mask_l (map f (take 16 last))
      → bits / 2 ^ (16 - count) ≡ mask_l (map f (drop (length text - count) text))
  last_shifted text last count bits room few is are = rw (are, is) (last-bits text count room few)

  -- what they say about the bytes that are left after a place
  module _ (place bits : ℕ) (rest text : List ℕ) (fits : place + length rest ≡ length text)
      (following : rest ≡ drop place text) (is : bits ≡ mask_l (map f (drop (length text - length rest) text))) where
    left : drop (length text - length rest) text ≡ rest
    left =
        let same : length text - length rest ≡ place = omega (arith, fits) in
        ap (λ (n : ℕ). drop n text) same ∙ sym following

    whole : take (length rest) rest ≡ rest
    whole = take_all (length rest) rest (omega arith)

    of_rest : bits ≡ mask_l (map f (take (length rest) rest))
    of_rest = is ∙ ap (λ (l : List ℕ). mask_l (map f l)) (left ∙ sym whole)

    pub none-left : bits ≡ 0 → position_from f place rest ≡ None
    none-left none =
        passed-chunk f place (length rest) rest (omega arith) (sym of_rest ∙ none)
        ∙ ap (position_from f (place + length rest)) (drop_all (length rest) rest (omega arith))

    pub first-left : length rest ≤ 64 → (bits ≡ 0 → ⊥)
        → position_from f place rest ≡ Some (place + count_trailing_zeros 64 bits)
    first-left few some = rw of_rest (found-chunk f place (length rest) rest few (omega arith) (rw of_rest at some))

    pub count-left : count_ones bits ≡ count_by f rest
    count-left = ap count_ones of_rest ∙ ones-mask_l f (take (length rest) rest) ∙ ap (count_by f) whole

-- how many pass among the first bytes, and among the others
pub count_by-chunk : (f : ℕ → Bool) (n : ℕ) (xs : List ℕ)
    → count_by f (take n xs) + count_by f (drop n xs) ≡ count_by f xs
count_by-chunk f n xs = sum_by-take-drop (λ x. cond (f x) 1 0) xs n
