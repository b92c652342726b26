-- The bytes that are read wherever they are: sixteen tested at once.
use Rattle.std.proofs.Common.{◌≡◌, ℕ, ◌+◌, ◌*◌, ◌%◌, ◌^◌, Bool, true, false, cond, eqb, leb, List, [], ◌∷◌, length}
use Rattle.std.proofs.Common.{map, replicate, bit_or, refl, ap, ◌∙◌, arith}
use Rattle.std.proofs.lemmas.Bool.Decides.{nat_tests}
use Rattle.std.specs.Prelude.{◌||◌}
use Rattle.std.specs.Simd.Lanes.{zip2, mask_l, top}
use Rattle.std.proofs.lemmas.Simd.{zip2_splat, zip2_of_maps, map-map, mask_l-mod}
use Rattle.std.proofs.lemmas.List.{length-map}
use Rattle.lis_frame.specs.Stream.{is_mark}
use Rattle.lis_bytes.proofs.SearchLemmas.{same_map}

-- a lane of the tests for marks
abbrev lane_of_mark : ℕ → ℕ
lane_of_mark b =
    bit_or (bit_or (cond (eqb b 2) 255 0) (cond (eqb b 10) 255 0))
    (bit_or (cond (eqb b 4) 255 0) (cond (eqb b 5) 255 0))

lane_of_mark_top : (b : ℕ) → top 7 (lane_of_mark b) ≡ is_mark b
lane_of_mark_top b = by (eqb b 2) (eqb b 10) (eqb b 4) (eqb b 5)
  where
    by :
        (s l t q : Bool) →
        top 7 (bit_or (bit_or (cond s 255 0) (cond l 255 0)) (bit_or (cond t 255 0) (cond q 255 0)))
        ≡ (s || l || (t || q))
    by true true true true = refl
    by true true true false = refl
    by true true false true = refl
    by true true false false = refl
    by true false true true = refl
    by true false true false = refl
    by true false false true = refl
    by true false false false = refl
    by false true true true = refl
    by false true true false = refl
    by false true false true = refl
    by false true false false = refl
    by false false true true = refl
    by false false true false = refl
    by false false false true = refl
    by false false false false = refl

equal : (xs : List ℕ) → length xs ≡ 16 → (n : ℕ) → zip2 {C = ℕ} (λ a b. cond (eqb a b) 255 0) xs (replicate 16 n)
    ≡ map {B = ℕ} (λ b. cond (eqb b n) 255 0) xs
equal xs long n = zip2_splat {Z = ℕ} (λ a b. cond (eqb a b) 255 0) xs 16 n long

pub lanes-marks :
    (xs : List ℕ) → length xs ≡ 16 →
    mask_l (map (top 7)
    (zip2 bit_or
    (zip2 bit_or (zip2 {C = ℕ} (λ a b. cond (eqb a b) 255 0) xs (replicate 16 2))
    (zip2 {C = ℕ} (λ a b. cond (eqb a b) 255 0) xs (replicate 16 10)))
    (zip2 bit_or (zip2 {C = ℕ} (λ a b. cond (eqb a b) 255 0) xs (replicate 16 4))
    (zip2 {C = ℕ} (λ a b. cond (eqb a b) 255 0) xs (replicate 16 5))))) % 2 ^ 64
    ≡ mask_l (map is_mark xs)
lanes-marks xs long =
    let starts = zip2_of_maps bit_or _ _ xs (equal xs long 2) (equal xs long 10) in
    let ends = zip2_of_maps bit_or _ _ xs (equal xs long 4) (equal xs long 5) in
    let all = zip2_of_maps bit_or _ _ xs starts ends in
    ap (λ (lanes : List ℕ). mask_l (map (top 7) lanes) % 2 ^ 64) all
    ∙ ap (λ (ms : List Bool). mask_l ms % 2 ^ 64) (map-map (top 7) lane_of_mark xs
    ∙ same_map (λ b. top 7 (lane_of_mark b)) is_mark lane_of_mark_top xs)
    ∙ mask_l-mod (map is_mark xs) 64 (omega (arith, length-map xs is_mark))

-- where no byte is under 11, none is a mark
pub none_mark : (xs : List ℕ) → mask_l (map (λ b. leb b 10) xs) ≡ 0 → mask_l (map is_mark xs) ≡ 0
none_mark [] none = refl
none_mark (b ∷ xs) none = by (leb b 10) refl none (none_mark xs)
  where
    by :
        (low : Bool) → leb b 10 ≡ low → cond low 1 0 + 2 * mask_l (map (λ b. leb b 10) xs) ≡ 0 →
        (mask_l (map (λ b. leb b 10) xs) ≡ 0 → mask_l (map is_mark xs) ≡ 0) → mask_l (map is_mark (b ∷ xs)) ≡ 0
    by true t none later = absurd (omega arith)
    by false t none later =
        let other : is_mark b ≡ false = grind (arith, nat_tests, t) in
        rw other (omega (arith, later (omega arith)))
