-- The bytes that no text may hold: sixteen tested at once, and parts of a text without one.
use Rattle.std.proofs.Common.{◌≡◌, ℕ, zero, suc, ◌+◌, ◌*◌, ◌%◌, ◌^◌, Bool, true, false, cond, leb, eqb, List, [], ◌∷◌}
use Rattle.std.proofs.Common.{Option, None, Some, length, map, take, drop, replicate, bit_and, bit_or, refl, ap, sym}
use Rattle.std.proofs.Common.{◌∙◌, arith}
use Rattle.std.specs.Prelude.{nat_lt, ◌&&◌, ◌||◌}
use Rattle.std.specs.List.{position_from}
use Rattle.std.specs.Option.{option_map}
use Rattle.std.specs.Simd.Lanes.{zip2, mask_l, top}
use mir.Syntax.{w8}
use Rattle.std.proofs.lemmas.Simd.{bitmask_splat, zip2_splat, zip2_splat_left, zip2_of_maps, map-map, mask_l-mod}
use Rattle.std.proofs.lemmas.List.{length-map}
use Rattle.std.proofs.lemmas.Bool.Decides.{nat_tests}
use Rattle.lis_text.specs.declared.text.TextFault.TheVariants.{TooLong, Forbidden}
use Rattle.lis_text.specs.Text.{is_forbidden, first_forbidden, text_fault, IsText}
use Rattle.lis_bytes.proofs.SearchLemmas.{same_map}

-- a lane of the tests
abbrev lane : ℕ → ℕ
lane b =
    bit_or
    (bit_or (bit_and (cond (leb 1 b) 255 0) (cond (leb b 6) 255 0)) (cond (eqb b 10) 255 0))
    (bit_and (cond (leb 16 b) 255 0) (cond (leb b 23) 255 0))

lane_top : (b : ℕ) → top 7 (lane b) ≡ is_forbidden b
lane_top b = by (leb 1 b) (leb b 6) (eqb b 10) (leb 16 b) (leb b 23)
  where
    by :
        (a b c d e : Bool) →
        top 7 (bit_or (bit_or (bit_and (cond a 255 0) (cond b 255 0)) (cond c 255 0))
        (bit_and (cond d 255 0) (cond e 255 0)))
        ≡ (a && b || c || d && e)
    by true true true true true = refl
    by true true true true false = refl
    by true true true false true = refl
    by true true true false false = refl
    by true true false true true = refl
    by true true false true false = refl
    by true true false false true = refl
    by true true false false false = refl
    by true false true true true = refl
    by true false true true false = refl
    by true false true false true = refl
    by true false true false false = refl
    by true false false true true = refl
    by true false false true false = refl
    by true false false false true = refl
    by true false false false false = refl
    by false true true true true = refl
    by false true true true false = refl
    by false true true false true = refl
    by false true true false false = refl
    by false true false true true = refl
    by false true false true false = refl
    by false true false false true = refl
    by false true false false false = refl
    by false false true true true = refl
    by false false true true false = refl
    by false false true false true = refl
    by false false true false false = refl
    by false false false true true = refl
    by false false false true false = refl
    by false false false false true = refl
    by false false false false false = refl

ge : (xs : List ℕ) → length xs ≡ 16 → (n : ℕ) → zip2 {C = ℕ} (λ a b. cond (leb a b) 255 0) (replicate 16 n) xs
    ≡ map {B = ℕ} (λ b. cond (leb n b) 255 0) xs
ge xs long n = zip2_splat_left {Z = ℕ} (λ a b. cond (leb a b) 255 0) n 16 xs long

le : (xs : List ℕ) → length xs ≡ 16 → (n : ℕ) → zip2 {C = ℕ} (λ a b. cond (leb a b) 255 0) xs (replicate 16 n)
    ≡ map {B = ℕ} (λ b. cond (leb b n) 255 0) xs
le xs long n = zip2_splat {Z = ℕ} (λ a b. cond (leb a b) 255 0) xs 16 n long

-- the bits of the lanes of sixteen bytes
pub lanes-forbidden :
    (xs : List ℕ) → length xs ≡ 16 →
    mask_l (map (top 7)
    (zip2 bit_or
    (zip2 bit_or
    (zip2 bit_and (zip2 {C = ℕ} (λ a b. cond (leb a b) 255 0) (replicate 16 1) xs)
    (zip2 {C = ℕ} (λ a b. cond (leb a b) 255 0) xs (replicate 16 6)))
    (zip2 {C = ℕ} (λ a b. cond (eqb a b) 255 0) xs (replicate 16 10)))
    (zip2 bit_and (zip2 {C = ℕ} (λ a b. cond (leb a b) 255 0) (replicate 16 16) xs)
    (zip2 {C = ℕ} (λ a b. cond (leb a b) 255 0) xs (replicate 16 23))))) % 2 ^ 64
    ≡ mask_l (map is_forbidden xs)
lanes-forbidden xs long =
    let line_feed : zip2 {C = ℕ} (λ a b. cond (eqb a b) 255 0) xs (replicate 16 10)
    ≡ map {B = ℕ} (λ b. cond (eqb b 10) 255 0) xs = zip2_splat {Z = ℕ} (λ a b. cond (eqb a b) 255 0) xs 16 10 long in
    let low = zip2_of_maps bit_and _ _ xs (ge xs long 1) (le xs long 6) in
    let high = zip2_of_maps bit_and _ _ xs (ge xs long 16) (le xs long 23) in
    let all = zip2_of_maps bit_or _ _ xs (zip2_of_maps bit_or _ _ xs low line_feed) high in
    ap (λ (lanes : List ℕ). mask_l (map (top 7) lanes) % 2 ^ 64) all
    ∙ ap (λ (ms : List Bool). mask_l ms % 2 ^ 64) (map-map (top 7) lane xs
    ∙ same_map (λ b. top 7 (lane b)) is_forbidden lane_top xs)
    ∙ mask_l-mod (map is_forbidden xs) 64 (omega (arith, length-map xs is_forbidden))

-- where no byte is under 24, none is forbidden
pub none_low : (xs : List ℕ) → mask_l (map (λ b. leb b 23) xs) ≡ 0 → 0 ≡ mask_l (map is_forbidden xs)
none_low [] none = refl
none_low (b ∷ xs) none = by (leb b 23) refl none (none_low xs)
  where
    by :
        (low : Bool) → leb b 23 ≡ low → cond low 1 0 + 2 * mask_l (map (λ b. leb b 23) xs) ≡ 0 →
        (mask_l (map (λ b. leb b 23) xs) ≡ 0 → 0 ≡ mask_l (map is_forbidden xs))
        → 0 ≡ mask_l (map is_forbidden (b ∷ xs))
    by true t none later = absurd (omega arith)
    by false t none later =
        let allowed : is_forbidden b ≡ false = grind (arith, nat_tests, t) in
        rw allowed (omega (arith, later (omega arith)))

pub lanes-none :
    (xs : List ℕ) → length xs ≡ 16 →
    mask_l (map (top 7) (zip2 {C = ℕ} (λ a b. cond (leb a b) 255 0) xs (replicate 16 23))) % 2 ^ 64 ≡ 0
    → 0 ≡ mask_l (map is_forbidden xs)
lanes-none xs long none = none_low xs (sym (bitmask_splat w8 leb xs 16 23 long (omega arith)) ∙ none)

-- a part of a text without a forbidden byte has none
none_from : (i j : ℕ) (text : List ℕ) → position_from is_forbidden i text ≡ None
    → position_from is_forbidden j text ≡ None
none_from i j [] none = refl
none_from i j (b ∷ text) none = by (is_forbidden b) none (none_from (i + 1) (j + 1) text)
  where
    by :
        (test : Bool) → cond test (Some i) (position_from is_forbidden (i + 1) text) ≡ None →
        (position_from is_forbidden (i + 1) text ≡ None → position_from is_forbidden (j + 1) text ≡ None) →
        cond test (Some j) (position_from is_forbidden (j + 1) text) ≡ None
    by true none later = cc
    by false none later = later none

pub none-drop : (n i : ℕ) (text : List ℕ) → position_from is_forbidden i text ≡ None
    → position_from is_forbidden i (drop n text) ≡ None
none-drop zero i text none = none
none-drop (suc n) i [] none = refl
none-drop (suc n) i (b ∷ text) none = by (is_forbidden b) none
    (λ later. none-drop n i text (none_from (i + 1) i text later))
  where
    by :
        (test : Bool) → cond test (Some i) (position_from is_forbidden (i + 1) text) ≡ None →
        (position_from is_forbidden (i + 1) text ≡ None → position_from is_forbidden i (drop n text) ≡ None) →
        position_from is_forbidden i (drop n text) ≡ None
    by true none later = cc
    by false none later = later none

pub none-take : (n i : ℕ) (text : List ℕ) → position_from is_forbidden i text ≡ None
    → position_from is_forbidden i (take n text) ≡ None
none-take zero i text none = refl
none-take (suc n) i [] none = refl
none-take (suc n) i (b ∷ text) none = by (is_forbidden b) none (none-take n (i + 1) text)
  where
    by :
        (test : Bool) → cond test (Some i) (position_from is_forbidden (i + 1) text) ≡ None →
        (position_from is_forbidden (i + 1) text ≡ None → position_from is_forbidden (i + 1) (take n text) ≡ None) →
        cond test (Some i) (position_from is_forbidden (i + 1) (take n text)) ≡ None
    by true none later = cc
    by false none later = later none

-- what a text without fault is
pub text_fault-none : (limit : ℕ) (text : List ℕ) → text_fault limit text ≡ None → IsText limit text
text_fault-none limit text none = by (nat_lt limit (length text)) refl none
  where
    by :
        (test : Bool) → nat_lt limit (length text) ≡ test →
        cond test (Some TooLong) (option_map Forbidden (first_forbidden text)) ≡ None → IsText limit text
    by true e none = cc
    by false e none = record { short = grind (arith, nat_tests); clean = clean_by (first_forbidden text) none }
      where
        clean_by : (o : Option ℕ) → option_map Forbidden o ≡ None → o ≡ None
        clean_by None none = refl
        clean_by (Some place) none = cc
