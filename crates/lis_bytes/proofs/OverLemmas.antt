-- Sixty-four bytes that are over a limit, by the least of each four that are sixteen apart.
use Rattle.std.proofs.Common.{◌≡◌, ℕ, zero, suc, ◌+◌, ◌*◌, ◌%◌, ◌^◌, ◌≤◌, Bool, true, false, cond, eqb, leb, ltb}
use Rattle.std.proofs.Common.{List, [], ◌∷◌, ◌++◌, length, map, take, drop, replicate, length-take, length-drop}
use Rattle.std.proofs.Common.{refl, ap, ◌∙◌, ◌↔◌, arith}
use Rattle.std.proofs.Math.Seq.{take-add}
use Rattle.std.proofs.lemmas.List.{drop-drop}
use Rattle.std.specs.Simd.Lanes.{mask_l, sel_l, top, zip2}
use mir.Syntax.{w8}
use Rattle.std.proofs.lemmas.Simd.{bitmask_splat}
use Rattle.std.proofs.lemmas.Bool.Decides.{nat_tests}
use Rattle.lis_bytes.specs.inside.Search.{AreOver, IsLesser}

-- the lesser of two vectors
abbrev pub lesser : List ℕ → List ℕ → List ℕ
lesser xs ys = sel_l (map (top 7) (zip2 {C = ℕ} (λ a b. cond (ltb a b) 255 0) xs ys)) xs ys

length-lesser : (n : ℕ) (xs ys : List ℕ) → length xs ≡ n → length ys ≡ n → length (lesser xs ys) ≡ n
length-lesser n [] [] one two = one
length-lesser n [] (y ∷ ys) one two = absurd (omega arith)
length-lesser n (x ∷ xs) [] one two = absurd (omega arith)
length-lesser zero (x ∷ xs) (y ∷ ys) one two = absurd (omega arith)
length-lesser (suc n) (x ∷ xs) (y ∷ ys) one two = ap suc (length-lesser n xs ys (omega arith) (omega arith))

-- the places that hold a byte up to the limit, as bits
abbrev low : ℕ → List ℕ → ℕ
low limit xs = mask_l (map (λ b. leb b limit) xs)

both_over :
    (limit x y rest : ℕ) (m : Bool) → ltb x y ≡ m
    → cond (leb (cond (top 7 (cond m 255 0)) x y) limit) 1 0 + 2 * rest ≡ 0
    → (leb x limit ≡ false) × (leb y limit ≡ false) × (rest ≡ 0)
both_over limit x y rest true less none = by (leb x limit) refl none
  where
    by : (t : Bool) → leb x limit ≡ t → cond t 1 0 + 2 * rest ≡ 0
        → (leb x limit ≡ false) × (leb y limit ≡ false) × (rest ≡ 0)
    by true is none = absurd (omega arith)
    by false is none = (is, grind (arith, nat_tests, is, less), omega arith)
both_over limit x y rest false less none = by (leb y limit) refl none
  where
    by : (t : Bool) → leb y limit ≡ t → cond t 1 0 + 2 * rest ≡ 0
        → (leb x limit ≡ false) × (leb y limit ≡ false) × (rest ≡ 0)
    by true is none = absurd (omega arith)
    by false is none = (grind (arith, nat_tests, is, less), is, omega arith)

-- where none of the lesser is up to the limit, none of both is
none_low : (limit n : ℕ) (xs ys : List ℕ) → length xs ≡ n → length ys ≡ n → low limit (lesser xs ys) ≡ 0
    → (low limit xs ≡ 0) × (low limit ys ≡ 0)
none_low limit n [] [] one two none = (refl, refl)
none_low limit n [] (y ∷ ys) one two none = absurd (omega arith)
none_low limit n (x ∷ xs) [] one two none = absurd (omega arith)
none_low limit zero (x ∷ xs) (y ∷ ys) one two none = absurd (omega arith)
none_low limit (suc n) (x ∷ xs) (y ∷ ys) one two none =
    let heads = both_over limit x y (low limit (lesser xs ys)) (ltb x y) refl none in
    let tails = none_low limit n xs ys (omega arith) (omega arith) heads.2 in (
      rw heads.0 (omega (arith, tails.0)),
      rw heads.1 (omega (arith, tails.1)),
    )

-- and where none of both is, none of the lesser is
lesser_over :
    (limit x y rest : ℕ) (m : Bool) → ltb x y ≡ m → leb x limit ≡ false → leb y limit ≡ false → rest ≡ 0
    → cond (leb (cond (top 7 (cond m 255 0)) x y) limit) 1 0 + 2 * rest ≡ 0
lesser_over limit x y rest true less first second none = rw first (omega (arith, none))
lesser_over limit x y rest false less first second none = rw second (omega (arith, none))

head_over : (limit x rest : ℕ) → cond (leb x limit) 1 0 + 2 * rest ≡ 0 → (leb x limit ≡ false) × (rest ≡ 0)
head_over limit x rest none = by (leb x limit) none
  where
    by : (t : Bool) → cond t 1 0 + 2 * rest ≡ 0 → (t ≡ false) × (rest ≡ 0)
    by true none = absurd (omega arith)
    by false none = (refl, omega arith)

lesser_low : (limit n : ℕ) (xs ys : List ℕ) → length xs ≡ n → length ys ≡ n → low limit xs ≡ 0 → low limit ys ≡ 0
    → low limit (lesser xs ys) ≡ 0
lesser_low limit n [] [] one two first second = refl
lesser_low limit n [] (y ∷ ys) one two first second = absurd (omega arith)
lesser_low limit n (x ∷ xs) [] one two first second = absurd (omega arith)
lesser_low limit zero (x ∷ xs) (y ∷ ys) one two first second = absurd (omega arith)
lesser_low limit (suc n) (x ∷ xs) (y ∷ ys) one two first second =
    let one_over = head_over limit x (low limit xs) first in
    let two_over = head_over limit y (low limit ys) second in
    lesser_over limit x y (low limit (lesser xs ys)) (ltb x y) refl one_over.0 two_over.0
    (lesser_low limit n xs ys (omega arith) (omega arith) one_over.1 two_over.1)

none_joined : (limit : ℕ) (xs ys : List ℕ) → low limit xs ≡ 0 → low limit ys ≡ 0 → low limit (xs ++ ys) ≡ 0
none_joined limit [] ys first second = second
none_joined limit (x ∷ xs) ys first second = by (leb x limit) first (λ none. none_joined limit xs ys none second)
  where
    by : (t : Bool) → cond t 1 0 + 2 * low limit xs ≡ 0 → (low limit xs ≡ 0 → low limit (xs ++ ys) ≡ 0)
        → cond t 1 0 + 2 * low limit (xs ++ ys) ≡ 0
    by true first later = absurd (omega arith)
    by false first later = omega (arith, later (omega arith))

none_parted : (limit : ℕ) (xs ys : List ℕ) → low limit (xs ++ ys) ≡ 0 → (low limit xs ≡ 0) × (low limit ys ≡ 0)
none_parted limit [] ys none = (refl, none)
none_parted limit (x ∷ xs) ys none =
    let head = head_over limit x (low limit (xs ++ ys)) none in
    let tail = none_parted limit xs ys head.1 in
    (rw head.0 (omega (arith, tail.0)), tail.1)

-- four times sixteen bytes, each sixteen after those before them
pub parts_are :
    (bytes second third fourth : List ℕ) → second ≡ drop 16 bytes → third ≡ drop 16 second → fourth ≡ drop 16 third
    → (third ≡ drop 32 bytes) × (fourth ≡ drop 48 bytes)
parts_are bytes second third fourth is_second is_third is_fourth =
    let third_is : third ≡ drop 32 bytes = is_third ∙ ap (drop 16) is_second ∙ drop-drop 16 16 bytes in
    (third_is, is_fourth ∙ ap (drop 16) third_is ∙ drop-drop 16 32 bytes)

pub part_long : (n : ℕ) (bytes part : List ℕ) → part ≡ drop n bytes → n + 16 ≤ length bytes → length (take 16 part) ≡ 16
part_long n bytes part is many = rw is (omega (arith, length-take 16 (drop n bytes), length-drop n bytes))

four_parts : (bytes : List ℕ) → take 64 bytes
    ≡ take 16 bytes ++ (take 16 (drop 16 bytes) ++ (take 16 (drop 32 bytes) ++ take 16 (drop 48 bytes)))
four_parts bytes =
    take-add 16 48 bytes
    ∙ ap (λ (l : List ℕ). take 16 bytes ++ l)
    (take-add 16 32 (drop 16 bytes)
    ∙ ap (λ (l : List ℕ). take 16 (drop 16 bytes) ++ l)
    (ap (take 32) (drop-drop 16 16 bytes) ∙ take-add 16 16 (drop 32 bytes)
    ∙ ap (λ (l : List ℕ). take 16 (drop 32 bytes) ++ take 16 l) (drop-drop 16 32 bytes)))

-- the lesser is over a limit if both are
pub is_lesser : (xs ys : List ℕ) → length xs ≡ 16 → length ys ≡ 16 → IsLesser (lesser xs ys) xs ys
is_lesser xs ys one two = record {
  over = λ limit. (none_low limit 16 xs ys one two, λ both. lesser_low limit 16 xs ys one two both.0 both.1);
  long = length-lesser 16 xs ys one two;
}

pub turned : (result one other : List ℕ) → IsLesser result one other → IsLesser result other one
turned result one other least = record {
  over = λ limit.
      let both = least.over limit in
      (λ over. let two = both.0 over in (two.1, two.0), λ over. both.1 (over.1, over.0));
  long = least.long;
}

-- sixty-four bytes are, if each sixteen are
four_over : (limit : ℕ) (bytes second third fourth : List ℕ) → second ≡ drop 16 bytes → third ≡ drop 16 second
    → fourth ≡ drop 16 third
    → AreOver limit (take 64 bytes) ↔ ((AreOver limit (take 16 bytes) × AreOver limit (take 16 second))
    × (AreOver limit (take 16 third) × AreOver limit (take 16 fourth)))
four_over limit bytes second third fourth is_second is_third is_fourth =
    let at = parts_are bytes second third fourth is_second is_third is_fourth in (
      λ none.
          let parts : low limit (take 16 bytes ++ (take 16 second ++ (take 16 third ++ take 16 fourth))) ≡ 0 =
          rw (is_second, at.0, at.1, ← four_parts bytes) none in
          let ones = none_parted limit (take 16 bytes) _ parts in
          let twos = none_parted limit (take 16 second) _ ones.1 in
          let last = none_parted limit (take 16 third) _ twos.1 in
          ((ones.0, twos.0), (last.0, last.1)),
      λ all.
          rw (four_parts bytes, ← is_second, ← at.0, ← at.1)
          (none_joined limit _ _ all.0.0 (none_joined limit _ _ all.0.1 (none_joined limit _ _ all.1.0 all.1.1))),
    )

-- as the comparison of a vector's lanes says it
over_bits : (limit : ℕ) (lanes : List ℕ) → length lanes ≡ 16
    → mask_l (map (top 7) (zip2 {C = ℕ} (λ a b. cond (leb a b) 255 0) lanes (replicate 16 limit))) % 2 ^ 64
    ≡ low limit lanes
over_bits limit lanes long = bitmask_splat w8 leb lanes 16 limit long (omega arith)

-- the least of four times sixteen bytes, compared with a limit
pub least_over : (limit : ℕ) (bytes second third fourth front back least : List ℕ) → second ≡ drop 16 bytes
    → third ≡ drop 16 second → fourth ≡ drop 16 third → IsLesser front (take 16 bytes) (take 16 second)
    → IsLesser back (take 16 third) (take 16 fourth) → IsLesser least front back
    → eqb (mask_l (map (top 7) (zip2 {C = ℕ} (λ a b. cond (leb a b) 255 0) least (replicate 16 limit))) % 2 ^ 64) 0 ≡ true
    ↔ mask_l (map (λ b. leb b limit) (take 64 bytes)) ≡ 0
least_over limit bytes second third fourth front back least is_second is_third is_fourth front_is back_is least_is =
    let all = four_over limit bytes second third fourth is_second is_third is_fourth in
    let first = front_is.over limit in
    let last = back_is.over limit in
    let both = least_is.over limit in
    let bits = over_bits limit least least_is.long in (
      λ is. grind (arith, nat_tests, is, all, first, last, both, bits),
      λ none. grind (arith, nat_tests, none, all, first, last, both, bits),
    )
