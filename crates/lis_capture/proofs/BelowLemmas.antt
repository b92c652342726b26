-- Lanes below a limit: whether all are, and the greater of two vectors, whose lanes are below it where those of both
-- are; and what is said about a vector byte by byte.
use Rattle.std.proofs.Common.{◌≡◌, ℕ, zero, suc, ◌+◌, ◌-◌, ◌*◌, ◌%◌, ◌^◌, ◌≤◌, ◌<◌, ◌&&◌, Bool, true, false, cond}
use Rattle.std.proofs.Common.{eqb, ltb, leb, List, [], ◌∷◌, length, map, replicate, refl, sym, ap, ◌∙◌, arith}
use Rattle.std.specs.Prelude.{nat_lt}
use Rattle.std.specs.List.{list_all}
use Rattle.std.specs.Simd.Lanes.{Each1, mask_l, sel_l, top, zip2}
use Rattle.std.proofs.lemmas.Bool.Decides.{nat_tests}
use Rattle.std.proofs.lemmas.List.{length-map}
use Rattle.std.proofs.lemmas.Simd.{mask_l-mod}
use mir.Syntax.{w8}
use mir.Val.{Fits}

-- one number from another, of a lane's width
abbrev pub less : ℕ → ℕ → ℕ
less a b = (a + (256 - b)) % 256

abbrev pub below : ℕ → ℕ → ℕ
below a b = cond (ltb a b) 255 0

-- ---- all lanes

-- which lanes are not below the limit, as bits
abbrev pub bits_over : ℕ → ℕ → List ℕ → ℕ
bits_over limit n xs = mask_l (map (top 7) (zip2 (λ a b. cond (leb a b) 255 0) (replicate n limit) xs))

pub bit_clear : (bits : ℕ) → eqb (0 + 2 * bits) 0 ≡ eqb bits 0
bit_clear bits = grind (arith, nat_tests)

pub bit_set : (bits : ℕ) → eqb (1 + 2 * bits) 0 ≡ false
bit_set bits = grind (arith, nat_tests)

one_below : (limit x bits : ℕ) (a rest : Bool) → nat_lt x limit ≡ a → rest ≡ eqb bits 0
    → (a && rest) ≡ eqb (cond (top 7 (cond (leb limit x) 255 0)) 1 0 + 2 * bits) 0
one_below limit x bits true rest is_below is =
    let low : leb limit x ≡ false = grind (arith, nat_tests, is_below) in
    rw low (is ∙ sym (bit_clear bits))
one_below limit x bits false rest is_finished is =
    let high : leb limit x ≡ true = grind (arith, nat_tests, is_finished) in
    rw high (sym (bit_set bits))

-- all are below it where no bit is set
pub all_below : (p : ℕ → Bool) (limit : ℕ) → ((x : ℕ) → nat_lt x limit ≡ p x) → (n : ℕ) (xs : List ℕ)
    → length xs ≡ n → list_all p xs ≡ eqb (bits_over limit n xs) 0
all_below p limit reports zero [] long = refl
all_below p limit reports zero (x ∷ xs) long = absurd (omega arith)
all_below p limit reports (suc n) [] long = absurd (omega arith)
all_below p limit reports (suc n) (x ∷ xs) long =
    one_below limit x (bits_over limit n xs) (p x) (list_all p xs) (reports x)
    (all_below p limit reports n xs (omega arith))

zip2_short : {X Y Z : Type 0} (f : X → Y → Z) (xs : List X) (ys : List Y) → length (zip2 f xs ys) ≤ length xs
zip2_short f [] ys = omega arith
zip2_short f (x ∷ xs) [] = omega arith
zip2_short f (x ∷ xs) (y ∷ ys) = omega (arith, zip2_short f xs ys)

-- the bits of sixteen lanes fit in a word
pub bits_fit : (limit : ℕ) (xs : List ℕ) → bits_over limit 16 xs % 2 ^ 64 ≡ bits_over limit 16 xs
bits_fit limit xs =
    let lanes : List ℕ = zip2 (λ a b. cond (leb a b) 255 0) (replicate 16 limit) xs in
    mask_l-mod (map (top 7) lanes) 64 (omega (
      arith,
      length-map lanes (top 7),
      zip2_short {Z = ℕ}
          (λ a b. cond (leb a b) 255 0) (replicate 16 limit) xs,
    ))

-- ---- the greater of two vectors

abbrev pub greater : List ℕ → List ℕ → List ℕ
greater xs ys = sel_l (map (top 7) (zip2 below xs ys)) ys xs

pub length-greater : (n : ℕ) (xs ys : List ℕ) → length xs ≡ n → length ys ≡ n → length (greater xs ys) ≡ n
length-greater n [] [] one two = one
length-greater n [] (y ∷ ys) one two = absurd (omega arith)
length-greater n (x ∷ xs) [] one two = absurd (omega arith)
length-greater zero (x ∷ xs) (y ∷ ys) one two = absurd (omega arith)
length-greater (suc n) (x ∷ xs) (y ∷ ys) one two = ap suc (length-greater n xs ys (omega arith) (omega arith))

-- the greater of two numbers is below the limit where both are
pub greater_below : (limit x y : ℕ) (a b m : Bool) → nat_lt x limit ≡ a → nat_lt y limit ≡ b → ltb x y ≡ m
    → nat_lt (cond (top 7 (cond m 255 0)) y x) limit ≡ (a && b)
greater_below limit x y true true true first second more = grind (arith, nat_tests, first, second, more)
greater_below limit x y true true false first second more = grind (arith, nat_tests, first, second, more)
greater_below limit x y true false true first second more = grind (arith, nat_tests, first, second, more)
greater_below limit x y true false false first second more = grind (arith, nat_tests, first, second, more)
greater_below limit x y false true true first second more = grind (arith, nat_tests, first, second, more)
greater_below limit x y false true false first second more = grind (arith, nat_tests, first, second, more)
greater_below limit x y false false true first second more = grind (arith, nat_tests, first, second, more)
greater_below limit x y false false false first second more = grind (arith, nat_tests, first, second, more)

both_and : (a b c d : Bool) → ((a && b) && (c && d)) ≡ ((a && c) && (b && d))
both_and true true c d = refl
both_and true false true d = refl
both_and true false false d = refl
both_and false b c d = refl

pub all-greater : (p : ℕ → Bool) (limit : ℕ) → ((x : ℕ) → nat_lt x limit ≡ p x) → (n : ℕ) (xs ys : List ℕ)
    → length xs ≡ n → length ys ≡ n → list_all p (greater xs ys) ≡ (list_all p xs && list_all p ys)
all-greater p limit reports n [] [] one two = refl
all-greater p limit reports n [] (y ∷ ys) one two = absurd (omega arith)
all-greater p limit reports n (x ∷ xs) [] one two = absurd (omega arith)
all-greater p limit reports zero (x ∷ xs) (y ∷ ys) one two = absurd (omega arith)
all-greater p limit reports (suc n) (x ∷ xs) (y ∷ ys) one two =
    (λ i. greater_is x y i && all-greater p limit reports n xs ys (omega arith) (omega arith) i)
    ∙ both_and (p x) (p y) (list_all p xs) (list_all p ys)
  where
    greater_is : (x y : ℕ) → p (cond (top 7 (below x y)) y x) ≡ (p x && p y)
    greater_is x y =
        sym (reports (cond (top 7 (below x y)) y x))
        ∙ greater_below limit x y (p x) (p y) (ltb x y) (reports x) (reports y) refl

-- ---- lane by lane

-- what is said about each byte is said about the lanes of a vector that are made of bytes one by one
pub lanes_reported :
    {A : Type 0} (lanes : ℕ → List ℕ → List ℕ) (lane : ℕ → ℕ) (reports says : ℕ → A)
    → ((n : ℕ) → lanes n [] ≡ [])
    → ((n b : ℕ) (bytes : List ℕ) → lanes (suc n) (b ∷ bytes) ≡ lane b ∷ lanes n bytes)
    → ((b : ℕ) → b < 256 → reports (lane b) ≡ says b)
    → (n : ℕ) (bytes : List ℕ) → length bytes ≡ n → Each1 (Fits w8) bytes
    → map reports (lanes n bytes) ≡ map says bytes
lanes_reported lanes lane reports says none more reported n [] long fits = ap (map reports) (none n)
lanes_reported lanes lane reports says none more reported zero (b ∷ bytes) long fits = absurd (omega arith)
lanes_reported lanes lane reports says none more reported (suc n) (b ∷ bytes) long fits =
    ap (map reports) (more n b bytes)
    ∙ (λ i. reported b fits.0.fits i ∷ lanes_reported lanes lane reports says none more reported n bytes (omega arith)
    fits.1 i)
