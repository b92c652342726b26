-- The values of digits, lane by lane.
use Rattle.std.proofs.Common.{◌≡◌, ℕ, ◌+◌, ◌%◌, ◌<◌, ◌==◌, Bool, true, false, cond, List}
use Rattle.std.proofs.Common.{length, map}
use Rattle.std.proofs.Common.{replicate, bit_and, Option, None, Some, refl, ap, arith}
use Rattle.std.specs.Simd.Lanes.{Each1, sel_l, top, zip2}
use Rattle.std.proofs.lemmas.Bool.{eqb-true}
use mir.Syntax.{w8}
use mir.Val.{Fits}
use Rattle.hex.specs.Hex.{hex_digit_value}
use Rattle.lis_capture.specs.inside.Digits.{digit_meant}
use Rattle.lis_capture.proofs.BelowLemmas.{below, lanes_reported, less}
use Rattle.lis_capture.proofs.DigitsLemmas.{passes, passes_at}

-- ---- the value of a digit, tried at every byte

abbrev plus : ℕ → ℕ → ℕ
plus a b = (a + b) % 256

-- the numbers that the lanes of a vector have: by way of the decimal digits, and of the letters
abbrev decimals : ℕ → ℕ
decimals b = less (less (cond (top 7 (below (plus b 198) 6)) 6 (plus b 198)) 6) 240

abbrev letters : ℕ → ℕ
letters b =
    let from_a : ℕ = less (bit_and b 223) 65 in
    cond (top 7 (below from_a (plus from_a 10))) (plus from_a 10) from_a

abbrev value : ℕ → ℕ
value b = cond (top 7 (below (decimals b) (letters b))) (decimals b) (letters b)

abbrev same_reported : Option ℕ → Option ℕ → Bool
same_reported None None = true
same_reported None (Some b) = false
same_reported (Some a) None = false
same_reported (Some a) (Some b) = a == b

same_reported-true : (a b : Option ℕ) → same_reported a b ≡ true → a ≡ b
same_reported-true None None same = refl
same_reported-true None (Some b) same = cc
same_reported-true (Some a) None same = cc
same_reported-true (Some a) (Some b) same = ap (λ (n : ℕ). Some n) (eqb-true a b same)

all_reported : passes (λ b. same_reported (digit_meant (value b)) (hex_digit_value b)) 0 256 ≡ true
all_reported = refl

value_reported : (b : ℕ) → b < 256 → digit_meant (value b) ≡ hex_digit_value b
value_reported b fits =
    same_reported-true (digit_meant (value b)) (hex_digit_value b)
    (passes_at (λ b. same_reported (digit_meant (value b)) (hex_digit_value b)) 0 256 b all_reported (omega arith)
    (omega arith))

-- and of the lanes of a vector
abbrev decimals_of : ℕ → List ℕ → List ℕ
decimals_of n bytes =
    zip2 less
    (zip2 less
    (sel_l (map (top 7) (zip2 below (zip2 plus bytes (replicate n 198)) (replicate n 6))) (replicate n 6)
    (zip2 plus bytes (replicate n 198))) (replicate n 6)) (replicate n 240)

abbrev letters_of : ℕ → List ℕ → List ℕ
letters_of n bytes =
    let from_a : List ℕ = zip2 less (zip2 bit_and bytes (replicate n 223)) (replicate n 65) in
    let more : List ℕ = zip2 plus from_a (replicate n 10) in
    sel_l (map (top 7) (zip2 below from_a more)) more from_a

abbrev values_of : ℕ → List ℕ → List ℕ
values_of n bytes =
    sel_l (map (top 7) (zip2 below (decimals_of n bytes) (letters_of n bytes))) (decimals_of n bytes)
    (letters_of n bytes)

pub values_reported :
    (n : ℕ) (bytes : List ℕ) → length bytes ≡ n → Each1 (Fits w8) bytes →
    map digit_meant (values_of n bytes) ≡ map hex_digit_value bytes
values_reported = lanes_reported values_of value digit_meant hex_digit_value (λ n. refl) (λ n b bytes. refl)
    value_reported
