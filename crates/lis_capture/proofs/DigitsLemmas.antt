-- Pairs of digits: when a text is such pairs, and what it then encodes.
use Rattle.std.proofs.Common.{◌≡◌, ℕ, zero, suc, ◌+◌, ◌*◌, ◌%◌, ◌<◌, Bool, true, false, ◌&&◌, List, [], ◌∷◌, length}
use Rattle.std.proofs.Common.{get_or, Option, None, Some, unwrap_or, is_some, Result, Ok, Err, refl, sym, ap, ◌∙◌}
use Rattle.std.proofs.Common.{arith, inl, inr, ◌⊎◌, ◌==◌, ◌-◌, ◌/◌, ◌≤◌, bit_and, bit_or}
use Rattle.std.specs.Prelude.{if◌then◌else◌, nat_le}
use Rattle.std.specs.List.{list_all, AllPass}
use Rattle.std.specs.Result.{result_ok}
use Rattle.std.proofs.lemmas.Bool.{and_parts, and_from, cases_eq, eqb-true, leb-true}
use Rattle.std.proofs.lemmas.List.Elements.{All-head, All-tail}
use Rattle.hex.specs.Hex.{decode_of, digit_or_error, hex_digit_value, is_hex_digit, pair_value, value_at}
use Rattle.hex.specs.declared.error.FromHexError.{FromHexError}
use Rattle.hex.proofs.HexLemmas.{decode_of-digits, decode_of-odd, decode_of-ok}
use Rattle.lis_capture.specs.Digits.{bytes_of}

-- each byte passes a test that all pass
pub all_at : (p : ℕ → Bool) (xs : List ℕ) (k d : ℕ) → list_all p xs ≡ true → k < length xs → p (get_or xs k d) ≡ true
all_at p [] k d all inside = absurd (omega arith)
all_at p (x ∷ xs) zero d all inside = (and_parts (p x) (list_all p xs) all).0
all_at p (x ∷ xs) (suc k) d all inside = all_at p xs k d (and_parts (p x) (list_all p xs) all).1 (omega arith)

each_from_all : (p : ℕ → Bool) (xs : List ℕ) → list_all p xs ≡ true → AllPass p xs
each_from_all p xs all = λ k d inside. all_at p xs k d all inside

all_from_each : (p : ℕ → Bool) (xs : List ℕ) → AllPass p xs → list_all p xs ≡ true
all_from_each p [] each = refl
all_from_each p (x ∷ xs) each =
    and_from (p x) (list_all p xs) (All-head (λ y. p y ≡ true) x xs each)
    (all_from_each p xs (All-tail (λ y. p y ≡ true) x xs each))

-- ---- the byte of two digits, tried at every two

-- a test of n numbers from `low` on
abbrev pub passes : (ℕ → Bool) → ℕ → ℕ → Bool
passes p low zero = true
passes p low (suc n) = p low && passes p (low + 1) n

pub passes_at : (p : ℕ → Bool) (low n b : ℕ) → passes p low n ≡ true → low ≤ b → b < low + n → p b ≡ true
passes_at p low zero b all from below = absurd (omega arith)
passes_at p low (suc n) b all from below =
    let parts = and_parts (p low) (passes p (low + 1) n) all in
    elim (cases_eq b low) [
      | inl same ↦ rw same parts.0
      | inr other ↦ passes_at p (low + 1) n b parts.1 (omega arith) (omega arith)
    ]

-- of every digit
abbrev pub digits_pass : (ℕ → Bool) → Bool
digits_pass p = passes p 65 6 && (passes p 97 6 && passes p 48 10)

by_ranges :
    (upper lower decimal : Bool) (x y z : ℕ)
    → is_some (if upper then Some x else (if lower then Some y else (if decimal then Some z else None))) ≡ true
    → (upper ≡ true) ⊎ ((lower ≡ true) ⊎ (decimal ≡ true))
by_ranges true lower decimal x y z some = inl refl
by_ranges false true decimal x y z some = inr (inl refl)
by_ranges false false true x y z some = inr (inr refl)
by_ranges false false false x y z some = cc

in_range : (p : ℕ → Bool) (low high n b : ℕ) → passes p low n ≡ true → high + 1 ≡ low + n
    → (nat_le low b && nat_le b high) ≡ true → p b ≡ true
in_range p low high n b all size test =
    let parts = and_parts (nat_le low b) (nat_le b high) test in
    passes_at p low n b all (leb-true low b parts.0) (omega (arith, leb-true b high parts.1))

pub digit_passes : (p : ℕ → Bool) (b : ℕ) → digits_pass p ≡ true → is_hex_digit b ≡ true → p b ≡ true
digit_passes p b all digit =
    let first = and_parts (passes p 65 6) (passes p 97 6 && passes p 48 10) all in
    let rest = and_parts (passes p 97 6) (passes p 48 10) first.1 in
    elim (by_ranges (nat_le 65 b && nat_le b 70) (nat_le 97 b && nat_le b 102) (nat_le 48 b && nat_le b 57) (b - 55)
    (b - 87) (b - 48) digit) [
      | inl upper ↦ in_range p 65 70 6 b first.0 refl upper
      | inr other ↦
          elim other [
            | inl lower ↦ in_range p 97 102 6 b rest.0 refl lower
            | inr decimal ↦ in_range p 48 57 10 b rest.1 refl decimal
          ]
    ]

-- the values of both digits, in the halves of one number
abbrev values : ℕ → ℕ
values digits = bit_and digits 3855 + 9 * bit_and (digits / 64) 771

abbrev by_halves : ℕ → ℕ → ℕ
by_halves high low =
    bit_and (bit_or (values (high + low * 256) * 16 % 65536) (values (high + low * 256) / 256)) 255

abbrev pub by_value : ℕ → ℕ → ℕ
by_value high low = 16 * unwrap_or (hex_digit_value high) 0 + unwrap_or (hex_digit_value low) 0

all_agree : digits_pass (λ high. digits_pass (λ low. by_halves high low == by_value high low)) ≡ true
all_agree = refl

pub by_halves-digits : (high low : ℕ) → is_hex_digit high ≡ true → is_hex_digit low ≡ true
    → by_halves high low ≡ by_value high low
by_halves-digits high low high_is low_is =
    eqb-true (by_halves high low) (by_value high low)
    (digit_passes (λ l. by_halves high l == by_value high l) low
    (digit_passes (λ h. digits_pass (λ l. by_halves h l == by_value h l)) high all_agree high_is) low_is)

read_digit : (c i : ℕ) (o : Option ℕ) → is_some o ≡ true → digit_or_error c i o ≡ Ok (unwrap_or o 0)
read_digit c i (Some v) some = refl
read_digit c i None some = cc

pub pair_of_digits : (high low i : ℕ) → is_hex_digit high ≡ true → is_hex_digit low ≡ true
    → pair_value high low i ≡ Ok (by_value high low)
pair_of_digits high low i h l =
    let a : value_at high i ≡ Ok (unwrap_or (hex_digit_value high) 0) = read_digit high i (hex_digit_value high) h in
    let b : value_at low (i + 1)
    ≡ Ok (unwrap_or (hex_digit_value low) 0) = read_digit low (i + 1) (hex_digit_value low) l in
    let order : unwrap_or (hex_digit_value high) 0 * 16 ≡ 16 * unwrap_or (hex_digit_value high) 0 = omega arith in
    rw (a, b, order) refl

-- ---- when a text is such pairs

-- a text of odd length encodes nothing
pub bytes_of-odd : (digits : List ℕ) → length digits % 2 ≡ 1 → bytes_of digits ≡ None
bytes_of-odd [] odd = refl
bytes_of-odd (d ∷ digits) odd = ap result_ok (decode_of-odd (d ∷ digits) odd)

refused_by : (r : Result (List ℕ) FromHexError) → ((bytes : List ℕ) → r ≡ Ok bytes → ⊥) → result_ok r ≡ None
refused_by (Ok bytes) none = absurd (none bytes refl)
refused_by (Err e) none = refl

-- nor does one with a byte that is no digit
pub bytes_of-other : (digits : List ℕ) → list_all is_hex_digit digits ≡ false → bytes_of digits ≡ None
bytes_of-other [] other = refl
bytes_of-other (d ∷ digits) other =
    refused_by (decode_of (d ∷ digits))
    (λ bytes is. cc (sym other ∙ all_from_each is_hex_digit (d ∷ digits) (decode_of-ok (d ∷ digits) bytes is).1))

pub bytes_of-decoded : (digits bytes : List ℕ) → (length digits ≡ 0 → ⊥) → decode_of digits ≡ Ok bytes
    → bytes_of digits ≡ Some bytes
bytes_of-decoded [] bytes some is = absurd (some refl)
bytes_of-decoded (d ∷ digits) bytes some is = ap result_ok is

-- one or more pairs of digits
pub bytes_of-pairs :
    (digits : List ℕ) → (length digits ≡ 0 → ⊥) → length digits % 2 ≡ 0 → list_all is_hex_digit digits ≡ true
    → is_some (bytes_of digits) ≡ true
bytes_of-pairs digits some even all =
    let read = decode_of-digits digits even (each_from_all is_hex_digit digits all) in
    ap is_some (bytes_of-decoded digits read.0 some read.1)

read_by : (r : Result (List ℕ) FromHexError) → is_some (result_ok r) ≡ true → (bytes : List ℕ) × (r ≡ Ok bytes)
read_by (Ok bytes) some = (bytes, refl)
read_by (Err e) some = cc

-- only such a text encodes bytes
pub pairs_from_some :
    (digits : List ℕ) → is_some (bytes_of digits) ≡ true
    → (length digits ≡ 0 → ⊥) × (length digits % 2 ≡ 0) × (list_all is_hex_digit digits ≡ true)
pairs_from_some [] some = cc
pairs_from_some (d ∷ digits) some =
    let read = read_by (decode_of (d ∷ digits)) some in
    let parts = decode_of-ok (d ∷ digits) read.0 read.1 in
    (λ none. cc, parts.0, all_from_each is_hex_digit (d ∷ digits) parts.1)

-- whether an even number of bytes are such pairs
pub is_some-bytes_of :
    (digits : List ℕ) (all : Bool) → (length digits ≡ 0 → ⊥) → length digits % 2 ≡ 0
    → all ≡ list_all is_hex_digit digits
    → all ≡ is_some (bytes_of digits)
is_some-bytes_of digits true some even all = sym (bytes_of-pairs digits some even (sym all))
is_some-bytes_of digits false some even all = ap is_some (sym (bytes_of-other digits (sym all)))
