-- Pairs of hexadecimal digits, read one by one.
use Rattle.std.proofs.Common.{◌≡◌, ◌≢◌, ℕ, ◌+◌, ◌*◌, ◌%◌, Bool, true, false, List, [], ◌∷◌, length, Option, Some}
use Rattle.std.proofs.Common.{None, Result, Ok, Err, unwrap_or, refl, sym, ap, ◌∙◌, arith}
use Rattle.std.specs.Option.{is_some}
use Rattle.std.specs.List.{AllPass, list_all}
use Rattle.std.proofs.lemmas.List.Elements.{All-head, All-tail}
use Rattle.std.proofs.lemmas.List.Sums.{AllPass-from_list_all, list_all-from_AllPass}
use Rattle.hex.specs.Hex.{decode_of, decode_pairs, hex_digit_value, is_hex_digit}
use Rattle.hex.specs.declared.error.FromHexError.{FromHexError}
use Rattle.hex.proofs.HexLemmas.{decode_of-digits, decode_of-even, decode_of-odd, decode_of-ok}
use Rattle.lis_record_values.specs.declared.symbols.Sym.TheVariants.{Raw}
use Rattle.lis_record_values.specs.Shape.{Symbols}
use Rattle.lis_record_values.specs.Escapes.{raw_symbols}
use Rattle.lis_record_read.specs.FrontReading.{ArePairs, digit_symbols}

some_of : {X : Type 0} (o : Option X) → is_some o ≡ true → (x : X) × (o ≡ Some x)
some_of None h = cc h
some_of (Some x) h = (x, refl)

pair_shift : (i j high low h l : ℕ) (rest : List ℕ) → hex_digit_value high ≡ Some h → hex_digit_value low ≡ Some l
    → decode_pairs (i + 2) rest ≡ decode_pairs (j + 2) rest
    → decode_pairs i (high ∷ low ∷ rest) ≡ decode_pairs j (high ∷ low ∷ rest)
unfolding decode_pairs
pair_shift i j high low h l rest is_high is_low later = rw (is_high, is_low, later) refl

-- what pairs of digits are doesn't depend on where they are
decode_pairs-shift : (i j : ℕ) (s : List ℕ) → length s % 2 ≡ 0 → AllPass is_hex_digit s
    → decode_pairs i s ≡ decode_pairs j s
unfolding decode_pairs
decode_pairs-shift i j [] even h = refl
decode_pairs-shift i j (a ∷ []) even h = absurd (omega arith)
decode_pairs-shift i j (a ∷ b ∷ rest) even h =
    let P : ℕ → Type 0 = λ c. is_hex_digit c ≡ true in
    let tail = All-tail P a (b ∷ rest) h in
    let ha = some_of (hex_digit_value a) (All-head P a (b ∷ rest) h) in
    let hb = some_of (hex_digit_value b) (All-head P b rest tail) in
    pair_shift i j a b ha.0 hb.0 rest ha.1 hb.1 (decode_pairs-shift (i + 2) (j + 2) rest (omega arith)
    (All-tail P b rest tail))

decoded : (s : List ℕ) → ArePairs s → (bytes : List ℕ) × (decode_of s ≡ Ok bytes)
decoded s h = go (decode_of s) refl h
  where
    go : (r : Result (List ℕ) FromHexError) → decode_of s ≡ r → is_some (raw_symbols r) ≡ true → (bytes : List ℕ)
        × (decode_of s ≡ Ok bytes)
    go (Ok bytes) is some = (bytes, is)
    go (Err e) is some = cc some

pub ArePairs-none : ArePairs []
unfolding decode_pairs
ArePairs-none = refl

pub digit_symbols-none : digit_symbols [] ≡ []
unfolding decode_pairs
digit_symbols-none = refl

pub pairs_odd : (s : List ℕ) → length s % 2 ≢ 0 → is_some (raw_symbols (decode_of s)) ≡ false
pairs_odd s odd = let one : length s % 2 ≡ 1 = omega arith in rw (decode_of-odd s one) refl

pub pairs_even : (s : List ℕ) → length s % 2 ≡ 0 → list_all is_hex_digit s ≡ is_some (raw_symbols (decode_of s))
pairs_even s even = go (decode_of s) refl (list_all is_hex_digit s) refl
  where
    go : (r : Result (List ℕ) FromHexError) → decode_of s ≡ r → (b : Bool) → list_all is_hex_digit s ≡ b
        → b ≡ is_some (raw_symbols r)
    go (Ok bytes) is true all = refl
    go (Ok bytes) is false all = let yes = list_all-from_AllPass is_hex_digit s (decode_of-ok s bytes is).1 in
        cc (yes, all)
    go (Err e) is true all = let found = decode_of-digits s even (AllPass-from_list_all is_hex_digit s all) in
        let wrong : Err e ≡ Ok found.0 = sym is ∙ found.1 in cc wrong
    go (Err e) is false all = refl

decode_first : (high low h l : ℕ) (rest others : List ℕ) → hex_digit_value high ≡ Some h
    → hex_digit_value low ≡ Some l → decode_pairs 2 rest ≡ Ok others
    → decode_pairs 0 (high ∷ low ∷ rest) ≡ Ok ((h * 16 + l) ∷ others)
unfolding decode_pairs
decode_first high low h l rest others is_high is_low later = rw (is_high, is_low, later) refl

digits_first : (s rest others : List ℕ) (byte : ℕ) → decode_of s ≡ Ok (byte ∷ others) → decode_of rest ≡ Ok others
    → (digit_symbols s ≡ Raw byte ∷ digit_symbols rest) × ArePairs rest
digits_first s rest others byte is is_rest = (rw (is, is_rest) refl, rw is_rest refl)

pair_values : (high low h l byte : ℕ) → hex_digit_value high ≡ Some h → hex_digit_value low ≡ Some l
    → byte ≡ unwrap_or (hex_digit_value high) 0 * 16 + unwrap_or (hex_digit_value low) 0 → h * 16 + l ≡ byte
pair_values high low h l byte is_high is_low is_byte =
    sym (is_byte ∙ ap (λ (o : Option ℕ). unwrap_or o 0 * 16 + unwrap_or (hex_digit_value low) 0) is_high
    ∙ ap (λ (o : Option ℕ). h * 16 + unwrap_or o 0) is_low)

-- the first pair, and those after it
pub pair_step : (s following rest : List ℕ) (high low byte : ℕ) → s ≡ high ∷ following → following ≡ low ∷ rest
    → ArePairs s
    → byte ≡ unwrap_or (hex_digit_value high) 0 * 16 + unwrap_or (hex_digit_value low) 0
    → (digit_symbols s ≡ Raw byte ∷ digit_symbols rest) × ArePairs rest
pair_step s following rest high low byte is is_following pairs is_byte =
    let P : ℕ → Type 0 = λ c. is_hex_digit c ≡ true in
    let whole : s ≡ high ∷ low ∷ rest = is ∙ ap (λ (l : List ℕ). high ∷ l) is_following in
    let found = decoded s pairs in
    let ok = decode_of-ok s found.0 found.1 in
    let even : length rest % 2 ≡ 0 = let size = ap length whole in let e = ok.0 in omega (arith, size, e) in
    let all : AllPass is_hex_digit (high ∷ low ∷ rest) = rw whole at ok.1 in
    let tail = All-tail P high (low ∷ rest) all in
    let digits = All-tail P low rest tail in
    let ha = some_of (hex_digit_value high) (All-head P high (low ∷ rest) all) in
    let hb = some_of (hex_digit_value low) (All-head P low rest tail) in
    let others = decode_of-digits rest even digits in
    let later : decode_pairs 2 rest ≡ Ok others.0 =
    decode_pairs-shift 2 0 rest even digits ∙ sym (decode_of-even rest even) ∙ others.1 in
    digits_first s rest others.0 byte
    (decode_of-even s ok.0 ∙ ap (decode_pairs 0) whole ∙ decode_first high low ha.0 hb.0 rest others.0 ha.1 hb.1 later
    ∙ ap (λ (b : ℕ). Ok (b ∷ others.0)) (pair_values high low ha.0 hb.0 byte ha.1 hb.1 is_byte))
    others.1

-- what an escape of pairs means
pub raw_of_pairs : (s : List ℕ) → ArePairs s → raw_symbols (decode_of s) ≡ Some (digit_symbols s)
raw_of_pairs s pairs = let found = decoded s pairs in rw found.1 refl

pub raw_of_others : (s : List ℕ) → is_some (raw_symbols (decode_of s)) ≡ false → raw_symbols (decode_of s) ≡ None
raw_of_others s none = go (raw_symbols (decode_of s)) none
  where
    go : (o : Option Symbols) → is_some o ≡ false → o ≡ None
    go None h = refl
    go (Some x) h = cc h
