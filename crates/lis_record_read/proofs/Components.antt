-- A component's text: the relation by cases, and reading from the front.
use Rattle.lis_record_values.specs.declared.symbols.Sym.{Sym}
use Rattle.std.proofs.Common.{◌≡◌, ◌≢◌, ℕ, zero, suc, ◌+◌, ◌<◌, ◌==◌, true, false, ltb, ◌⊎◌, inl, inr, List, [], ◌∷◌}
use Rattle.std.proofs.Common.{◌++◌, length, take, drop, Option, Some, None, Result, Ok, Err, refl, sym, ap, ◌∙◌}
use Rattle.std.proofs.Common.{eq-eqb, length-append, option_map, one-add, arith, add-one}
use Rattle.std.proofs.lemmas.Bool.Decides.{nat_tests, eqb_tells}
use Rattle.std.proofs.lemmas.Bool.{cases_eq, lt-ltb}
use Rattle.hex.proofs.HexLemmas.{decode_of-ok}
use Rattle.std.proofs.lemmas.List.{take_at}
use Rattle.std.proofs.lemmas.List.Elements.{All-head, All-tail, All-cons, All-nil, All-weaker}
use Rattle.std.specs.List.{AllPass, position_or_len}
use Rattle.hex.specs.Hex.{decode_of, is_hex_digit}
use Rattle.hex.specs.declared.error.FromHexError.{FromHexError}
use Rattle.lis_record_values.specs.declared.symbols.Sym.TheVariants.{Char}
use Rattle.lis_record_values.specs.Delimiters.{DelimiterBytes, IsDelimiters, is_punctuation}
use Rattle.lis_record_values.proofs.FirstFaults.{ltb_decides, some_none, test_false}
use Rattle.lis_record_values.specs.Escapes.{IsComponent, nothing, plain, escape, lone, BeginsEscape, escape_of}
use Rattle.lis_record_values.specs.Escapes.{letter_symbol, raw_symbols}
use Rattle.lis_record_read.specs.FrontReading.{escape_at, symbols_after, symbols_of}
use Rattle.lis_record_values.specs.Relation.{Lacks}
use Rattle.lis_record_values.specs.Shape.{Symbols}

-- ---- no escape holds a delimiter

-- a punctuation byte is no letter of an escape
letter_symbol-punctuation : (d : DelimiterBytes) (byte : ℕ) → is_punctuation byte ≡ true → letter_symbol d byte ≡ None
unfolding is_punctuation
letter_symbol-punctuation d byte h = grind (arith, nat_tests)

-- nor a hexadecimal digit
is_hex_digit-punctuation : (byte : ℕ) → is_punctuation byte ≡ true → is_hex_digit byte ≡ false
unfolding is_punctuation
is_hex_digit-punctuation byte h = grind (arith, nat_tests)

pub option_map-some : {X Y : Type 0} (f : X → Y) (o : Option X) (y : Y) → option_map f o ≡ Some y → (x : X)
    × (o ≡ Some x) × (f x ≡ y)
option_map-some f None y h = cc
option_map-some f (Some x) y h = (x, refl, cc)

pub Lacks-letter : (d : DelimiterBytes) (mark : ℕ) → is_punctuation mark ≡ true → (letter : ℕ) (symbol : Sym)
    → letter_symbol d letter ≡ Some symbol → letter ≢ mark
Lacks-letter d mark punctuation letter symbol h e =
    some_none symbol (letter_symbol d letter) h
    (letter_symbol-punctuation d letter (rw e punctuation))

-- digits hold no punctuation byte
Lacks-digits : (byte : ℕ) → is_punctuation byte ≡ true → (digits : List ℕ) → AllPass is_hex_digit digits
    → Lacks byte digits
Lacks-digits byte h digits all =
    All-weaker (λ c. is_hex_digit c ≡ true) (λ c. c ≢ byte) (λ c digit e.
    let no : is_hex_digit byte ≡ false = is_hex_digit-punctuation byte h in
    let yes : is_hex_digit byte ≡ true = rw (← e) digit in
    cc) digits all

pub raw_symbols-ok : (r : Result (List ℕ) FromHexError) (symbols : Symbols) → raw_symbols r ≡ Some symbols
    → (bytes : List ℕ) × (r ≡ Ok bytes)
raw_symbols-ok (Ok bytes) symbols h = (bytes, refl)
raw_symbols-ok (Err fault) symbols h = cc

X_is_no_delimiter : (letter mark : ℕ) → letter ≡ 88 → is_punctuation mark ≡ true → letter ≢ mark
unfolding is_punctuation
X_is_no_delimiter letter mark e h same = grind (arith, nat_tests)

-- what an escape has inside holds no punctuation byte
pub Lacks-inside : (d : DelimiterBytes) (mark : ℕ) → is_punctuation mark ≡ true → (inside : List ℕ) (symbols : Symbols)
    → escape_of d inside ≡ Some symbols → Lacks mark inside
unfolding escape_of
Lacks-inside d mark punctuation [] symbols h = cc
Lacks-inside d mark punctuation (letter ∷ []) symbols h =
    let one = option_map-some (λ (symbol : Sym). symbol ∷ []) (letter_symbol d letter) symbols h in
    All-cons (λ c. c ≢ mark) letter [] (Lacks-letter d mark punctuation letter one.0 one.1) (All-nil (λ c. c ≢ mark))
Lacks-inside d mark punctuation (letter ∷ digit ∷ digits) symbols h =
    elim (cases_eq letter 88) [
      | inl e ↦
          let read : raw_symbols (decode_of (digit ∷ digits)) ≡ Some symbols =
          rw (eq-eqb letter 88 e) at h in
          let bytes = raw_symbols-ok (decode_of (digit ∷ digits)) symbols read in
          let pairs = decode_of-ok (digit ∷ digits) bytes.0 bytes.1 in
          let apart : letter ≢ mark = X_is_no_delimiter letter mark e punctuation in
          All-cons (λ c. c ≢ mark) letter (digit ∷ digits) apart
          (Lacks-digits mark punctuation (digit ∷ digits) pairs.1)
      | inr other ↦
          let none : None ≡ Some symbols = rw (test_false letter 88 other) at h in
          cc none
    ]

-- ---- where an escape ends

drop-closed : (mark : ℕ) (inside rest : List ℕ) → drop (suc (length inside)) (inside ++ mark ∷ rest) ≡ rest
drop-closed mark [] rest = refl
drop-closed mark (x ∷ xs) rest = drop-closed mark xs rest

-- the first place of a byte is that of the mark that ends a part without it
pub position-closing : (mark : ℕ) (inside rest : List ℕ) → Lacks mark inside
    → position_or_len (λ b. b == mark) (inside ++ mark ∷ rest) ≡ length inside
position-closing mark [] rest apart = rw (eq-eqb mark mark refl) refl
position-closing mark (x ∷ xs) rest apart =
    let P : ℕ → Type 0 = λ b. b ≢ mark in
    let no : (x == mark) ≡ false = test_false x mark (All-head P x xs apart) in
    let e = position-closing mark xs rest (All-tail P x xs apart) in
    rw no (rw e (omega arith))

-- an escape that begins is the one that is found
pub escape_at-begun : (d : DelimiterBytes) → IsDelimiters d → (inside rest : List ℕ) (symbols : Symbols)
    → escape_of d inside ≡ Some symbols
    → escape_at d (inside ++ d.escape ∷ rest) ≡ Some (symbols, length inside + 1)
unfolding escape_at
escape_at-begun d good inside rest symbols h =
    let n = position-closing d.escape inside rest (Lacks-inside d d.escape good.escape_is inside symbols h) in
    let short : ltb (length inside) (length (inside ++ d.escape ∷ rest)) ≡ true =
    lt-ltb (length inside) (length (inside ++ d.escape ∷ rest)) (simp length-append (omega arith)) in
    rw (n, short, take_at inside (d.escape ∷ rest) (length inside) refl, h) refl

-- a text round the first place of a byte
pub split_at_first : (mark : ℕ) (text : List ℕ) → position_or_len (λ b. b == mark) text < length text
    → text ≡ take (position_or_len (λ b. b == mark) text) text ++ mark
    ∷ drop (position_or_len (λ b. b == mark) text + 1) text
split_at_first mark [] h = absurd (omega arith)
split_at_first mark (x ∷ xs) h =
    elim (eqb_tells x mark) [
      | inl same ↦ rw (same.0, same.1) refl
      | inr other ↦
          let n = position_or_len (λ b. b == mark) xs in
          let within : n < length xs = let g : 1 + n < suc (length xs) = rw other.0 at h in omega arith in
          let more = split_at_first mark xs within in
          rw (other.0, one-add, add-one) (ap (λ (l : List ℕ). x ∷ l)
          (more ∙ ap (λ (k : ℕ). take n xs ++ mark ∷ drop k xs) (add-one n)))
    ]

-- what is found is an escape that begins
pub record BegunAt (d : DelimiterBytes) (text : List ℕ) (found : Symbols × ℕ) : Type 0 where
  pub inside : List ℕ
  pub rest : List ℕ
  pub whole : text ≡ inside ++ d.escape ∷ rest
  pub means : escape_of d inside ≡ Some found.0
  pub following : drop found.1 text ≡ rest

pub BegunAt-escape_at : (d : DelimiterBytes) (text : List ℕ) (found : Symbols × ℕ) → escape_at d text ≡ Some found
    → BegunAt d text found
unfolding escape_at
BegunAt-escape_at d text found h =
    let n = position_or_len (λ b. b == d.escape) text in
    elim (ltb_decides n (length text)) [
      | inl within ↦
          let g : option_map (λ (symbols : Symbols). (symbols, n + 1)) (escape_of d (take n text)) ≡ Some found =
          rw within.0 at h in
          let o = option_map-some (λ (symbols : Symbols). (symbols, n + 1)) (escape_of d (take n text)) found g in
          record {
            inside = take n text;
            rest = drop (n + 1) text;
            whole = split_at_first d.escape text within.1;
            means = rw (← o.2) o.1;
            following = rw (← o.2) refl;
          }
      | inr past ↦ let g : None ≡ Some found = rw past.0 at h in cc
    ]

-- where none is found, none begins
pub none_begins : (d : DelimiterBytes) → IsDelimiters d → (text : List ℕ) → escape_at d text ≡ None
    → ¬ (BeginsEscape d text)
none_begins d good text h (inside, rest, symbols, whole, means) =
    let found = escape_at-begun d good inside rest symbols means in
    some_none (symbols, length inside + 1) (escape_at d text) (rw whole found) h

-- ---- bytes that are passed over

pub symbols_after-drop : (d : DelimiterBytes) (n : ℕ) (text : List ℕ)
    → symbols_after d n text ≡ symbols_of d (drop n text)
unfolding symbols_after
symbols_after-drop d zero [] = refl
symbols_after-drop d zero (b ∷ bs) = refl
symbols_after-drop d (suc n) [] = refl
symbols_after-drop d (suc n) (b ∷ bs) = symbols_after-drop d n bs

-- the three ways on at a byte
pub symbols_of-plain : (d : DelimiterBytes) (byte : ℕ) (rest : List ℕ) → byte ≢ d.escape
    → symbols_of d (byte ∷ rest) ≡ Char byte ∷ symbols_of d rest
unfolding symbols_after
symbols_of-plain d byte rest h = rw (test_false byte d.escape h) refl

pub symbols_of-escape : (d : DelimiterBytes) (text : List ℕ) (found : Symbols × ℕ) → escape_at d text ≡ Some found
    → symbols_of d (d.escape ∷ text) ≡ found.0 ++ symbols_of d (drop found.1 text)
unfolding symbols_after
symbols_of-escape d text found h = rw (eq-eqb d.escape d.escape refl, h)
    (ap (λ (l : Symbols). found.0 ++ l) (symbols_after-drop d found.1 text))

pub symbols_of-lone : (d : DelimiterBytes) (text : List ℕ) → escape_at d text ≡ None
    → symbols_of d (d.escape ∷ text) ≡ Char d.escape ∷ symbols_of d text
unfolding symbols_after
symbols_of-lone d text h = rw (eq-eqb d.escape d.escape refl, h) refl

-- ---- the relation and the function agree

pub escape_cases : {X : Type 0} (o : Option X) → (o ≡ None) ⊎ ((x : X) × (o ≡ Some x))
escape_cases None = inl refl
escape_cases (Some x) = inr (x, refl)

-- what reading from the front gives is related
IsComponent-after : (d : DelimiterBytes) → IsDelimiters d → (n : ℕ) (text : List ℕ)
    → IsComponent d (drop n text) (symbols_of d (drop n text))
unfolding symbols_after
IsComponent-after d good zero [] = nothing refl refl
IsComponent-after d good (suc n) [] = nothing refl refl
IsComponent-after d good (suc n) (b ∷ bs) = IsComponent-after d good n bs
IsComponent-after d good zero (b ∷ bs) =
    elim (eqb_tells b d.escape) [
      | inl same ↦
          elim (escape_cases (escape_at d bs)) [
            | inl none ↦
                lone bs (symbols_of d bs) (ap (λ (c : ℕ). c ∷ bs) same.1) (rw same.1 (symbols_of-lone d bs none))
                (none_begins d good bs none) (IsComponent-after d good 0 bs)
            | inr some ↦
                let begun = BegunAt-escape_at d bs some.0 some.1 in
                escape begun.inside begun.rest some.0.0 (symbols_of d begun.rest)
                (rw same.1 (ap (λ (l : List ℕ). d.escape ∷ l) begun.whole))
                (rw same.1 (symbols_of-escape d bs some.0 some.1
                ∙ ap (λ (l : List ℕ). some.0.0 ++ symbols_of d l) begun.following))
                begun.means (rw begun.following at (IsComponent-after d good some.0.1 bs))
          ]
      | inr other ↦ plain b bs (symbols_of d bs) refl (symbols_of-plain d b bs other.1) other.1
          (IsComponent-after d good 0 bs)
    ]

pub IsComponent-symbols_of : (d : DelimiterBytes) → IsDelimiters d → (text : List ℕ)
    → IsComponent d text (symbols_of d text)
IsComponent-symbols_of d good text = IsComponent-after d good 0 text

-- nothing else is
pub symbols_of-IsComponent : (d : DelimiterBytes) → IsDelimiters d → (text : List ℕ) (symbols : Symbols)
    → IsComponent d text symbols → symbols ≡ symbols_of d text
unfolding symbols_after
symbols_of-IsComponent d good text symbols (nothing no_text no_symbols) = rw (no_text, no_symbols) refl
symbols_of-IsComponent d good text symbols (plain byte rest others whole read other r) =
    rw (whole, read) (ap (λ (l : Symbols). Char byte ∷ l) (symbols_of-IsComponent d good rest others r)
    ∙ sym (symbols_of-plain d byte rest other))
symbols_of-IsComponent d good text symbols (escape inside rest meant others whole read means r) =
    let found = escape_at-begun d good inside rest meant means in
    let following : drop (length inside + 1) (inside ++ d.escape ∷ rest) ≡ rest =
    rw add-one (drop-closed d.escape inside rest) in
    rw (whole, read) (ap (λ (l : Symbols). meant ++ l)
    (symbols_of-IsComponent d good rest others r ∙ ap (symbols_of d) (sym following))
    ∙ sym (symbols_of-escape d (inside ++ d.escape ∷ rest) (meant, length inside + 1) found))
symbols_of-IsComponent d good text symbols (lone rest others whole read none r) =
    let not_found : escape_at d rest ≡ None =
    elim (escape_cases (escape_at d rest)) [
      | inl none_there ↦ none_there
      | inr some ↦
          let begun = BegunAt-escape_at d rest some.0 some.1 in
          absurd (none (begun.inside, begun.rest, some.0.0, begun.whole, begun.means))
    ] in
    rw (whole, read) (ap (λ (l : Symbols). Char d.escape ∷ l) (symbols_of-IsComponent d good rest others r)
    ∙ sym (symbols_of-lone d rest not_found))
