-- Escapes, and the relation between a text and the parts of a record (LIS02-A2, Delimiters).
use Rattle.lis_record_values.specs.declared.symbols.Sym.{Sym}
use Rattle.std.specs.Prelude.{◌≡◌, ◌≢◌, ℕ, ◌==◌, if◌then◌else◌, List, [], ◌∷◌, ◌++◌, map, Option, Some, None}
use Rattle.std.specs.Prelude.{option_map, Result, Ok, Err}
use Rattle.hex.specs.Hex.{decode_of}
use Rattle.hex.specs.declared.error.FromHexError.{FromHexError}
use Rattle.lis_record_values.specs.declared.symbols.Sym.TheVariants.{Char, Raw, On, Off}
use Rattle.lis_record_values.specs.Delimiters.{DelimiterBytes}
use Rattle.lis_record_values.specs.Shape.{Symbols}

-- the symbol of an escape of one letter: H, N, F, S, R or E
abbrev pub letter_symbol : DelimiterBytes → ℕ → Option Sym
letter_symbol d letter =
    if letter == 72 then Some On
    else if letter == 78 then Some Off
    else if letter == 70 then Some (Char d.field)
    else if letter == 83 then Some (Char d.component)
    else if letter == 82 then Some (Char d.repeat)
    else if letter == 69 then Some (Char d.escape)
    else None

-- the bytes of pairs of hexadecimal digits, in either case
abbrev pub raw_symbols : Result (List ℕ) FromHexError → Option Symbols
raw_symbols (Ok bytes) = Some (map Raw bytes)
raw_symbols (Err fault) = None

-- What is between two escape bytes, and the symbols that it means: a letter, or X and one or more
-- pairs of hexadecimal digits.
unfoldable pub escape_of : DelimiterBytes → List ℕ → Option Symbols
escape_of d [] = None
escape_of d (letter ∷ []) = option_map (λ symbol. symbol ∷ []) (letter_symbol d letter)
escape_of d (letter ∷ digit ∷ digits) = if letter == 88 then raw_symbols (decode_of (digit ∷ digits)) else None

-- an escape begins after an escape byte that this text follows
abbrev pub BeginsEscape : DelimiterBytes → List ℕ → Type 0
BeginsEscape d text =
    (inside : List ℕ) × (rest : List ℕ) × (symbols : Symbols) × (text ≡ inside ++ d.escape ∷ rest)
    × (escape_of d inside ≡ Some symbols)

-- A component's text, by cases from its front. What an escape byte begins that is no escape is that byte.
pub data IsComponent (d : DelimiterBytes) : List ℕ → Symbols → Type 0 where
  nothing : {text : List ℕ} {symbols : Symbols} → text ≡ [] → symbols ≡ [] → IsComponent d text symbols
  plain : {text : List ℕ} {symbols : Symbols} (byte : ℕ) (rest : List ℕ) (others : Symbols)
      → text ≡ byte ∷ rest → symbols ≡ Char byte ∷ others
      → byte ≢ d.escape → IsComponent d rest others → IsComponent d text symbols
  escape : {text : List ℕ} {symbols : Symbols} (inside : List ℕ) (rest : List ℕ) (meant : Symbols) (others : Symbols)
      → text ≡ d.escape ∷ inside ++ d.escape ∷ rest → symbols ≡ meant ++ others
      → escape_of d inside ≡ Some meant → IsComponent d rest others → IsComponent d text symbols
  lone : {text : List ℕ} {symbols : Symbols} (rest : List ℕ) (others : Symbols)
      → text ≡ d.escape ∷ rest → symbols ≡ Char d.escape ∷ others
      → ¬ (BeginsEscape d rest) → IsComponent d rest others → IsComponent d text symbols
