-- Reading a text from its front, once: the same symbols, components, repeats and fields as the relation has.
use Rattle.std.specs.Prelude.{ℕ, zero, suc, ◌+◌, ◌==◌, nat_lt, cond, if◌then◌else◌, List, [], ◌∷◌, ◌++◌, map, take}
use Rattle.std.specs.Prelude.{length, Option, Some, None, option_map, is_some, IsTrue, unwrap_or}
use Rattle.std.specs.List.{position_or_len, slice_split}
use Rattle.lis_record_values.specs.declared.symbols.Sym.{Sym}
use Rattle.lis_record_values.specs.declared.symbols.Sym.TheVariants.{Char}
use Rattle.lis_record_values.specs.Delimiters.{DelimiterBytes}
use Rattle.hex.specs.Hex.{decode_of}
use Rattle.lis_record_values.specs.Escapes.{escape_of, raw_symbols}
use Rattle.lis_record_values.specs.Shape.{Symbols, Components, Repeats, Fields}
use Rattle.lis_record_values.specs.Relation.{Lacks}

-- the parts of a text round a byte
abbrev pub parts_of : ℕ → List ℕ → List (List ℕ)
parts_of byte text = slice_split (λ b. b == byte) text

-- The escape after an escape byte that this text follows: what it means, and how many bytes it takes.
-- It ends at the next escape byte.
unfoldable pub escape_at : DelimiterBytes → List ℕ → Option (Symbols × ℕ)
escape_at d text =
    let n = position_or_len (λ b. b == d.escape) text in
    if nat_lt n (length text) then option_map (λ symbols. (symbols, n + 1)) (escape_of d (take n text)) else None

-- what an escape means and what is after it; where there is none, the escape byte is itself
abbrev pub symbols_following : Option (Symbols × ℕ) → (ℕ → Symbols) → Sym → Symbols
symbols_following None others lone = lone ∷ others 0
symbols_following (Some escape) others lone = escape.0 ++ others escape.1

-- the symbols of a component's text, without the bytes that are passed over first
unfoldable pub symbols_after : DelimiterBytes → ℕ → List ℕ → Symbols
symbols_after d passed [] = []
symbols_after d (suc passed) (byte ∷ bytes) = symbols_after d passed bytes
symbols_after d zero (byte ∷ bytes) =
    cond (byte == d.escape) (symbols_following (escape_at d bytes) (λ n. symbols_after d n bytes) (Char byte))
    (Char byte ∷ symbols_after d 0 bytes)

abbrev pub symbols_of : DelimiterBytes → List ℕ → Symbols
symbols_of d text = symbols_after d 0 text

abbrev pub components_of : DelimiterBytes → List ℕ → Components
components_of d text = map (symbols_of d) (parts_of d.component text)

abbrev pub repeats_of : DelimiterBytes → List ℕ → Repeats
repeats_of d text = map (components_of d) (parts_of d.repeat text)

-- the parts after a first byte, which is a delimiter
abbrev pub parts_following : ℕ → List ℕ → List (List ℕ)
parts_following byte [] = []
parts_following byte (delimiter ∷ bytes) = parts_of byte bytes

-- the fields of what follows a record's letter, or a header's delimiters
abbrev pub fields_of : DelimiterBytes → List ℕ → Fields
fields_of d text = map (repeats_of d) (parts_following d.field text)

-- pairs of hexadecimal digits
abbrev pub ArePairs : List ℕ → Type 0
ArePairs digits = IsTrue (is_some (raw_symbols (decode_of digits)))

-- the raw bytes that pairs of digits are
abbrev pub digit_symbols : List ℕ → Symbols
digit_symbols digits = unwrap_or (raw_symbols (decode_of digits)) []

-- the text of a field that is one component without an escape byte
pub record IsPlainText (d : DelimiterBytes) (text : List ℕ) : Type 0 where
  pub repeat : Lacks d.repeat text
  pub component : Lacks d.component text
  pub escape : Lacks d.escape text

-- what is left of a component: the digits of an escape that was begun, and the text after it
abbrev pub symbols_left : DelimiterBytes → List ℕ → List ℕ → Symbols
symbols_left d digits text = digit_symbols digits ++ symbols_of d text
