-- How records are written (LIS02-A2, Delimiters).
use Rattle.std.specs.Prelude.{ℕ, ◌==◌, if◌then◌else◌, List, [], ◌∷◌, ◌++◌, map, Option, Some, None}
use Rattle.std.specs.List.{flat_map, join_with_byte}
use Rattle.hex.specs.Hex.{encode_lower}
use Rattle.lis_record_values.specs.declared.symbols.Sym.{Sym}
use Rattle.lis_record_values.specs.declared.symbols.Sym.TheVariants.{Char, Raw, On, Off}
use Rattle.lis_record_values.specs.Delimiters.{DelimiterBytes}
use Rattle.lis_record_values.specs.Kinds.{letter_of}
use Rattle.lis_record_values.specs.Relation.{declared_part}
use Rattle.lis_record_values.specs.Shape.{Symbols, Components, Repeats, RecordContent, Fields}

-- an escape of one letter
abbrev pub letter_encoding : DelimiterBytes → ℕ → List ℕ
letter_encoding d letter = d.escape ∷ letter ∷ d.escape ∷ []

-- the letter of the escape that a delimiter is written as
abbrev pub delimiter_letter : DelimiterBytes → ℕ → Option ℕ
delimiter_letter d byte =
    if byte == d.field then Some 70
    else if byte == d.component then Some 83
    else if byte == d.repeat then Some 82
    else if byte == d.escape then Some 69
    else None

-- an escape, or the byte itself
abbrev pub char_encoding : DelimiterBytes → ℕ → Option ℕ → List ℕ
char_encoding d byte (Some letter) = letter_encoding d letter
char_encoding d byte None = byte ∷ []

-- A delimiter is written as an escape with its letter, F, S, R or E. A raw byte is an escape of its own,
-- X and two lower-case digits. H begins highlighting, and N ends it.
unfoldable pub encoded_symbol : DelimiterBytes → Sym → List ℕ
encoded_symbol d (Char byte) = char_encoding d byte (delimiter_letter d byte)
encoded_symbol d (Raw byte) = d.escape ∷ 88 ∷ encode_lower (byte ∷ []) ++ d.escape ∷ []
encoded_symbol d On = letter_encoding d 72
encoded_symbol d Off = letter_encoding d 78

abbrev pub encoded_component : DelimiterBytes → Symbols → List ℕ
encoded_component d symbols = flat_map (encoded_symbol d) symbols

abbrev pub encoded_repeat : DelimiterBytes → Components → List ℕ
encoded_repeat d components = join_with_byte d.component (map (encoded_component d) components)

abbrev pub encoded_field : DelimiterBytes → Repeats → List ℕ
encoded_field d repeats = join_with_byte d.repeat (map (encoded_repeat d) repeats)

-- a record without its CR
abbrev pub encoded : DelimiterBytes → RecordContent → List ℕ
encoded d content =
    letter_of content.kind ∷ declared_part d content.kind
    ++ flat_map (λ field. d.field ∷ encoded_field d field) content.fields

-- a record as it goes out, with its CR
abbrev pub written : DelimiterBytes → RecordContent → List ℕ
written d content = encoded d content ++ 13 ∷ []

-- the fields of a record
abbrev pub more_fields : DelimiterBytes → Fields → List ℕ
more_fields d fields = flat_map (λ field. d.field ∷ encoded_field d field) fields
