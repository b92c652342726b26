-- The first fault of a record or a field that is not written.
use Rattle.std.specs.Prelude.{ℕ, ◌+◌, nat_lt, Bool, true, not, if◌then◌else◌, List, length, Option, Some, None}
use Rattle.std.specs.Prelude.{option_map, position}
use Rattle.std.specs.List.{list_all}
use Rattle.std.specs.Option.{option_or}
use Rattle.lis_record_write.specs.declared.faults.WriteFault.{WriteFault}
use Rattle.lis_record_write.specs.declared.faults.WriteFault.TheVariants as write_faults
use Rattle.lis_record_values.specs.declared.symbols.Sym.{Sym}
use Rattle.lis_record_values.specs.declared.symbols.Sym.TheVariants.{Char}
use Rattle.lis_record_values.specs.Delimiters.{DelimiterBytes}
use Rattle.lis_record_values.specs.Shape.{Symbols, Components, Repeats, RecordContent, first_number}
use Rattle.lis_record_write.specs.Encoding.{encoded, encoded_field}
use Rattle.lis_record_values.specs.Text.{is_text_byte, record_limit}

-- whether what a symbol carries as a character is a text byte
abbrev pub is_text_symbol : Sym → Bool
is_text_symbol (Char byte) = is_text_byte byte
is_text_symbol _ = true

abbrev pub is_text_component : Symbols → Bool
is_text_component symbols = list_all is_text_symbol symbols

abbrev pub is_text_repeat : Components → Bool
is_text_repeat components = list_all is_text_component components

abbrev pub is_text_field : Repeats → Bool
is_text_field repeats = list_all is_text_repeat repeats

-- the number of the first field with a character that is no text byte
abbrev pub bad_field_number : RecordContent → Option ℕ
bad_field_number content =
    option_map (λ place. place + first_number content.kind)
    (position (λ field. not (is_text_field field)) content.fields)

-- more bytes than a record may have
abbrev pub long_fault : List ℕ → Option WriteFault
long_fault text = if nat_lt record_limit (length text) then Some write_faults.TooLong else None

-- why a record is not written: a character that is no text byte, else an encoding that is too long
unfoldable pub check_fault : DelimiterBytes → RecordContent → Option WriteFault
check_fault d content = option_or (option_map write_faults.CharNotText (bad_field_number content))
    (long_fault (encoded d content))

-- the first fault of a field's characters
unfoldable pub field_char_fault : Repeats → Option WriteFault
field_char_fault repeats = if is_text_field repeats then None else Some (write_faults.CharNotText 0)

-- why a field is not written
unfoldable pub field_fault : DelimiterBytes → Repeats → Option WriteFault
field_fault d repeats = option_or (field_char_fault repeats) (long_fault (encoded_field d repeats))
