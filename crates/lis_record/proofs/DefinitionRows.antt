-- The definitions at texts and records whose reading is known from outside, by computation.
use Rattle.std.proofs.Common.{◌≡◌, ℕ, List, [], ◌∷◌, None, Some, ap, arith, length, refl}
use Rattle.hex.specs.Hex.{encode_with, decode_pairs}
use Rattle.lis_record_values.specs.declared.delimiting.DelimiterFault.TheVariants.{Repeated}
use Rattle.lis_record_values.specs.declared.faults.DelimiterPartFault.TheVariants.{Short, Fault, Trailing}
use Rattle.lis_record_values.specs.declared.faults.RecordFault.TheVariants.{Empty, UnknownKind, DelimiterPart, Byte}
use Rattle.lis_record_write.specs.declared.faults.WriteFault.TheVariants.{CharNotText}
use Rattle.lis_record_values.specs.declared.kinds.Kind.TheVariants as kinds
use Rattle.lis_record_values.specs.declared.symbols.Sym.TheVariants.{Char, Raw}
use Rattle.lis_record_values.specs.Delimiters.{DelimiterBytes, IsDelimiters, delimiters_of, delimiter_fault}
use Rattle.lis_record_values.specs.Delimiters.{is_punctuation}
use Rattle.lis_record_values.specs.Escapes.{IsComponent, escape, escape_of, nothing, plain}
use Rattle.lis_record_values.specs.Relation.{IsRecord}
use Rattle.lis_record_values.specs.Shape.{Fields, RecordContent}
use Rattle.lis_record.specs.Faults.{record_text_fault, record_fault, delimiter_part_fault, header_fault}
use Rattle.lis_record_write.specs.WriteFaults.{check_fault}
use Rattle.lis_record_read.specs.FrontReading.{escape_at, symbols_after, symbols_of}
use Rattle.lis_record_values.specs.Kinds.{kind_of}
use Rattle.lis_record_write.specs.Encoding.{encoded_symbol, encoded}
use Rattle.lis_record_values.specs.Text.{is_text_byte}
use Rattle.lis_record_read.proofs.Components.{IsComponent-symbols_of, symbols_of-IsComponent}
use Rattle.lis_record.proofs.FaultLaws.{record_text_fault-none}
use Rattle.lis_record.proofs.RecordTexts.{AreFieldTexts-fields_of, AreFieldTexts-none, IsRecord-one}

-- | \ ^ &
usual : DelimiterBytes
usual = delimiters_of 0x7c 0x5c 0x5e 0x26

-- H|\^& and H||^& and H|\^ and H|\^&A and P|1
usual_header_is_good : header_fault (0x48 ∷ 0x7c ∷ 0x5c ∷ 0x5e ∷ 0x26 ∷ []) ≡ None
unfolding header_fault delimiter_part_fault record_text_fault delimiter_fault is_punctuation is_text_byte kind_of
usual_header_is_good = refl

repeated_delimiter : header_fault (0x48 ∷ 0x7c ∷ 0x7c ∷ 0x5e ∷ 0x26 ∷ []) ≡ Some (DelimiterPart (Fault (Repeated 1)))
unfolding header_fault delimiter_part_fault record_text_fault delimiter_fault is_punctuation is_text_byte kind_of
repeated_delimiter = refl

short_delimiters : header_fault (0x48 ∷ 0x7c ∷ 0x5c ∷ 0x5e ∷ []) ≡ Some (DelimiterPart Short)
unfolding header_fault delimiter_part_fault record_text_fault delimiter_fault is_punctuation is_text_byte kind_of
short_delimiters = refl

byte_after_the_delimiters : header_fault (0x48 ∷ 0x7c ∷ 0x5c ∷ 0x5e ∷ 0x26 ∷ 0x41 ∷ [])
    ≡ Some (DelimiterPart (Trailing 0x41))
unfolding header_fault delimiter_part_fault record_text_fault delimiter_fault is_punctuation is_text_byte kind_of
byte_after_the_delimiters = refl

patient_is_no_header : header_fault (0x50 ∷ 0x7c ∷ 0x31 ∷ []) ≡ Some (UnknownKind 0x50)
unfolding header_fault kind_of
patient_is_no_header = refl

-- nothing, and Lx, and P| with byte 7F
nothing_is_no_record : record_fault usual [] ≡ Some Empty
unfolding record_fault
nothing_is_no_record = refl

letter_without_delimiter : record_fault usual (0x4c ∷ 0x78 ∷ []) ≡ Some (UnknownKind 0x78)
unfolding record_fault record_text_fault usual is_text_byte kind_of
letter_without_delimiter = refl

byte_that_is_no_text : record_fault usual (0x50 ∷ 0x7c ∷ 0x7f ∷ []) ≡ Some (Byte 2)
unfolding record_fault record_text_fault usual is_text_byte kind_of
byte_that_is_no_text = refl

-- &X0D0a& and &X4& and S & S
hexadecimal_escape : symbols_of usual (0x26 ∷ 0x58 ∷ 0x30 ∷ 0x44 ∷ 0x30 ∷ 0x61 ∷ 0x26 ∷ []) ≡ Raw 0x0d ∷ Raw 0x0a ∷ []
unfolding symbols_after escape_at escape_of decode_pairs usual
hexadecimal_escape = refl

odd_digits_are_no_escape : symbols_of usual (0x26 ∷ 0x58 ∷ 0x34 ∷ 0x26 ∷ []) ≡ Char 0x26 ∷ Char 0x58 ∷ Char 0x34
    ∷ Char 0x26 ∷ []
unfolding symbols_after escape_at escape_of decode_pairs usual
odd_digits_are_no_escape = refl

lone_escape_byte : symbols_of usual (0x53 ∷ 0x26 ∷ 0x53 ∷ []) ≡ Char 0x53 ∷ Char 0x26 ∷ Char 0x53 ∷ []
unfolding symbols_after escape_at escape_of usual
lone_escape_byte = refl

-- written, they are C|&X0d&&X0a& and S&E&S
hexadecimal_escapes_written :
    encoded usual (record { kind = kinds.C; fields = (((Raw 0x0d ∷ Raw 0x0a ∷ []) ∷ []) ∷ []) ∷ [] })
    ≡ 0x43 ∷ 0x7c ∷ 0x26 ∷ 0x58 ∷ 0x30 ∷ 0x64 ∷ 0x26 ∷ 0x26 ∷ 0x58 ∷ 0x30 ∷ 0x61 ∷ 0x26 ∷ []
unfolding encoded_symbol encode_with usual
hexadecimal_escapes_written = refl

escape_byte_written :
    encoded usual (record { kind = kinds.C; fields = (((Char 0x53 ∷ Char 0x26 ∷ Char 0x53 ∷ []) ∷ []) ∷ []) ∷ [] })
    ≡ 0x43 ∷ 0x7c ∷ 0x53 ∷ 0x26 ∷ 0x45 ∷ 0x26 ∷ 0x53 ∷ []
unfolding encoded_symbol usual
escape_byte_written = refl

-- a record without a field, and one with an empty field
no_field_written : encoded usual (record { kind = kinds.L; fields = [] }) ≡ 0x4c ∷ []
unfolding usual
no_field_written = refl

empty_field_written : encoded usual (record { kind = kinds.L; fields = (([] ∷ []) ∷ []) ∷ [] }) ≡ 0x4c ∷ 0x7c ∷ []
unfolding usual
empty_field_written = refl

-- field 4 holds CR
bad_character :
    check_fault usual
    (record {
      kind = kinds.P;
      fields = (((Char 0x31 ∷ []) ∷ []) ∷ []) ∷ (([] ∷ []) ∷ [])
          ∷ (((Char 0x0d ∷ []) ∷ []) ∷ []) ∷ [];
    })
    ≡ Some (CharNotText 4)
unfolding check_fault encoded_symbol usual is_text_byte
bad_character = refl

-- |, \, ^ and & are delimiters
usual_are_delimiters : IsDelimiters usual
unfolding usual is_punctuation
usual_are_delimiters = record {
  field_is = refl;
  repeat_is = refl;
  component_is = refl;
  escape_is = refl;
  field_repeat = omega arith;
  field_component = omega arith;
  field_escape = omega arith;
  repeat_component = omega arith;
  repeat_escape = omega arith;
  component_escape = omega arith;
}

-- A&F&B is A, | and B by the cases of the definition alone, and not its bytes
escape_in_a_component : IsComponent usual (0x41 ∷ 0x26 ∷ 0x46 ∷ 0x26 ∷ 0x42 ∷ [])
    (Char 0x41 ∷ Char 0x7c ∷ Char 0x42 ∷ [])
unfolding usual escape_of
escape_in_a_component =
    plain 0x41 (0x26 ∷ 0x46 ∷ 0x26 ∷ 0x42 ∷ []) (Char 0x7c ∷ Char 0x42 ∷ []) refl refl (omega arith)
    (escape (0x46 ∷ []) (0x42 ∷ []) (Char 0x7c ∷ []) (Char 0x42 ∷ []) refl refl refl
    (plain 0x42 [] [] refl refl (omega arith) (nothing refl refl)))

escape_is_not_its_bytes : ¬ (IsComponent usual (0x26 ∷ 0x46 ∷ 0x26 ∷ []) (Char 0x26 ∷ Char 0x46 ∷ Char 0x26 ∷ []))
unfolding symbols_after escape_at escape_of usual
escape_is_not_its_bytes is =
    absurd (omega (
      arith,
      ap length (symbols_of-IsComponent usual usual_are_delimiters (0x26 ∷ 0x46 ∷ 0x26 ∷ [])
          (Char 0x26 ∷ Char 0x46 ∷ Char 0x26 ∷ []) is),
    ))

-- in S&S the escape byte is itself, and isn't dropped
lone_escape_in_a_component : IsComponent usual (0x53 ∷ 0x26 ∷ 0x53 ∷ []) (Char 0x53 ∷ Char 0x26 ∷ Char 0x53 ∷ [])
unfolding symbols_after escape_at escape_of usual
lone_escape_in_a_component = IsComponent-symbols_of usual usual_are_delimiters (0x53 ∷ 0x26 ∷ 0x53 ∷ [])

lone_escape_is_not_dropped : ¬ (IsComponent usual (0x53 ∷ 0x26 ∷ 0x53 ∷ []) (Char 0x53 ∷ Char 0x53 ∷ []))
unfolding symbols_after escape_at escape_of usual
lone_escape_is_not_dropped is =
    absurd (omega (
      arith,
      ap length (symbols_of-IsComponent usual usual_are_delimiters (0x53 ∷ 0x26 ∷ 0x53 ∷ [])
          (Char 0x53 ∷ Char 0x53 ∷ []) is),
    ))

-- R|1|A^B\C| is a result with three fields, the last of them empty
result_text : List ℕ
result_text = 0x52 ∷ 0x7c ∷ 0x31 ∷ 0x7c ∷ 0x41 ∷ 0x5e ∷ 0x42 ∷ 0x5c ∷ 0x43 ∷ 0x7c ∷ []

result_fields : Fields
result_fields = (((Char 0x31 ∷ []) ∷ []) ∷ [])
    ∷ (((Char 0x41 ∷ []) ∷ (Char 0x42 ∷ []) ∷ []) ∷ ((Char 0x43 ∷ []) ∷ []) ∷ [])
    ∷ (([] ∷ []) ∷ []) ∷ []

result_is_a_record : IsRecord usual result_text (record { kind = kinds.R; fields = result_fields })
unfolding result_text result_fields usual symbols_after kind_of record_text_fault is_text_byte
result_is_a_record =
    let texts = record_text_fault-none result_text refl in record {
      letter = 0x52;
      fields_text = 0x7c ∷ 0x31 ∷ 0x7c ∷ 0x41 ∷ 0x5e ∷ 0x42 ∷ 0x5c ∷ 0x43 ∷ 0x7c ∷ [];
      whole = refl;
      kind_is = refl;
      fields_are = AreFieldTexts-fields_of usual usual_are_delimiters
          (0x31 ∷ 0x7c ∷ 0x41 ∷ 0x5e ∷ 0x42 ∷ 0x5c ∷ 0x43 ∷ 0x7c ∷ []);
      is_text = texts.0;
      short = texts.1;
    }

-- and it is no record without its last field
empty_field_is_not_dropped : ¬ (IsRecord usual result_text (record {
  kind = kinds.R;
  fields = (((Char 0x31 ∷ []) ∷ []) ∷ [])
      ∷ (((Char 0x41 ∷ []) ∷ (Char 0x42 ∷ []) ∷ []) ∷ ((Char 0x43 ∷ []) ∷ []) ∷ []) ∷ [];
}))
unfolding result_fields
empty_field_is_not_dropped is =
    absurd (omega (
      arith,
      ap (λ (r : RecordContent). length r.fields)
          (IsRecord-one usual usual_are_delimiters result_text _ _ is result_is_a_record),
    ))

-- L without a field is a terminator
terminator_is_a_record : IsRecord usual (0x4c ∷ []) (record { kind = kinds.L; fields = [] })
unfolding usual kind_of record_text_fault is_text_byte
terminator_is_a_record =
    let texts = record_text_fault-none (0x4c ∷ []) refl in record {
      letter = 0x4c;
      fields_text = [];
      whole = refl;
      kind_is = refl;
      fields_are = AreFieldTexts-none usual usual_are_delimiters;
      is_text = texts.0;
      short = texts.1;
    }
