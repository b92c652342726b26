-- The first fault of a text that is no record.
use Rattle.std.specs.Prelude.{◌≡◌, ◌⊎◌, ℕ, nat_lt, Bool, true, false, if◌then◌else◌, List, [], ◌∷◌, length, Option}
use Rattle.std.specs.Prelude.{Some, None, option_map}
use Rattle.std.specs.Option.{option_or}
use Rattle.lis_record_values.specs.declared.faults.DelimiterPartFault.{DelimiterPartFault}
use Rattle.lis_record_values.specs.declared.faults.DelimiterPartFault.TheVariants.{Short, Fault, Trailing}
use Rattle.lis_record_values.specs.declared.faults.RecordFault.{RecordFault}
use Rattle.lis_record_values.specs.declared.faults.RecordFault.TheVariants as record_faults
use Rattle.lis_record_values.specs.declared.kinds.Kind.{Kind}
use Rattle.lis_record_values.specs.declared.kinds.Kind.TheVariants as kinds
use Rattle.lis_record_values.specs.Delimiters.{DelimiterBytes, delimiter_fault}
use Rattle.lis_record_values.specs.Kinds.{kind_of}
use Rattle.lis_record_values.specs.Text.{bad_byte_place, record_limit, trailing_byte}

-- a byte that is no text byte, else too many bytes
unfoldable pub record_text_fault : List ℕ → Option RecordFault
record_text_fault text =
    option_or (option_map record_faults.Byte (bad_byte_place text))
    (if nat_lt record_limit (length text) then Some record_faults.TooLong else None)

-- whether a letter is a header's
abbrev pub is_header_kind : Option Kind → Bool
is_header_kind (Some kinds.H) = true
is_header_kind _ = false

-- whether a letter is that of any other record
abbrev pub is_other_kind : Option Kind → Bool
is_other_kind None = false
is_other_kind (Some kinds.H) = false
is_other_kind _ = true

-- the first fault of a text as a record other than a header
unfoldable pub record_fault : DelimiterBytes → List ℕ → Option RecordFault
record_fault d [] = Some record_faults.Empty
record_fault d (letter ∷ bytes) =
    option_or (if is_other_kind (kind_of letter) then None else Some (record_faults.UnknownKind letter))
    (option_or (option_map record_faults.UnknownKind (trailing_byte d.field bytes))
    (record_text_fault (letter ∷ bytes)))

-- the first fault of what follows a header's letter
unfoldable pub delimiter_part_fault : List ℕ → Option DelimiterPartFault
delimiter_part_fault [] = Some Short
delimiter_part_fault (f ∷ []) = Some Short
delimiter_part_fault (f ∷ r ∷ []) = Some Short
delimiter_part_fault (f ∷ r ∷ c ∷ []) = Some Short
delimiter_part_fault (f ∷ r ∷ c ∷ e ∷ bytes) =
    option_or (option_map Fault (delimiter_fault (f ∷ r ∷ c ∷ e ∷ []))) (option_map Trailing (trailing_byte f bytes))

-- the first fault of a text as a header
unfoldable pub header_fault : List ℕ → Option RecordFault
header_fault [] = Some record_faults.Empty
header_fault (letter ∷ bytes) =
    option_or (if is_header_kind (kind_of letter) then None else Some (record_faults.UnknownKind letter))
    (option_or (option_map record_faults.DelimiterPart (delimiter_part_fault bytes))
    (record_text_fault (letter ∷ bytes)))

-- an error reports the first fault, or a lack of memory where there is no fault
abbrev pub ReportsFault : RecordFault → Option RecordFault → Type 0
ReportsFault error fault = (fault ≡ Some error) ⊎ ((error ≡ record_faults.OutOfMemory) × (fault ≡ None))
