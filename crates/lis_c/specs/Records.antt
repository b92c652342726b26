-- What C gets of a record's parts.
use Rattle.std.specs.Prelude.{◌≡◌, ◌≢◌, ℕ, ◌<◌, ◌≤◌, ◌⊎◌, List, [], ◌∷◌, ◌++◌, Option, None, Some, drop, length}
use Rattle.std.specs.Prelude.{slice_get}
use Rattle.std.specs.List.{flat_map}
use Rattle.lis_record_values.specs.declared.symbols.Sym.{Sym}
use Rattle.lis_record_values.specs.declared.symbols.Sym.TheVariants.{Char, Raw, On, Off}
use Rattle.lis_record_values.specs.Delimiters.{DelimiterBytes}
use Rattle.lis_record_values.specs.Kinds.{letter_of}
use Rattle.lis_record_values.specs.Shape.{Components, RecordContent, Repeats, Symbols, field_at}
use Rattle.lis_record_values.specs.declared.faults.RecordFault.{RecordFault}
use Rattle.lis_record_values.specs.declared.faults.RecordFault.TheVariants as RecordFaults
use Rattle.lis_c.specs.Status.{ABSENT, BAD_DELIMITERS, BAD_LETTER, FORBIDDEN, NO_RECORD, OK, OUT_OF_MEMORY, TOO_LONG}
use Rattle.lis_c.specs.Status.{TOO_SHORT, copy_status}
use Rattle.lis_c.specs.declared.records.LisDelimiters.{LisDelimiters}
use Rattle.lis_c.specs.declared.records.LisRecord.{LisRecord}

-- four bytes as delimiters
abbrev pub delimiters_in : LisDelimiters → DelimiterBytes
delimiters_in d = record { field = d.field; repeat = d.repeat; component = d.component; escape = d.escape }

-- why a text is no record, and the place of the byte that no text may hold
abbrev pub record_status : RecordFault → ℕ
record_status RecordFaults.Empty = NO_RECORD
record_status (RecordFaults.UnknownKind byte) = BAD_LETTER
record_status (RecordFaults.DelimiterPart fault) = BAD_DELIMITERS
record_status (RecordFaults.Byte place) = FORBIDDEN
record_status RecordFaults.TooLong = TOO_LONG
record_status RecordFaults.OutOfMemory = OUT_OF_MEMORY

abbrev pub record_place : RecordFault → ℕ
record_place RecordFaults.Empty = 0
record_place (RecordFaults.UnknownKind byte) = 0
record_place (RecordFaults.DelimiterPart fault) = 0
record_place (RecordFaults.Byte place) = place
record_place RecordFaults.TooLong = 0
record_place RecordFaults.OutOfMemory = 0

-- a record is reported by its letter in upper case and the number of its fields
pub record ReportsRecord (content : RecordContent) (status : ℕ) (out : LisRecord) : Type 0 where
  pub well : status ≡ OK
  pub letter_is : out.letter ≡ letter_of content.kind
  pub fields_are : out.fields ≡ length content.fields
  pub place_is : out.place ≡ 0

-- nothing is said about a text where the delimiters are invalid
abbrev pub no_record : LisRecord
no_record = record { letter = 0; fields = 0; place = 0 }

pub record ReportsRecordFault (fault : RecordFault) (status : ℕ) (out : LisRecord) : Type 0 where
  pub why : status ≡ record_status fault
  pub letter_is : out.letter ≡ 0
  pub fields_are : out.fields ≡ 0
  pub place_is : out.place ≡ record_place fault

-- a part by the number of its field and the places of its repeat and component
abbrev pub repeat_at : Option Repeats → ℕ → Option Components
repeat_at None place = None
repeat_at (Some repeats) place = slice_get repeats place

abbrev pub component_at : Option Components → ℕ → Option Symbols
component_at None place = None
component_at (Some components) place = slice_get components place

abbrev pub part_at : RecordContent → ℕ → ℕ → ℕ → Option Symbols
part_at content field repeat component = component_at (repeat_at (field_at content field) repeat) component

-- what a symbol means; highlighting means no byte
abbrev pub symbol_bytes : Sym → List ℕ
symbol_bytes (Char byte) = byte ∷ []
symbol_bytes (Raw byte) = byte ∷ []
symbol_bytes On = []
symbol_bytes Off = []

abbrev pub plain : Symbols → List ℕ
plain symbols = flat_map symbol_bytes symbols

-- its bytes are copied to the front of the buffer if they fit, and what follows them in the buffer stays
abbrev pub IsCopied : List ℕ → (status : ℕ) (before after : List ℕ) (size : ℕ) → Type 0
IsCopied bytes status before after size =
    ((status ≡ OK) × (after ≡ bytes ++ drop size before) × (size ≡ length bytes) × (size ≤ length before))
    ⊎ ((status ≡ TOO_SHORT) × (length before < length bytes) × (size ≡ 0))

-- a whole text is copied so if it fits; if it doesn't, the buffer stays
abbrev pub IsTextCopied : List ℕ → (status : ℕ) (before after : List ℕ) (size : ℕ) → Type 0
IsTextCopied text status before after size =
    IsCopied text status before after size × (status ≡ copy_status (length before) (length text))
    × (status ≢ OK → after ≡ before)

-- if there is no such part the buffer stays
abbrev pub IsPart : Option Symbols → (status : ℕ) (before after : List ℕ) (size : ℕ) → Type 0
IsPart None status before after size = (status ≡ ABSENT) × (after ≡ before) × (size ≡ 0)
IsPart (Some symbols) status before after size = IsCopied (plain symbols) status before after size
