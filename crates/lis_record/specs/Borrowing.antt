-- What is found where a text is borrowed as the record that it is.
use Rattle.std.specs.Prelude.{◌≡◌, ◌≢◌, ℕ, List, Result, Ok}
use Rattle.lis_record_values.specs.declared.kinds.Kind.TheVariants as kinds
use Rattle.lis_record_values.specs.Delimiters.{DelimiterBytes, IsDelimiters}
use Rattle.lis_record_values.specs.Shape.{RecordContent}
use Rattle.lis_record_values.specs.declared.faults.RecordFault.{RecordFault}
use Rattle.lis_record.specs.Borrowed.{Borrowed, borrowed}
use Rattle.lis_record_values.specs.Relation.{IsRecord}

-- the record other than a header that a text is, under the delimiters of its message
abbrev pub IsBorrowedRecord : DelimiterBytes → List ℕ → Borrowed RecordContent → Type 0
IsBorrowedRecord d text entry =
    (entry.delimiters ≡ d) × IsRecord d text entry.content × (entry.content.kind ≢ kinds.H)

-- a text that is a record other than a header is found to be it
abbrev pub FindsRecord : DelimiterBytes → List ℕ → Result (Borrowed RecordContent) RecordFault → Type 0
FindsRecord d text found =
    (content : RecordContent) → IsRecord d text content → content.kind ≢ kinds.H → found ≡ Ok (borrowed d content)

-- the header that a text is, under the delimiters that it declares
abbrev pub IsBorrowedHeader : List ℕ → Borrowed RecordContent → Type 0
IsBorrowedHeader text entry =
    IsDelimiters entry.delimiters × IsRecord entry.delimiters text entry.content × (entry.content.kind ≡ kinds.H)

-- a text that is a header is found to be it
abbrev pub FindsHeader : List ℕ → Result (Borrowed RecordContent) RecordFault → Type 0
FindsHeader text found =
    (d : DelimiterBytes) (content : RecordContent) → IsDelimiters d → IsRecord d text content
    → content.kind ≡ kinds.H → found ≡ Ok (borrowed d content)
