-- What C gets of the records of a stream.
use Rattle.std.specs.Prelude.{◌≡◌, ℕ, ◌-◌, ◌==◌, Bool, true, false, List, [], Option, None, Some, Result, Ok, Err}
use Rattle.std.specs.Prelude.{if◌then◌else◌, length, position, take}
use Rattle.lis_text.specs.Control.{CR}
use Rattle.lis_record_values.specs.Kinds.{letter_of}
use Rattle.lis_record_values.specs.Shape.{RecordContent}
use Rattle.lis_record.specs.Borrowed.{Borrowed}
use Rattle.lis_tree.specs.Begun.{Begun}
use Rattle.lis_record_values.specs.declared.faults.MessageFault.{MessageFault}
use Rattle.lis_record_values.specs.declared.faults.Reason.{Reason}
use Rattle.lis_record_values.specs.declared.faults.Reason.TheVariants as Reasons
use Rattle.lis_message.specs.declared.records.RecordFound.{RecordFound}
use Rattle.lis_message.specs.declared.records.RecordFound.TheVariants as founds
use Rattle.lis_message.specs.Kept.{RecordsState}
use Rattle.lis_message.specs.Records.{Reads}
use Rattle.lis_c.specs.Records.{IsPart, IsTextCopied, part_at, record_place, record_status}
use Rattle.lis_c.specs.Status.{OK, UNFINISHED, NO_RECORD}
use Rattle.lis_c.specs.declared.reader.LisFound.{LisFound}

-- the bytes before the first CR, or a CR that is first: by the place of the first CR, and how many bytes there are
abbrev pub piece_by : Option ℕ → ℕ → ℕ
piece_by None count = count
piece_by (Some place) count = if place == 0 then 1 else place

abbrev pub piece_length : List ℕ → ℕ
piece_length bytes = piece_by (position (λ b. b == CR) bytes) (length bytes)

-- why a record can't be read, with the status of its text or the letter of its kind, and the place of a byte
abbrev pub reason_code : Reason → ℕ
reason_code (Reasons.BadRecord fault) = 1
reason_code Reasons.NotHeader = 2
reason_code (Reasons.NoParent kind) = 3
reason_code Reasons.SecondHeader = 4
reason_code Reasons.Unfinished = 5
reason_code Reasons.RecordTooLong = 6
reason_code Reasons.OutOfMemory = 7

abbrev pub detail_of : Reason → ℕ
detail_of (Reasons.BadRecord fault) = record_status fault
detail_of (Reasons.NoParent kind) = letter_of kind
detail_of reason = 0

abbrev pub place_of : Reason → ℕ
place_of (Reasons.BadRecord fault) = record_place fault
place_of reason = 0

-- the record is the header of the next message
abbrev pub is_second_header : Reason → Bool
is_second_header Reasons.SecondHeader = true
is_second_header reason = false

abbrev pub nothing : LisFound
nothing = record { kind = 0; letter = 0; reason = 0; detail = 0; fields = 0; place = 0; number = 0 }

abbrev pub reported_record : RecordContent → LisFound
reported_record content = record nothing { kind = 1; letter = letter_of content.kind; fields = length content.fields }

abbrev pub reported_fault : MessageFault → LisFound
reported_fault fault =
    record nothing {
      kind = 2;
      reason = reason_code fault.reason;
      detail = detail_of fault.reason;
      place = place_of fault.reason;
      number = fault.place;
    }

-- what is said about what was found; a record whose bytes were held is the one that the reader keeps
abbrev pub ReportsFound : RecordFound → Option (Borrowed RecordContent) → LisFound → Type 0
ReportsFound founds.Nothing split out = out ≡ nothing
ReportsFound (founds.Record entry) split out = out ≡ reported_record entry.content
ReportsFound founds.Held split out = (entry : Borrowed RecordContent) → split ≡ Some entry → out
    ≡ reported_record entry.content
ReportsFound (founds.Refused fault) split out = out ≡ reported_fault fault

-- this piece was read, so many bytes of it, and what was found is reported
pub record ReadsAndReports (before after : RecordsState) (left : Option Begun) (piece : List ℕ) (count : ℕ)
    (out : LisFound) : Type 0 where
  pub following : List ℕ
  pub found : RecordFound
  pub reads : Reads before after left piece following found
  pub count_is : count ≡ length piece - length following
  pub reported : ReportsFound found after.split out

abbrev pub ReadsPiece : RecordsState → RecordsState → Option Begun → List ℕ → ℕ → LisFound → Type 0
ReadsPiece before after left bytes count out =
    ReadsAndReports before after left (take (piece_length bytes) bytes) count out

-- at the start of a stream: no message is open, nothing is held, no record was split, and no fault was met
abbrev pub new_reader : RecordsState
new_reader = record { opened = None; held = []; split = None; split_text = []; fault = None }

-- a part of the record that was read last
abbrev pub IsSplitPart : Option (Borrowed RecordContent) → (field repeat component : ℕ) → (status : ℕ)
    (before after : List ℕ) (size : ℕ) → Type 0
IsSplitPart None field repeat component status before after size =
    (status ≡ NO_RECORD) × (after ≡ before) × (size ≡ 0)
IsSplitPart (Some entry) field repeat component status before after size =
    IsPart (part_at entry.content field repeat component) status before after size

-- the text of the record that was read last is copied to the front of a buffer; if there is none, or it does not fit,
-- nothing is
abbrev pub IsSplitText : Option (Borrowed RecordContent) → (text : List ℕ) → (status : ℕ) (before after : List ℕ)
    (size : ℕ) → Type 0
IsSplitText None text status before after size = (status ≡ NO_RECORD) × (after ≡ before) × (size ≡ 0)
IsSplitText (Some entry) text status before after size = IsTextCopied text status before after size

-- the end of the stream
abbrev pub AtEnd : Result (Unit {0}) MessageFault → ℕ → LisFound → Type 0
AtEnd (Ok done) status out = (status ≡ OK) × (out ≡ nothing)
AtEnd (Err fault) status out = (status ≡ UNFINISHED) × (out ≡ reported_fault fault)
