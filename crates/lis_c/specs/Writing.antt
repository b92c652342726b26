-- What C gets of the message that it writes.
use Rattle.std.specs.Prelude.{◌≡◌, ℕ, ◌⊎◌, List, [], ◌∷◌, ◌++◌, Option, None, Some, length}
use Rattle.lis_record_values.specs.Delimiters.{DelimiterBytes}
use Rattle.lis_record_values.specs.declared.kinds.Kind.{Kind}
use Rattle.lis_record_values.specs.Shape.{Components, Repeats, plain_component}
use Rattle.lis_record_write.specs.declared.faults.WriteFault.{WriteFault}
use Rattle.lis_record_write.specs.declared.faults.WriteFault.TheVariants as WriteFaults
use Rattle.lis_record_write.specs.WriteFaults.{check_fault}
use Rattle.lis_record_write.specs.Encoding.{written}
use Rattle.lis_record_values.specs.declared.faults.Reason.{Reason}
use Rattle.lis_record_values.specs.declared.faults.Reason.TheVariants as Reasons
use Rattle.lis_tree.specs.declared.position.Position.{Position}
use Rattle.lis_tree.specs.Position.{position_level}
use Rattle.lis_tree.specs.Level.{Level, outside, closed, misplaced, next_level}
use Rattle.lis_c.specs.Records.{IsTextCopied}
use Rattle.lis_c.specs.Status.{ABSENT, AddStatus, BAD_LETTER, FORBIDDEN, NO_RECORD, OK, OUT_OF_MEMORY, PUT_NOT_HEADER}
use Rattle.lis_c.specs.Status.{PUT_NO_PARENT, PUT_SECOND_HEADER, TOO_LONG, UNFINISHED}
use Rattle.lis_c.specs.declared.record_builder.Ended.{Ended}
use Rattle.lis_c.specs.declared.record_builder.Ended.TheVariants as Ends
use Rattle.lis_c.specs.declared.record_builder.RecordBuilder.{RecordBuilder}
use Rattle.lis_c.specs.declared.record_builder.PutFault.{PutFault}
use Rattle.lis_c.specs.declared.record_builder.WriterHandleState.{WriterHandleState}

-- where the next record will be: none is outside a message, as it is after the closing record
abbrev pub level_at : Option Position → Level
level_at None = outside
level_at (Some position) = position_level position

abbrev pub reopened : Level → Level
reopened closed = outside
reopened level = level

abbrev pub after_kind : Level → Kind → Level
after_kind level kind = reopened (next_level level kind)

-- the components of a repeat that isn't ended, and the repeats of a field that isn't
abbrev pub parts_so_far : Option Components → Components
parts_so_far None = []
parts_so_far (Some parts) = parts

abbrev pub repeats_so_far : Option Repeats → Repeats
repeats_so_far None = []
repeats_so_far (Some repeats) = repeats

-- the repeats of the field once these bytes are the last component of the next one
abbrev pub repeats_with : RecordBuilder → List ℕ → Repeats
repeats_with record_builder bytes =
    repeats_so_far record_builder.repeats ++ (parts_so_far record_builder.parts ++ plain_component bytes ∷ []) ∷ []

-- one more component of these bytes, one that ends a repeat, and one that ends the field
abbrev pub with_parts : RecordBuilder → List ℕ → RecordBuilder
with_parts record_builder bytes = record record_builder {
  parts = Some
      (parts_so_far record_builder.parts ++ plain_component bytes ∷ []);
}

abbrev pub with_repeat : RecordBuilder → List ℕ → RecordBuilder
with_repeat record_builder bytes = record record_builder {
  repeats = Some (repeats_with record_builder bytes);
  parts = None;
}

abbrev pub with_field : RecordBuilder → List ℕ → RecordBuilder
with_field record_builder bytes =
    record {
      entry = record {
        kind = record_builder.entry.kind;
        fields = record_builder.entry.fields ++ repeats_with record_builder bytes ∷ [];
      };
      repeats = None;
      parts = None;
    }

abbrev pub with_component : RecordBuilder → Ended → List ℕ → RecordBuilder
with_component record_builder Ends.Component bytes = with_parts record_builder bytes
with_component record_builder Ends.Repeat bytes = with_repeat record_builder bytes
with_component record_builder Ends.Field bytes = with_field record_builder bytes

-- a record is begun, or the letter is invalid
abbrev pub BeginStatus : Option Kind → WriterHandleState → ℕ → WriterHandleState → Type 0
BeginStatus None old status new = (status ≡ BAD_LETTER) × (new ≡ old)
BeginStatus (Some kind) old status new =
    (status ≡ OK)
    × (new ≡ record old {
      record_builder = Some (record { entry = record { kind = kind; fields = [] }; repeats = None; parts = None });
    })

-- a component is put to a record: there is none, or it was put, or memory ran out and the record is released
abbrev pub PartStatus : Option RecordBuilder → Ended → List ℕ → WriterHandleState → ℕ → WriterHandleState → Type 0
PartStatus None ended bytes old status new = (status ≡ NO_RECORD) × (new ≡ old)
PartStatus (Some record_builder) ended bytes old status new =
    ((status ≡ OK) × (new ≡ record old { record_builder = Some (with_component record_builder ended bytes) }))
    ⊎ ((status ≡ OUT_OF_MEMORY) × (new ≡ record old { record_builder = None }))

-- ---- why a record can't be put, the first of these

abbrev pub misplaced_status : Reason → ℕ
misplaced_status Reasons.SecondHeader = PUT_SECOND_HEADER
misplaced_status (Reasons.NoParent kind) = PUT_NO_PARENT
misplaced_status reason = PUT_NOT_HEADER

abbrev pub write_fault : WriteFault → PutFault
write_fault (WriteFaults.CharNotText number) = record { status = FORBIDDEN; field = number }
write_fault WriteFaults.TooLong = record { status = TOO_LONG; field = 0 }
write_fault (WriteFaults.Io count) = record { status = OUT_OF_MEMORY; field = 0 }

abbrev pub unwritable : Option WriteFault → Option PutFault
unwritable None = None
unwritable (Some fault) = Some (write_fault fault)

-- it can't come next, or can't be written
abbrev pub refused_at : Option Reason → Option WriteFault → Option PutFault
refused_at (Some reason) fault = Some (record { status = misplaced_status reason; field = 0 })
refused_at None fault = unwritable fault

-- it has a field that isn't ended
abbrev pub refused_with : Option Repeats → Option Components → Option PutFault → Option PutFault
refused_with (Some repeats) parts fault = Some (record { status = UNFINISHED; field = 0 })
refused_with None (Some parts) fault = Some (record { status = UNFINISHED; field = 0 })
refused_with None None fault = fault

-- there is none
abbrev pub put_fault : DelimiterBytes → Option Position → Option RecordBuilder → Option PutFault
put_fault d position None = Some (record { status = NO_RECORD; field = 0 })
put_fault d position (Some record_builder) =
    refused_with record_builder.repeats record_builder.parts
    (refused_at (misplaced (level_at position) record_builder.entry.kind) (check_fault d record_builder.entry))

-- a record that can be put after so many texts: they are as many as a session has, or it was, or memory ran out
abbrev pub PutStatus : Option PutFault → ℕ → ℕ → ℕ → Type 0
PutStatus None texts status field = AddStatus status texts × (field ≡ 0)
PutStatus (Some fault) texts status field = (status ≡ fault.status) × (field ≡ fault.field)

-- its text is after the others, and the next record will be after it
pub record IsPut (old new : WriterHandleState) : Type 0 where
  pub record_builder : RecordBuilder
  pub had : old.record_builder ≡ Some record_builder
  pub delimiters_stay : new.delimiters ≡ old.delimiters
  pub represents : level_at new.position ≡ after_kind (level_at old.position) record_builder.entry.kind
  pub none_left : new.record_builder ≡ None
  pub text : new.texts ≡ old.texts ++ written old.delimiters record_builder.entry ∷ []

-- the length of a text by its place
abbrev pub length_if_any : Option (List ℕ) → ℕ
length_if_any None = 0
length_if_any (Some text) = length text

-- a text by its place
abbrev pub IsTextAt : Option (List ℕ) → (status : ℕ) (before after : List ℕ) (size : ℕ) → Type 0
IsTextAt None status before after size = (status ≡ ABSENT) × (after ≡ before) × (size ≡ 0)
IsTextAt (Some text) status before after size = IsTextCopied text status before after size
