-- The bytes of a message.
use Rattle.std.specs.Prelude.{◌≡◌, ℕ, ◌+◌, ◌-◌, ◌<◌, ◌≤◌, Bool, false, List, [], ◌∷◌, ◌++◌, length, map, take, drop}
use Rattle.std.specs.Prelude.{Option, None, Some, Result, Ok, Err}
use Rattle.std.specs.Io.KnownBytes.{Appends, Keeps}
use Rattle.std.specs.List.{AllByRecursion, flat_map}
use Rattle.lis_record_write.specs.declared.faults.WriteFault.{WriteFault}
use Rattle.lis_record_write.specs.declared.faults.WriteFault.TheVariants as write_faults
use Rattle.lis_record_values.specs.Delimiters.{DelimiterBytes}
use Rattle.lis_record_write.specs.WriteFaults.{check_fault}
use Rattle.lis_record_values.specs.Shape.{RecordContent}
use Rattle.lis_record_write.specs.Encoding.{written}
use Rattle.lis_record_write.specs.Writing.{is_io}
use Rattle.lis_message.specs.declared.fault.MessageWriteFault.{MessageWriteFault}
use Rattle.lis_bytes.specs.Capped.{capped}
use Rattle.lis_tree.specs.Tree.{MessageTree, flatten}

-- the records' encodings in order, CR after each
abbrev pub records_bytes : DelimiterBytes → List RecordContent → List ℕ
records_bytes d records = flat_map (written d) records

abbrev pub message_bytes : MessageTree → List ℕ
message_bytes message = records_bytes message.delimiters (flatten message)

-- each record can be written: its characters are text bytes, and its encoding is not too long
abbrev pub AreWritable : DelimiterBytes → List RecordContent → Type 0
AreWritable d records = AllByRecursion (λ r. check_fault d r ≡ None) records

abbrev pub IsWritable : MessageTree → Type 0
IsWritable message = AreWritable message.delimiters (flatten message)

-- ---- what is rejected

-- the first record that can't be written, by its place, counted from this one
abbrev pub refusal_from : DelimiterBytes → ℕ → List RecordContent → Option MessageWriteFault
refusal_from d place [] = None
refusal_from d place (r ∷ records) =
    elim (check_fault d r) [
      | Some fault ↦ Some (record { place = capped place; fault = fault })
      | None ↦
          refusal_from d (place + 1) records
    ]

-- why a message is not written
abbrev pub write_refusal : MessageTree → Option MessageWriteFault
write_refusal message = refusal_from message.delimiters 1 (flatten message)

-- ---- what goes out

-- the first bytes of the first of these records
abbrev pub first_bytes : DelimiterBytes → ℕ → List RecordContent → List ℕ
first_bytes d count [] = []
first_bytes d count (r ∷ records) = take count (written d r)

-- the number of bytes of the first of these records
abbrev pub first_length : DelimiterBytes → List RecordContent → ℕ
first_length d [] = 0
first_length d (r ∷ records) = length (written d r)

-- so many whole records, and then so many bytes of the next
abbrev pub front_of : DelimiterBytes → List RecordContent → ℕ → ℕ → List ℕ
front_of d records whole count = records_bytes d (take whole records) ++ first_bytes d count (drop whole records)

-- Where the sink fails, these bytes of a front went out; nothing of them is said of another fault.
abbrev pub StoppedIn : DelimiterBytes → List RecordContent → ℕ → ℕ → Option (List ℕ) → Option (List ℕ) → ℕ
    → WriteFault → Type 0
StoppedIn d records place skip old new found (write_faults.Io count) =
    (whole : ℕ) × (found ≡ capped (place + whole)) × (whole < length records)
    × (count < first_length d (drop whole records)) × (skip ≤ length (front_of d records whole count))
    × Appends old new (drop skip (front_of d records whole count))
StoppedIn d records place skip old new found fault = ⊥

-- These records, the first of which has this place, are written without the first `skip` bytes.
abbrev pub WroteRecords : DelimiterBytes → List RecordContent → ℕ → ℕ → Option (List ℕ) → Option (List ℕ)
    → Result (Unit {0}) MessageWriteFault → Type 0
WroteRecords d records place skip old new (Ok done) = Appends old new (drop skip (records_bytes d records))
WroteRecords d records place skip old new (Err fault) = StoppedIn d records place skip old new fault.place fault.fault

-- whether the sink failed
abbrev pub is_sink_fault : Result (Unit {0}) MessageWriteFault → Bool
is_sink_fault (Ok done) = false
is_sink_fault (Err fault) = is_io (Err fault.fault)

-- The records of a message from this place on are written without the first `skip` bytes, or rejected before any byte.
abbrev pub WroteMessage : MessageTree → ℕ → ℕ → Option (List ℕ) → Option (List ℕ)
    → Result (Unit {0}) MessageWriteFault → Type 0
WroteMessage message place skip old new result =
    elim (write_refusal message) [
      | None ↦ WroteRecords message.delimiters (drop (place - 1) (flatten message)) place skip old new result
      | Some fault ↦ (result ≡ Err fault) × Keeps old new
    ]

-- the texts of a message, one for each record
abbrev pub message_texts_of : MessageTree → List (List ℕ)
message_texts_of message = map (written message.delimiters) (flatten message)

-- Where the sink failed, the rest can be written from the fault's place on, unless that place is the greatest number.
abbrev pub CanResume : MessageTree → ℕ → WriteFault → Type 0
CanResume message place (write_faults.Io count) =
    place < 18446744073709551615 → (1 ≤ place) × (place ≤ length (flatten message))
    × (count ≤ first_length message.delimiters (drop (place - 1) (flatten message)))
CanResume message place fault = Unit {0}
