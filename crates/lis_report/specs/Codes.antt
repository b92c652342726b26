-- The codes of the reasons for which a record is rejected, as they are printed, and the line of a rejection.
use Rattle.std.specs.Prelude.{ℕ, List, [], ◌∷◌, codes, decimal}
use Rattle.lis_record_values.specs.declared.faults.RecordFault.{RecordFault}
use Rattle.lis_record_values.specs.declared.faults.RecordFault.TheVariants as record_faults
use Rattle.lis_engine.specs.Parts.{joined}
use Rattle.lis_record_values.specs.declared.faults.MessageFault.{MessageFault}
use Rattle.lis_record_values.specs.declared.faults.Reason.{Reason}
use Rattle.lis_record_values.specs.declared.faults.Reason.TheVariants as reasons

-- a text that is no record
abbrev pub printed_record_fault : RecordFault → List ℕ
printed_record_fault record_faults.Empty = codes "G1 C1"
printed_record_fault (record_faults.UnknownKind byte) = codes "G1 C2"
printed_record_fault (record_faults.DelimiterPart part) = codes "G1 C3"
printed_record_fault (record_faults.Byte place) = codes "G1 C4"
printed_record_fault record_faults.TooLong = codes "G1 C5"
printed_record_fault record_faults.OutOfMemory = codes "G1 C6"

abbrev pub printed_reason : Reason → List ℕ
printed_reason (reasons.BadRecord fault) = printed_record_fault fault
printed_reason reasons.NotHeader = codes "G2"
printed_reason (reasons.NoParent kind) = codes "G3"
printed_reason reasons.SecondHeader = codes "G4"
printed_reason reasons.Unfinished = codes "G5"
printed_reason reasons.RecordTooLong = codes "G6"
printed_reason reasons.OutOfMemory = codes "G7"

-- `refused M P CODE`
abbrev pub refused_line : ℕ → MessageFault → List ℕ
refused_line number fault =
    joined (codes "refused " ∷ decimal number ∷ codes " " ∷ decimal fault.place ∷ codes " "
    ∷ printed_reason fault.reason ∷ codes "\n" ∷ [])
