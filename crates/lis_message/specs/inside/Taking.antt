-- Why a record can't come next, as far as its letter says.
use Rattle.std.specs.Prelude.{ℕ, List, [], ◌∷◌, Bool, true, false, Option, Some, None}
use Rattle.lis_record_values.specs.declared.kinds.Kind.TheVariants as kinds
use Rattle.lis_record_values.specs.declared.faults.RecordFault.TheVariants as record_faults
use Rattle.lis_record_values.specs.declared.kinds.Kind.{Kind}
use Rattle.lis_record_values.specs.Kinds.{kind_of}
use Rattle.lis_record_values.specs.declared.faults.Reason.{Reason}
use Rattle.lis_record_values.specs.declared.faults.Reason.TheVariants as reasons

-- as far as the kind of the letter reports
abbrev pub letter_front : Bool → ℕ → Option Kind → Option Reason
letter_front begun letter None = Some (reasons.BadRecord (record_faults.UnknownKind letter))
letter_front false letter (Some kinds.H) = None
letter_front false letter (Some kind) = Some reasons.NotHeader
letter_front true letter (Some kinds.H) = Some reasons.SecondHeader
letter_front true letter (Some kind) = None

-- as far as the text's letter reports
abbrev pub front_refusal : Bool → List ℕ → Option Reason
front_refusal begun [] = Some (reasons.BadRecord record_faults.Empty)
front_refusal begun (letter ∷ bytes) = letter_front begun letter (kind_of letter)
