-- A text has no fault exactly where it is a record.
use Rattle.std.proofs.Common.{◌≡◌, ◌≢◌, ℕ, List, [], ◌∷◌, Option, Some, None, option_map, refl}
use Rattle.std.specs.Prelude.{if◌then◌else◌}
use Rattle.std.specs.Option.{option_or}
use Rattle.lis_record_values.proofs.DelimiterFaults.{IsDelimiters-delimiters_of}
use Rattle.lis_record_values.proofs.FirstFaults.{option_map-none, option_or-none}
use Rattle.lis_record_values.specs.declared.kinds.Kind.{Kind}
use Rattle.lis_record_values.specs.declared.kinds.Kind.TheVariants as kinds
use Rattle.lis_record_values.specs.Delimiters.{DelimiterBytes, IsDelimiters, delimiter_fault, delimiters_of}
use Rattle.lis_record_values.specs.Kinds.{kind_of}
use Rattle.lis_record_values.specs.declared.faults.DelimiterPartFault.TheVariants.{Fault, Trailing}
use Rattle.lis_record_values.specs.declared.faults.RecordFault.TheVariants as record_faults
use Rattle.lis_record.specs.Faults.{delimiter_part_fault, header_fault, is_header_kind, is_other_kind, record_fault}
use Rattle.lis_record.specs.Faults.{record_text_fault}
use Rattle.lis_record_values.specs.Text.{trailing_byte}
use Rattle.lis_record.specs.Faultless.{IsSomeHeader, IsSomeRecord}
use Rattle.lis_record_read.specs.FrontReading.{fields_of}
use Rattle.lis_record.proofs.FaultLaws.{IsRecord-fields_of, IsRecord-header, header_fault-IsRecord}
use Rattle.lis_record.proofs.FaultLaws.{record_fault-IsRecord}

-- ---- records other than headers

-- the letter is that of another record, or it is a fault
record IsOtherLetter (k : Option Kind) : Type 0 where
  kind : Kind
  is : k ≡ Some kind
  other : kind ≢ kinds.H

other_letter :
    (k : Option Kind) (letter : ℕ)
    → (if is_other_kind k then None else Some (record_faults.UnknownKind letter)) ≡ None → IsOtherLetter k
other_letter None letter e = absurd cc
other_letter (Some kinds.H) letter e = absurd cc
other_letter (Some kinds.P) letter e = record { kind = kinds.P; is = refl; other = λ x. cc }
other_letter (Some kinds.O) letter e = record { kind = kinds.O; is = refl; other = λ x. cc }
other_letter (Some kinds.R) letter e = record { kind = kinds.R; is = refl; other = λ x. cc }
other_letter (Some kinds.C) letter e = record { kind = kinds.C; is = refl; other = λ x. cc }
other_letter (Some kinds.Q) letter e = record { kind = kinds.Q; is = refl; other = λ x. cc }
other_letter (Some kinds.M) letter e = record { kind = kinds.M; is = refl; other = λ x. cc }
other_letter (Some kinds.S) letter e = record { kind = kinds.S; is = refl; other = λ x. cc }
other_letter (Some kinds.L) letter e = record { kind = kinds.L; is = refl; other = λ x. cc }

pub record_without_fault :
    (d : DelimiterBytes) (text : List ℕ) → IsDelimiters d → record_fault d text ≡ None → IsSomeRecord d text
unfolding record_fault
record_without_fault d [] good none = cc
record_without_fault d (letter ∷ bytes) good none =
    let parts =
    option_or-none (if is_other_kind (kind_of letter) then None else Some (record_faults.UnknownKind letter))
    (option_or (option_map record_faults.UnknownKind (trailing_byte d.field bytes))
    (record_text_fault (letter ∷ bytes)))
    none in
    let both =
    option_or-none (option_map record_faults.UnknownKind (trailing_byte d.field bytes))
    (record_text_fault (letter ∷ bytes))
    parts.1 in
    let first = other_letter (kind_of letter) letter parts.0 in
    record {
      content = record { kind = first.kind; fields = fields_of d bytes };
      other = first.other;
      is_record =
          IsRecord-fields_of d good letter bytes first.kind first.is first.other
          (option_map-none record_faults.UnknownKind (trailing_byte d.field bytes) both.0) both.1;
    }

pub fault_of_record : (d : DelimiterBytes) (text : List ℕ) → IsSomeRecord d text → record_fault d text ≡ None
fault_of_record d text some = record_fault-IsRecord d text some.content some.other some.is_record

-- ---- headers

header_letter :
    (k : Option Kind) (letter : ℕ)
    → (if is_header_kind k then None else Some (record_faults.UnknownKind letter)) ≡ None → k ≡ Some kinds.H
header_letter None letter e = absurd cc
header_letter (Some kinds.H) letter e = refl
header_letter (Some kinds.P) letter e = absurd cc
header_letter (Some kinds.O) letter e = absurd cc
header_letter (Some kinds.R) letter e = absurd cc
header_letter (Some kinds.C) letter e = absurd cc
header_letter (Some kinds.Q) letter e = absurd cc
header_letter (Some kinds.M) letter e = absurd cc
header_letter (Some kinds.S) letter e = absurd cc
header_letter (Some kinds.L) letter e = absurd cc

header_parts :
    (letter : ℕ) (part : List ℕ)
    → kind_of letter ≡ Some kinds.H → delimiter_part_fault part ≡ None → record_text_fault (letter ∷ part) ≡ None
    → IsSomeHeader (letter ∷ part)
unfolding delimiter_part_fault
header_parts letter [] is none texts = cc
header_parts letter (f ∷ []) is none texts = cc
header_parts letter (f ∷ r ∷ []) is none texts = cc
header_parts letter (f ∷ r ∷ c ∷ []) is none texts = cc
header_parts letter (f ∷ r ∷ c ∷ e ∷ bytes) is none texts =
    let parts =
    option_or-none (option_map Fault (delimiter_fault (f ∷ r ∷ c ∷ e ∷ [])))
    (option_map Trailing (trailing_byte f bytes)) none in
    let marks : delimiter_fault (f ∷ r ∷ c ∷ e ∷ []) ≡ None =
    option_map-none Fault (delimiter_fault (f ∷ r ∷ c ∷ e ∷ [])) parts.0 in
    let trailing : trailing_byte f bytes ≡ None = option_map-none Trailing (trailing_byte f bytes) parts.1 in
    record {
      delimiters = delimiters_of f r c e;
      content = record { kind = kinds.H; fields = fields_of (delimiters_of f r c e) bytes };
      marks = IsDelimiters-delimiters_of f r c e marks;
      is_header = refl;
      is_record = IsRecord-header letter f r c e bytes is marks trailing texts;
    }

pub header_without_fault : (text : List ℕ) → header_fault text ≡ None → IsSomeHeader text
unfolding header_fault
header_without_fault [] none = cc
header_without_fault (letter ∷ part) none =
    let parts =
    option_or-none (if is_header_kind (kind_of letter) then None else Some (record_faults.UnknownKind letter))
    (option_or (option_map record_faults.DelimiterPart (delimiter_part_fault part)) (record_text_fault (letter ∷ part)))
    none in
    let both =
    option_or-none (option_map record_faults.DelimiterPart (delimiter_part_fault part))
    (record_text_fault (letter ∷ part))
    parts.1 in
    header_parts letter part (header_letter (kind_of letter) letter parts.0)
    (option_map-none record_faults.DelimiterPart (delimiter_part_fault part) both.0) both.1

pub fault_of_header : (text : List ℕ) → IsSomeHeader text → header_fault text ≡ None
fault_of_header text some =
    header_fault-IsRecord some.delimiters some.marks text some.content some.is_header some.is_record
