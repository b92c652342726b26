-- The definitions at record texts that are rejected, and at a stream, by computation.
use Rattle.std.proofs.Common.{◌≡◌, ◌≤◌, ℕ, [], ◌∷◌, None, Some, true, refl, sym, arith, length, append-nil}
use Rattle.std.proofs.lemmas.List.Elements.{All-from_recursion}
use Rattle.std.specs.List.{AllByRecursion}
use Rattle.lis_record_values.specs.declared.kinds.Kind.{Kind}
use Rattle.lis_record_values.specs.Relation.{IsRecord, declared_part}
use Rattle.lis_tree.specs.Tree.{MessageTree}
use Rattle.lis_record_values.specs.declared.kinds.Kind.TheVariants as kinds
use Rattle.lis_record_values.specs.declared.faults.RecordFault.TheVariants as record_faults
use Rattle.lis_record_values.specs.Delimiters.{DelimiterBytes, delimiters_of, usual as known}
use Rattle.lis_record.specs.Faults.{record_text_fault, record_fault}
use Rattle.lis_record_values.specs.Kinds.{kind_of}
use Rattle.lis_record_values.specs.Text.{is_text_byte}
use Rattle.lis_record_values.specs.declared.faults.Reason.TheVariants as reasons
use Rattle.lis_tree.proofs.DefinitionRows.{header, no_fields, patient, usual_good, with_number}
use Rattle.lis_message.specs.Stream.{IsSplit, refusal, kind_refusal}

-- | \ ^ &
usual : DelimiterBytes
usual = delimiters_of 0x7c 0x5c 0x5e 0x26

-- R|1 under a patient
result_under_a_patient :
    refusal (Some (record { delimiters = usual; records = header ∷ patient ∷ [] })) (0x52 ∷ 0x7c ∷ 0x31 ∷ [])
    ≡ Some (reasons.NoParent kinds.R)
unfolding refusal kind_refusal record_fault record_text_fault is_text_byte kind_of usual header patient with_number
result_under_a_patient = refl

-- a second header
header_twice :
    refusal (Some (record { delimiters = usual; records = header ∷ [] })) (0x48 ∷ 0x7c ∷ 0x5c ∷ 0x5e ∷ 0x26 ∷ [])
    ≡ Some reasons.SecondHeader
unfolding refusal kind_refusal kind_of
header_twice = refl

-- P|1 with no header
patient_first : refusal None (0x50 ∷ 0x7c ∷ 0x31 ∷ []) ≡ Some reasons.NotHeader
unfolding refusal kind_refusal kind_of
patient_first = refl

-- CR alone
empty_record : refusal (Some (record { delimiters = usual; records = header ∷ [] })) []
    ≡ Some (reasons.BadRecord record_faults.Empty)
unfolding refusal
empty_record = refl

-- ---- a stream

-- the text of a record without fields is its letter, and a header's the delimiters after it
bare_record : (kind : Kind) (letter : ℕ) → kind_of letter ≡ Some kind → AllByRecursion
    (λ b. is_text_byte b ≡ true) (letter ∷ declared_part known kind) → length (letter ∷ declared_part known kind) ≤
    65536
    → IsRecord known (letter ∷ declared_part known kind) (record { kind = kind; fields = [] })
bare_record kind letter is text short = record {
  letter = letter;
  fields_text = [];
  whole = sym (append-nil (letter ∷ declared_part known kind));
  kind_is = is;
  fields_are = record { parts = []; joined = refl; apart = (λ k d below. absurd (omega (arith, below))); each = tt };
  is_text = All-from_recursion (λ b. is_text_byte b ≡ true) (letter ∷ declared_part known kind) text;
  short = short;
}

header_text : IsRecord known (0x48 ∷ 0x7c ∷ 0x5c ∷ 0x5e ∷ 0x26 ∷ []) header
unfolding kind_of is_text_byte header
header_text = bare_record kinds.H 0x48 refl (refl, (refl, (refl, (refl, (refl, tt))))) (omega arith)

closing_text : IsRecord known (0x4c ∷ []) (record { kind = kinds.L; fields = [] })
unfolding kind_of is_text_byte
closing_text = bare_record kinds.L 0x4c refl (refl, tt) (omega arith)

-- a header and the closing record
shortest : MessageTree
shortest = record {
  delimiters = known;
  header = header;
  notes = [];
  groups = [];
  closing = record { kind = kinds.L; fields = [] };
}

-- H|\^& L H|\^& and P, a CR after each but the last, are a message, one that is open, and a byte that is held
split_in_three :
    IsSplit (0x48 ∷ 0x7c ∷ 0x5c ∷ 0x5e ∷ 0x26 ∷ 13 ∷ 0x4c ∷ 13 ∷ 0x48 ∷ 0x7c ∷ 0x5c ∷ 0x5e ∷ 0x26 ∷ 13 ∷ 0x50 ∷ [])
    (shortest ∷ []) (Some (record { delimiters = known; records = header ∷ [] })) (0x50 ∷ [])
unfolding shortest header
split_in_three = record {
  groups = ((0x48 ∷ 0x7c ∷ 0x5c ∷ 0x5e ∷ 0x26 ∷ []) ∷ (0x4c ∷ []) ∷ []) ∷ [];
  texts = (0x48 ∷ 0x7c ∷ 0x5c ∷ 0x5e ∷ 0x26 ∷ []) ∷ [];
  whole = refl;
  read = (
    record {
      tree = record {
        delimiters = usual_good;
        header = refl;
        notes = tt;
        groups = tt;
        closing = refl;
        records = (no_fields kinds.H, (no_fields kinds.L, tt));
      };
      each = (header_text, (closing_text, tt));
    },
    tt,
  );
  begun = record {
    delimiters = usual_good;
    some = (λ e. cc);
    each = (header_text, tt);
    placed = (refl, tt);
    unclosed = (λ e. cc);
  };
  lacks = ((λ e. cc), tt);
  short = omega arith;
}

-- a CR is not held
return_is_not_held : IsSplit (13 ∷ []) [] None (13 ∷ []) → ⊥
return_is_not_held split = split.lacks.0 refl
