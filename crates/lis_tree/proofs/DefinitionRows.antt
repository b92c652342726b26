-- The definitions at records whose place in a message is known from outside, by computation.
use Rattle.std.proofs.Common.{◌≡◌, List, [], ◌∷◌, Some, refl, arith}
use Rattle.lis_record_values.specs.declared.kinds.Kind.{Kind}
use Rattle.lis_record_values.specs.declared.kinds.Kind.TheVariants as kinds
use Rattle.lis_record_values.specs.declared.symbols.Sym.TheVariants.{Char}
use Rattle.lis_record_values.specs.Delimiters.{IsDelimiters, is_punctuation, usual}
use Rattle.lis_record_values.specs.Shape.{IsRecordShape, Symbols, RecordContent}
use Rattle.lis_record_values.specs.declared.faults.Reason.TheVariants as reasons
use Rattle.lis_tree.specs.Findings.{findings_from}
use Rattle.lis_tree.specs.Level.{outside, closed, kinds_of, level_after, misplaced}
use Rattle.lis_tree.specs.Nodes.{Annotated}
use Rattle.lis_tree.specs.Tree.{IsTree, MessageTree, flatten}
use Rattle.lis_tree.specs.declared.tree.Group.{Group}
use Rattle.lis_tree.specs.declared.tree.Group.TheVariants as groups

-- a record with one field, of these symbols
unfoldable pub with_number : Kind → Symbols → RecordContent
with_number kind number = record { kind = kind; fields = ((number ∷ []) ∷ []) ∷ [] }

unfoldable pub header : RecordContent
header = record { kind = kinds.H; fields = [] }

unfoldable pub patient : RecordContent
patient = with_number kinds.P (Char 0x31 ∷ [])

-- H P O R C L is a whole message
whole_message_is_closed : level_after outside (kinds.H ∷ kinds.P ∷ kinds.O ∷ kinds.R ∷ kinds.C ∷ kinds.L ∷ []) ≡ closed
whole_message_is_closed = refl

-- a seventh record, L again
second_closing : misplaced (level_after outside (kinds.H ∷ kinds.P ∷ kinds.O ∷ kinds.R ∷ kinds.C ∷ kinds.L ∷ []))
    kinds.L ≡ Some reasons.NotHeader
second_closing = refl

-- the order should have number 1; with 2 it is found, with 01 it isn't
order_with_number_two :
    findings_from [] 1 (header ∷ patient ∷ with_number kinds.O (Char 0x32 ∷ []) ∷ [])
    ≡ record { place = 3; kind = kinds.O; expected = 1 } ∷ []
unfolding header patient with_number
order_with_number_two = refl

order_with_a_leading_zero : findings_from [] 1
    (header ∷ patient ∷ with_number kinds.O (Char 0x30 ∷ Char 0x31 ∷ []) ∷ []) ≡ []
unfolding header patient with_number
order_with_a_leading_zero = refl

-- ---- trees

-- no fields are as they may be
pub no_fields : (kind : Kind) → IsRecordShape (record { kind = kind; fields = [] })
no_fields kind k d below = absurd (omega (arith, below))

-- a record without fields and notes
unfoldable pub bare : Kind → Annotated
bare kind = record { head = record { kind = kind; fields = [] }; notes = [] }

-- | \ ^ & are delimiters
pub usual_good : IsDelimiters usual
unfolding is_punctuation
usual_good = record {
  field_is = refl;
  repeat_is = refl;
  component_is = refl;
  escape_is = refl;
  field_repeat = (λ e. let no : ⊥ = omega (arith, e) in no);
  field_component = (λ e. let no : ⊥ = omega (arith, e) in no);
  field_escape = (λ e. let no : ⊥ = omega (arith, e) in no);
  repeat_component = (λ e. let no : ⊥ = omega (arith, e) in no);
  repeat_escape = (λ e. let no : ⊥ = omega (arith, e) in no);
  component_escape = (λ e. let no : ⊥ = omega (arith, e) in no);
}

-- a message of a header, this patient or query, and the closing record
unfoldable pub message_with : List Group → MessageTree
message_with groups = record {
  delimiters = usual;
  header = record { kind = kinds.H; fields = [] };
  notes = [];
  groups = groups;
  closing = record { kind = kinds.L; fields = [] };
}

-- a patient with one order, whose one result has a comment
unfoldable pub whole_patient : Group
whole_patient = groups.Patient (record {
  top = bare kinds.P;
  below = record {
    top = bare kinds.O;
    below = record { head = (bare kinds.R).head; notes = (bare kinds.C).head ∷ [] } ∷ [];
  } ∷ [];
})

-- its records are H P O R C L
whole_flattened : kinds_of (flatten (message_with (whole_patient ∷ [])))
    ≡ kinds.H ∷ kinds.P ∷ kinds.O ∷ kinds.R ∷ kinds.C ∷ kinds.L ∷ []
unfolding message_with whole_patient bare
whole_flattened = refl

whole_is_tree : IsTree (message_with (whole_patient ∷ []))
unfolding message_with whole_patient bare
whole_is_tree = record {
  delimiters = usual_good;
  header = refl;
  notes = tt;
  groups = (
    record {
      top = record { head = refl; notes = tt };
      below = (
        record {
          top = record { head = refl; notes = tt };
          below = (record { head = refl; notes = (tt, tt) }, tt);
        },
        tt,
      );
    },
    tt,
  );
  closing = refl;
  records = (
    no_fields kinds.H,
    (
      no_fields kinds.P,
      (
        no_fields kinds.O,
        (
          no_fields kinds.R,
          (no_fields kinds.C, (no_fields kinds.L, tt)),
        ),
      ),
    ),
  );
}

-- a query whose record is a patient's is invalid, and a result is no note on a patient
patient_is_no_query : IsTree (message_with (groups.Query (bare kinds.P) ∷ [])) → ⊥
unfolding message_with bare
patient_is_no_query is = let same : kinds.P ≡ kinds.Q = is.groups.0.head in cc

result_is_no_note : IsTree (message_with (groups.Patient (record {
  top = record { head = (bare kinds.P).head; notes = (bare kinds.R).head ∷ [] };
  below = [];
}) ∷ [])) → ⊥
unfolding message_with bare
result_is_no_note is = is.groups.0.top.notes.0
