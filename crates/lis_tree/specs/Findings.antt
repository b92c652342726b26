-- The findings on a message's sequence numbers.
use Rattle.std.specs.Prelude.{◌≡◌, ℕ, ◌+◌, not, ◌&&◌, if◌then◌else◌, List, [], ◌∷◌, ◌++◌, length}
use Rattle.lis_record_values.specs.declared.kinds.Kind.{Kind}
use Rattle.lis_record_values.specs.Shape.{RecordContent, field_at}
use Rattle.lis_tree.specs.declared.numbering.Finding.{Finding}
use Rattle.lis_tree.specs.declared.numbering.Numbering.{Numbering}
use Rattle.lis_tree.specs.Numbers.{CountsOf, expected_number, field_number, is_number, is_numbered}
use Rattle.lis_bytes.specs.Capped.{capped}
use Rattle.lis_tree.specs.Tree.{MessageTree, flatten}

-- what is said about a record whose number is wrong
abbrev pub finding_of : List Kind → ℕ → RecordContent → Finding
finding_of earlier place r =
    record { place = capped place; kind = r.kind; expected = capped (expected_number r.kind earlier) }

-- the finding on a record, if there is one
abbrev pub finding_on : List Kind → ℕ → RecordContent → List Finding
finding_on earlier place r =
    if is_numbered r.kind && not (is_number (field_number (field_at r 2)) (capped (expected_number r.kind earlier)))
    then finding_of earlier place r ∷ [] else []

abbrev pub findings_from : List Kind → ℕ → List RecordContent → List Finding
findings_from earlier place [] = []
findings_from earlier place (r ∷ records) = finding_on earlier place r
    ++ findings_from (r.kind ∷ earlier) (place + 1) records

-- the findings on a message, in the order of its records
abbrev pub findings_of : MessageTree → List Finding
findings_of message = findings_from [] 1 (flatten message)

-- ---- while the records pass

-- the kinds of records, the nearest first, before those that came earlier
abbrev pub kinds_back : List Kind → List RecordContent → List Kind
kinds_back earlier [] = earlier
kinds_back earlier (r ∷ records) = kinds_back (r.kind ∷ earlier) records

-- These records were examined, and the next one comes after them.
pub record HasNumbered (numbering : Numbering) (records : List RecordContent) : Type 0 where
  pub counts : CountsOf (kinds_back [] records) numbering.counts
  pub counted : numbering.count ≡ capped (length records)
