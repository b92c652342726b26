-- What a record text makes of what is left of a stream.
use Rattle.std.specs.Prelude.{◌≡◌, ◌≢◌, ℕ, List, [], ◌∷◌, ◌++◌, Option, Some, None}
use Rattle.lis_record_values.specs.declared.kinds.Kind.TheVariants as kinds
use Rattle.lis_record_values.specs.Delimiters.{DelimiterBytes, IsDelimiters}
use Rattle.lis_record_values.specs.declared.kinds.Kind.{Kind}
use Rattle.lis_record.specs.Borrowed.{Borrowed}
use Rattle.lis_record_values.specs.Relation.{IsRecord}
use Rattle.lis_record_values.specs.Shape.{RecordContent}
use Rattle.lis_tree.specs.Begun.{Begun, level_of}
use Rattle.lis_tree.specs.Level.{misplaced}
use Rattle.lis_tree.specs.Tree.{MessageTree, IsTree, flatten}

-- a message with these records
abbrev pub begun_with : DelimiterBytes → List RecordContent → Option Begun
begun_with d rs = Some (record { delimiters = d; records = rs })

-- This text comes next, as this record: outside a message as a header under the delimiters that it declares, and in one
-- under its delimiters where such a record may be.
pub data ComesNext (left : Option Begun) (text : List ℕ) (entry : Borrowed RecordContent) : Type 0 where
  header : left ≡ None → IsDelimiters entry.delimiters → IsRecord entry.delimiters text entry.content
      → entry.content.kind ≡ kinds.H
      → ComesNext left text entry
  inner : (begun : Begun) → left ≡ Some begun → entry.delimiters ≡ begun.delimiters
      → IsRecord entry.delimiters text entry.content
      → misplaced (level_of (Some begun)) entry.content.kind ≡ None → ComesNext left text entry

-- the records of an open message
abbrev pub records_of : Option Begun → List RecordContent
records_of None = []
records_of (Some begun) = begun.records

-- what is left after a record of this kind: nothing after the closing one
abbrev pub left_after : Option Begun → Borrowed RecordContent → Kind → Option Begun
left_after left entry kinds.L = None
left_after left entry kind = begun_with entry.delimiters (records_of left ++ entry.content ∷ [])

-- The closing record completes the message of all these records, and no other record does.
abbrev pub Completes : Option Begun → Borrowed RecordContent → Option MessageTree → Type 0
Completes left entry None = entry.content.kind ≢ kinds.L
Completes left entry (Some m) =
    (entry.content.kind ≡ kinds.L) × IsTree m × (m.delimiters ≡ entry.delimiters)
    × (flatten m ≡ records_of left ++ entry.content ∷ [])
