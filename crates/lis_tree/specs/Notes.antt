-- The record that each note of a message is a note on (LIS02-A2): the last one before it that is no note.
use Rattle.std.specs.Prelude.{◌≡◌, List, [], ◌∷◌, ◌++◌, Option, Some, None, map}
use Rattle.std.specs.List.{flat_map}
use Rattle.lis_record_values.specs.Shape.{RecordContent}
use Rattle.lis_tree.specs.Nodes.{Branch, Annotated, OrderTree, PatientTree}
use Rattle.lis_tree.specs.declared.tree.Group.{Group}
use Rattle.lis_tree.specs.declared.tree.Group.TheVariants as groups
use Rattle.lis_tree.specs.Tree.{MessageTree, IsNote, AreNotes}

-- a record of a message, and the one that it is a note on
pub record Placed : Type 0 where
  pub content : RecordContent
  pub note_on : Option RecordContent

-- a record and its notes, as the tree has them
abbrev pub placed_notes : RecordContent → List RecordContent → List Placed
placed_notes head notes = record { content = head; note_on = None }
    ∷ map (λ note. record { content = note; note_on = Some head }) notes

abbrev pub placed_annotated : Annotated → List Placed
placed_annotated n = placed_notes n.head n.notes

abbrev pub placed_branch : {A : Type 0} → (A → List Placed) → Branch A → List Placed
placed_branch placed_below b = placed_annotated b.top ++ flat_map placed_below b.below

abbrev pub placed_order : OrderTree → List Placed
placed_order = placed_branch placed_annotated

abbrev pub placed_patient : PatientTree → List Placed
placed_patient = placed_branch placed_order

abbrev pub placed_group : Group → List Placed
placed_group (groups.Patient p) = placed_patient p
placed_group (groups.Query q) = placed_annotated q

-- the records of a message in the order in which they are written
abbrev pub placed : MessageTree → List Placed
placed m = placed_notes m.header m.notes ++ flat_map placed_group m.groups ++ placed_notes m.closing []

-- the last of these records that is no note
pub record IsLastHead (records : List RecordContent) (head : RecordContent) : Type 0 where
  pub before : List RecordContent
  pub notes : List RecordContent
  pub whole : records ≡ before ++ head ∷ notes
  pub is_no_note : IsNote head.kind → ⊥
  pub are_notes : AreNotes notes

-- a note is one on the last record before it that is no note; no other record is one
abbrev pub IsNoteOn : List RecordContent → RecordContent → Option RecordContent → Type 0
IsNoteOn before r (Some head) = IsNote r.kind × IsLastHead before head
IsNoteOn before r None = IsNote r.kind → ⊥
