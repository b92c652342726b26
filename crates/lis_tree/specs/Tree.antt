-- The tree of a message, and the order in which its records are.
use Rattle.std.specs.Prelude.{◌≡◌, List, [], ◌∷◌, ◌++◌, ⊤}
use Rattle.std.specs.List.{flat_map, AllByRecursion}
use Rattle.lis_record_values.specs.declared.kinds.Kind.{Kind}
use Rattle.lis_record_values.specs.declared.kinds.Kind.TheVariants as kinds
use Rattle.lis_record_values.specs.Shape.{RecordContent, IsRecordShape}
use Rattle.lis_record_values.specs.Delimiters.{DelimiterBytes, IsDelimiters}
use Rattle.lis_tree.specs.Nodes.{Branch, Annotated, OrderTree, PatientTree}
use Rattle.lis_tree.specs.declared.tree.Group.{Group}
use Rattle.lis_tree.specs.declared.tree.Group.TheVariants as groups

-- a whole message
pub record MessageTree : Type 0 where
  pub delimiters : DelimiterBytes
  pub header : RecordContent
  pub notes : List RecordContent
  pub groups : List Group
  pub closing : RecordContent

-- a head and its notes, in order
abbrev pub annotated_records : Annotated → List RecordContent
annotated_records n = n.head ∷ n.notes

-- a record with its notes, and the records of all that is below it
abbrev pub branch_records : {A : Type 0} → (A → List RecordContent) → Branch A → List RecordContent
branch_records records_of b = annotated_records b.top ++ flat_map records_of b.below

abbrev pub order_records : OrderTree → List RecordContent
order_records = branch_records annotated_records

abbrev pub patient_records : PatientTree → List RecordContent
patient_records = branch_records order_records

abbrev pub group_records : Group → List RecordContent
group_records (groups.Patient p) = patient_records p
group_records (groups.Query q) = annotated_records q

-- the records of a message in the order in which they are written
abbrev pub flatten : MessageTree → List RecordContent
flatten m = (m.header ∷ m.notes) ++ flat_map group_records m.groups ++ m.closing ∷ []

-- a comment, a manufacturer record or a scientific record
abbrev pub IsNote : Kind → Type 0
IsNote kinds.C = ⊤
IsNote kinds.M = ⊤
IsNote kinds.S = ⊤
IsNote k = ⊥

abbrev pub AreNotes : List RecordContent → Type 0
AreNotes = AllByRecursion (λ r. IsNote r.kind)

-- each head is of the kind of its place, and each note is a note
pub record IsAnnotated (kind : Kind) (n : Annotated) : Type 0 where
  pub head : n.head.kind ≡ kind
  pub notes : AreNotes n.notes

pub record IsBranch {A : Type 0} (kind : Kind) (Is : A → Type 0) (b : Branch A) : Type 0 where
  pub top : IsAnnotated kind b.top
  pub below : AllByRecursion Is b.below

abbrev pub IsOrder : OrderTree → Type 0
IsOrder = IsBranch kinds.O (IsAnnotated kinds.R)

abbrev pub IsPatient : PatientTree → Type 0
IsPatient = IsBranch kinds.P IsOrder

abbrev pub IsGroup : Group → Type 0
IsGroup (groups.Patient p) = IsPatient p
IsGroup (groups.Query q) = IsAnnotated kinds.Q q

pub record IsTree (m : MessageTree) : Type 0 where
  pub delimiters : IsDelimiters m.delimiters
  pub header : m.header.kind ≡ kinds.H
  pub notes : AreNotes m.notes
  pub groups : AllByRecursion IsGroup m.groups
  pub closing : m.closing.kind ≡ kinds.L
  pub records : AllByRecursion IsRecordShape (flatten m)
