-- The record that each record of a message is under, by its index, read off the message's tree (LIS02-A2): a note is
-- under the record that it belongs to, a result under its order, an order under its patient, and any other record
-- under the header. Indexes count the records as they are written, from 0 for the header, whose own is its index.
use Rattle.std.specs.Prelude.{ℕ, ◌+◌, Bool, true, false, cond, List, [], ◌∷◌, ◌++◌, length, map}
use Rattle.lis_record_values.specs.declared.kinds.Kind.{Kind}
use Rattle.lis_record_values.specs.declared.kinds.Kind.TheVariants as kinds
use Rattle.lis_tree.specs.Nodes.{Annotated, OrderTree}
use Rattle.lis_tree.specs.declared.tree.Group.{Group}
use Rattle.lis_tree.specs.declared.tree.Group.TheVariants as groups
use Rattle.lis_tree.specs.Tree.{MessageTree, annotated_records, order_records, patient_records}

-- a record of this index, which is under that one, and its notes
abbrev pub annotated_parents : (parent index : ℕ) → Annotated → List ℕ
annotated_parents parent index n = parent ∷ map (λ note. index) n.notes

-- the results of an order, from this index on
abbrev pub result_parents : (order index : ℕ) → List Annotated → List ℕ
result_parents order index [] = []
result_parents order index (r ∷ results) =
    annotated_parents order index r ++ result_parents order (index + length (annotated_records r)) results

-- the orders of a patient, with their results
abbrev pub order_parents : (patient index : ℕ) → List OrderTree → List ℕ
order_parents patient index [] = []
order_parents patient index (o ∷ orders) =
    annotated_parents patient index o.top
    ++ result_parents index (index + length (annotated_records o.top)) o.below
    ++ order_parents patient (index + length (order_records o)) orders

-- the patients and queries
abbrev pub group_parents : (index : ℕ) → List Group → List ℕ
group_parents index [] = []
group_parents index (groups.Patient p ∷ gs) =
    annotated_parents 0 index p.top
    ++ order_parents index (index + length (annotated_records p.top)) p.below
    ++ group_parents (index + length (patient_records p)) gs
group_parents index (groups.Query q ∷ gs) =
    annotated_parents 0 index q ++ group_parents (index + length (annotated_records q)) gs

-- the records of a message, in the order in which they are written
abbrev pub tree_parents : MessageTree → List ℕ
tree_parents m =
    (0 ∷ map (λ note. 0) m.notes) ++ group_parents (1 + length m.notes) m.groups ++ 0 ∷ []

-- ---- before a message is whole

abbrev pub is_patient : Kind → Bool
is_patient kinds.P = true
is_patient kind = false

abbrev pub is_order : Kind → Bool
is_order kinds.O = true
is_order kind = false

-- comments, manufacturer's and scientific records are notes
abbrev pub is_no_note : Kind → Bool
is_no_note kinds.C = false
is_no_note kinds.M = false
is_no_note kinds.S = false
is_no_note kind = true

-- the index of the last of these kinds, counted on from a number, that passes a test; if none does, the other number
abbrev pub last_of : (Kind → Bool) → (index other : ℕ) → List Kind → ℕ
last_of test index other [] = other
last_of test index other (kind ∷ kinds) = last_of test (index + 1) (cond (test kind) index other) kinds

-- the record that one of this kind is under, after records of these kinds: a note is under the last that is no note
abbrev pub parent_after : List Kind → Kind → ℕ
parent_after before kinds.O = last_of is_patient 0 0 before
parent_after before kinds.R = last_of is_order 0 0 before
parent_after before kinds.C = last_of is_no_note 0 0 before
parent_after before kinds.M = last_of is_no_note 0 0 before
parent_after before kinds.S = last_of is_no_note 0 0 before
parent_after before kind = 0

-- the same of each of these kinds, after those before them
abbrev pub parents_after : (before kinds : List Kind) → List ℕ
parents_after before [] = []
parents_after before (kind ∷ kinds) = parent_after before kind ∷ parents_after (before ++ kind ∷ []) kinds
