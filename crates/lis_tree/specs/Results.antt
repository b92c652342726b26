-- The results of a message, each with the order and the patient that it belongs to (LIS02-A2).
use Rattle.std.specs.Prelude.{List, [], ◌∷◌, ◌++◌, map, Option, Some, None}
use Rattle.std.specs.List.{flat_map}
use Rattle.lis_record_values.specs.declared.kinds.Kind.{Kind}
use Rattle.lis_record_values.specs.declared.kinds.Kind.TheVariants as kinds
use Rattle.lis_record_values.specs.Shape.{RecordContent}
use Rattle.lis_tree.specs.Nodes.{Annotated, OrderTree, PatientTree}
use Rattle.lis_tree.specs.declared.tree.Group.{Group}
use Rattle.lis_tree.specs.declared.tree.Group.TheVariants as groups
use Rattle.lis_tree.specs.Tree.{MessageTree}

-- a result, its order and its patient, as the tree has them
pub record ResultNode : Type 0 where
  pub patient : PatientTree
  pub order : OrderTree
  pub entry : Annotated

abbrev pub under_order : PatientTree → OrderTree → List Annotated → List ResultNode
under_order p o entries = map (λ entry. record { patient = p; order = o; entry = entry }) entries

abbrev pub order_results : PatientTree → OrderTree → List ResultNode
order_results p o = under_order p o o.below

abbrev pub group_results : Group → List ResultNode
group_results (groups.Patient p) = flat_map (order_results p) p.below
group_results (groups.Query q) = []

abbrev pub results_of : MessageTree → List ResultNode
results_of m = flat_map group_results m.groups

-- ---- while they are gone over

-- what is left: of the patient's orders, of the order's results, and of the groups after
pub record ResultsLeft : Type 0 where
  pub patient : Option PatientTree
  pub order : Option OrderTree
  pub entries : List Annotated
  pub orders : List OrderTree
  pub groups : List Group

-- the results that are left of the order
abbrev pub order_left : Option PatientTree → Option OrderTree → List Annotated → List ResultNode
order_left (Some p) (Some o) entries = under_order p o entries
order_left p o entries = []

-- those of the patient's further orders
abbrev pub patient_left : Option PatientTree → List OrderTree → List ResultNode
patient_left (Some p) orders = flat_map (order_results p) orders
patient_left None orders = []

abbrev pub results_left : ResultsLeft → List ResultNode
results_left s =
    order_left s.patient s.order s.entries ++ patient_left s.patient s.orders ++ flat_map group_results s.groups

-- ---- in the standard's words

-- a result record, the last patient record before it, and the last order record before it under this one
pub record ResultRecord : Type 0 where
  pub patient : Option RecordContent
  pub order : Option RecordContent
  pub entry : RecordContent

abbrev pub patient_after : Option RecordContent → RecordContent → Kind → Option RecordContent
patient_after patient r kinds.P = Some r
patient_after patient r kinds.Q = None
patient_after patient r kind = patient

abbrev pub order_after : Option RecordContent → RecordContent → Kind → Option RecordContent
order_after order r kinds.P = None
order_after order r kinds.Q = None
order_after order r kinds.O = Some r
order_after order r kind = order

-- a result is reported, and no other record is
abbrev pub listed_results : Option RecordContent → Option RecordContent → RecordContent → Kind → List ResultRecord
listed_results patient order r kinds.R = record { patient = patient; order = order; entry = r } ∷ []
listed_results patient order r kind = []

-- the results among records that are after this patient and this order
abbrev pub results_among : Option RecordContent → Option RecordContent → List RecordContent → List ResultRecord
results_among patient order [] = []
results_among patient order (r ∷ records) =
    listed_results patient order r r.kind
    ++ results_among (patient_after patient r r.kind) (order_after order r r.kind) records

-- the records of a result in the tree
abbrev pub result_record : ResultNode → ResultRecord
result_record n = record { patient = Some n.patient.top.head; order = Some n.order.top.head; entry = n.entry.head }
