-- Which records may join the last node of a message.
use Rattle.std.specs.Prelude.{List, [], ◌∷◌, ⊤}
use Rattle.lis_record_values.specs.declared.kinds.Kind.{Kind}
use Rattle.lis_record_values.specs.declared.kinds.Kind.TheVariants as kinds
use Rattle.lis_tree.specs.Nodes.{OrderTree}
use Rattle.lis_tree.specs.Tree.{IsNote}
use Rattle.lis_tree.specs.declared.tree.Group.{Group}
use Rattle.lis_tree.specs.declared.tree.Group.TheVariants as groups

-- a result, or a note
abbrev pub JoinsOrder : Kind → Type 0
JoinsOrder kinds.R = ⊤
JoinsOrder k = IsNote k

-- an order, what may join the last of these orders, or a note where there is none
abbrev pub JoinsPatient : List OrderTree → Kind → Type 0
JoinsPatient orders kinds.O = ⊤
JoinsPatient [] k = IsNote k
JoinsPatient (o ∷ orders) k = JoinsOrder k

abbrev pub JoinsGroup : Group → Kind → Type 0
JoinsGroup (groups.Patient p) k = JoinsPatient p.below k
JoinsGroup (groups.Query q) k = IsNote k
