-- Where in an open message the next record will be, by the records below each other.
use Rattle.std.specs.Prelude.{List, [], ◌∷◌}
use Rattle.lis_tree.specs.declared.tree.Group.{Group}
use Rattle.lis_tree.specs.declared.tree.Group.TheVariants as groups
use Rattle.lis_tree.specs.Level.{Level, in_header, in_patient, in_order, in_query}
use Rattle.lis_tree.specs.Nodes.{Branch, OrderTree}

-- where the next record will be after these orders of a patient
abbrev pub orders_level : Level → List OrderTree → Level
orders_level level [] = level
orders_level level (o ∷ orders) = in_order

-- where it will be after a patient or a query
abbrev pub group_level : Group → Level
group_level (groups.Patient p) = orders_level in_patient p.below
group_level (groups.Query q) = in_query

abbrev pub groups_level : Level → List Group → Level
groups_level level [] = level
groups_level level (g ∷ groups) = groups_level (group_level g) groups

-- where it will be after all of these
abbrev pub front_level : Branch Group → Level
front_level f = groups_level in_header f.below
