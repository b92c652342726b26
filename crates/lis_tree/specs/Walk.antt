-- What is left of a walk over a message's records.
use Rattle.std.specs.Prelude.{List, ◌++◌, Option}
use Rattle.std.specs.List.{flat_map}
use Rattle.std.specs.Option.{option_to_list}
use Rattle.lis_record_values.specs.Shape.{RecordContent}
use Rattle.lis_tree.specs.Nodes.{Annotated, OrderTree}
use Rattle.lis_tree.specs.declared.tree.Group.{Group}
use Rattle.lis_tree.specs.Tree.{annotated_records, order_records, group_records}

-- a record, notes of the last one, results, orders, groups, and the closing record
abbrev pub walk_records : Option RecordContent → List RecordContent → List Annotated → List OrderTree → List Group
    → Option RecordContent → List RecordContent
walk_records head notes results orders groups closing =
    (option_to_list head ++ notes) ++ flat_map annotated_records results ++ flat_map order_records orders
    ++ flat_map group_records groups ++ option_to_list closing
