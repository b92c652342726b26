-- How far a walk over a message's results is from its end.
use Rattle.std.specs.Prelude.{ℕ, ◌+◌, length}
use Rattle.std.specs.List.{flat_map}
use Rattle.lis_tree.specs.Results.{ResultsLeft}
use Rattle.lis_tree.specs.Tree.{group_records, order_records}

-- the records that are left of orders and groups
abbrev pub size_left : ResultsLeft → ℕ
size_left s = length (flat_map order_records s.orders) + length (flat_map group_records s.groups)
