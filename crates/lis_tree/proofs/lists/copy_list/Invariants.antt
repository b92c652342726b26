use Rattle.std.proofs.Common.{◌≡◌, take}
use Rattle.lis_tree.proofs.lists.copy_list.Given as goal

abbrev pub invariant-loop-item : goal.invariant-loop-item
invariant-loop-item g l = l.list ≡ take l.item-index l.item-items
