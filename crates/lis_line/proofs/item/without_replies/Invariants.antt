use Rattle.std.proofs.Common.{◌≡◌, ◌++◌, map}
use Rattle.std.specs.VecDeque.{deque_len}
use Rattle.lis_station.specs.Line.{units_of, sent}
use Rattle.lis_line.proofs.item.without_replies.Given as goal

abbrev pub invariant-loop-item : goal.invariant-loop-item
invariant-loop-item g l =
    l.units.items ++ map sent (units_of l.items.items) ≡ map sent (units_of l.fn.items.items)

abbrev pub decreases-loop-item : goal.decreases-loop-item
decreases-loop-item g l = deque_len l.items
