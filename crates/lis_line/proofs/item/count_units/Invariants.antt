use Rattle.std.proofs.Common.{◌≡◌, ◌≤◌, ◌+◌, ◌-◌, drop, length}
use Rattle.lis_station.specs.Line.{units_of}
use Rattle.lis_line.proofs.item.count_units.Given as goal

abbrev pub invariant-loop-item : goal.invariant-loop-item
invariant-loop-item g l =
    (l.place ≤ length l.items.items)
    × (l.count ≤ l.place)
    × (l.count + length (units_of (drop l.place l.items.items)) ≡ length (units_of l.items.items))

abbrev pub decreases-loop-item : goal.decreases-loop-item
decreases-loop-item g l = length l.items.items - l.place
