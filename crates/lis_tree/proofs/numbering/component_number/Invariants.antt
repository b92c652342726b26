use Rattle.std.proofs.Common.{◌≡◌, ◌+◌, ◌^◌, ◌≤◌, drop}
use Rattle.lis_tree.specs.Numbers.{digits_from}
use Rattle.lis_tree.proofs.numbering.component_number.Given as goal

abbrev pub invariant-loop-place : goal.invariant-loop-place
invariant-loop-place l =
    (digits_from 0 l.component ≡ digits_from l.number (drop l.place l.component)) × (l.number + 1 ≤ 10 ^ l.place)
