use Rattle.std.proofs.Common.{◌-◌, drop, length}
use Rattle.lis_table.specs.inside.Scan.{scanned}
use Rattle.lis_table.proofs.UnderWay.{IsAmong, IsUnderWay}
use Rattle.lis_table.proofs.table.put_from.Given as goal

abbrev pub invariant-loop-from : goal.invariant-loop-from
invariant-loop-from l =
    IsUnderWay l.delimiters (scanned l.delimiters l.fn.first (drop l.fn.first.offset l.fn.text)) l.fn.text l.fn.out
    l.begun l.from l.out l.count

abbrev pub decreases-loop-from : goal.decreases-loop-from
decreases-loop-from l = length l.text - l.from

abbrev pub invariant-loop-stops : goal.invariant-loop-stops
invariant-loop-stops l =
    IsAmong l.delimiters (scanned l.delimiters l.fn.first (drop l.fn.first.offset l.fn.text)) l.fn.text l.fn.out
    l.begun l.from l.stops l.size l.out l.count

abbrev pub decreases-loop-stops : goal.decreases-loop-stops
decreases-loop-stops l = l.stops
