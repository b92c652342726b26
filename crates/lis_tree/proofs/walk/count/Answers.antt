use Rattle.std.proofs.Common.{◌+◌, ap, length, arith}
use Rattle.lis_tree.proofs.walk.count.Goals as goal

pub loop-entry-preserved : goal.loop-entry-preserved
loop-entry-preserved c =
    let inv = c.loop-entry.invariant in
    let e = ap length c.in-Some.ensures.next in
    (inv.0 + 1, omega (arith, inv.1, c.saturating_add-number.ensures), omega (arith, inv.2, e))
