use Rattle.std.proofs.Common.{◌≡◌, ◌++◌, ◌-◌, length}
use Rattle.lis_record_write.proofs.cursor.Encoding.fill.Given as goal

abbrev pub invariant-loop-self : goal.invariant-loop-self
invariant-loop-self g l =
    l.chunk ++ g.Self.Encoding.left l.self ≡ l.initial.chunk ++ g.Self.Encoding.left l.initial.self

abbrev pub decreases-loop-self : goal.decreases-loop-self
decreases-loop-self g l = 256 - length l.chunk
