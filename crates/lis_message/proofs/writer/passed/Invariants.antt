use Rattle.std.proofs.Common.{◌≡◌, drop}
use Rattle.lis_message.proofs.writer.passed.Given as goal

abbrev pub invariant-loop-more : goal.invariant-loop-more
invariant-loop-more l = drop l.fn.count l.fn.walk ≡ drop l.more l.walk

abbrev pub decreases-loop-more : goal.decreases-loop-more
decreases-loop-more l = l.more
