use Rattle.std.proofs.Common.{length}
use Rattle.lis_bytes.specs.inside.Search.{Summed}
use Rattle.lis_bytes.proofs.search.lacking_sum.Given as goal

abbrev pub invariant-loop-rest : goal.invariant-loop-rest
invariant-loop-rest g l = Summed g.S.ByteSet.member l.place l.rest l.bytes l.sums

abbrev pub decreases-loop-rest : goal.decreases-loop-rest
decreases-loop-rest g l = length l.rest
