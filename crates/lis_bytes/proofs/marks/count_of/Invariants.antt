use Rattle.std.proofs.Common.{◌==◌, length}
use Rattle.lis_bytes.specs.inside.Search.{Counted}
use Rattle.lis_bytes.proofs.marks.count_of.Given as goal

abbrev pub invariant-loop-rest : goal.invariant-loop-rest
invariant-loop-rest l = Counted (λ b. b == l.mark) l.count l.rest l.text

abbrev pub decreases-loop-rest : goal.decreases-loop-rest
decreases-loop-rest l = length l.rest
