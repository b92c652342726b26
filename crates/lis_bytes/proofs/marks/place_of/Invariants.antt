use Rattle.std.proofs.Common.{◌==◌, length}
use Rattle.lis_bytes.specs.inside.Search.{Passed}
use Rattle.lis_bytes.proofs.marks.place_of.Given as goal

abbrev pub invariant-loop-rest : goal.invariant-loop-rest
invariant-loop-rest l = Passed (λ b. b == l.mark) l.place l.rest l.text

abbrev pub decreases-loop-rest : goal.decreases-loop-rest
decreases-loop-rest l = length l.rest
