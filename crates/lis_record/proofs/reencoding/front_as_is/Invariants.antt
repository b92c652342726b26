use Rattle.std.proofs.Common.{length}
use Rattle.lis_record.proofs.AsIs.{Fronted}
use Rattle.lis_record.proofs.reencoding.front_as_is.Given as goal

abbrev pub invariant-loop-place : goal.invariant-loop-place
invariant-loop-place l = Fronted l.delimiters l.text l.rest l.passed

abbrev pub decreases-loop-place : goal.decreases-loop-place
decreases-loop-place l = length l.rest
