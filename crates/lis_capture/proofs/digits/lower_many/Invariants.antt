use Rattle.std.proofs.Common.{◌-◌}
use Rattle.lis_capture.proofs.LowerLemmas.{IsLowered}
use Rattle.lis_capture.proofs.digits.lower_many.Given as goal

-- so many digits are written
abbrev pub invariant-loop-place : goal.invariant-loop-place
invariant-loop-place l = IsLowered l.fn.digits l.lowered l.far l.place

abbrev pub decreases-loop-place : goal.decreases-loop-place
decreases-loop-place l = l.last - l.place
