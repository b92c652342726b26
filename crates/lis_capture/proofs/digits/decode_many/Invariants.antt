use Rattle.std.proofs.Common.{◌-◌}
use Rattle.lis_capture.proofs.DecodeLemmas.{IsReadBy}
use Rattle.lis_capture.proofs.digits.decode_many.Given as goal

-- so many bytes are read
abbrev pub invariant-loop-place : goal.invariant-loop-place
invariant-loop-place l = IsReadBy l.fn.digits l.bytes l.most l.place

abbrev pub decreases-loop-place : goal.decreases-loop-place
decreases-loop-place l = l.last - l.place
