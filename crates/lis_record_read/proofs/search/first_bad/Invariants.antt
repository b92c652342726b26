use Rattle.std.proofs.Common.{length, not}
use Rattle.lis_bytes.specs.inside.Search.{Passed}
use Rattle.lis_record_values.specs.Text.{is_text_byte}
use Rattle.lis_record_read.proofs.search.first_bad.Given as goal

abbrev pub invariant-loop-rest : goal.invariant-loop-rest
invariant-loop-rest l = Passed (λ b. not (is_text_byte b)) l.place l.rest l.bytes

abbrev pub decreases-loop-rest : goal.decreases-loop-rest
decreases-loop-rest l = length l.rest
