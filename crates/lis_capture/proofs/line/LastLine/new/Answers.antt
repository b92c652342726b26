use Rattle.std.proofs.Common.{refl, arith}
use Rattle.lis_capture.proofs.KeptLemmas.{nothing_kept}
use Rattle.lis_capture.proofs.line.LastLine.new.Goals as goal

pub invariant_of-result : goal.invariant_of-result
invariant_of-result c = (omega arith, refl, refl, nothing_kept c.args.keeping)
