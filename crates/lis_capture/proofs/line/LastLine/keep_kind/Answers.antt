use Rattle.std.proofs.Common.{arith}
use Rattle.lis_capture.proofs.KeptLemmas.{nothing_kept}
use Rattle.lis_capture.proofs.line.LastLine.keep_kind.Goals as goal

pub invariant_of-self : goal.invariant_of-self
invariant_of-self c = (omega arith, c.self.invariant.1, c.self.invariant.2, nothing_kept c.self.inside.keeping)
