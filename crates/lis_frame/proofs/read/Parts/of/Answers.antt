use Rattle.std.proofs.Common.{length, ◌-◌, arith}
use Rattle.lis_frame.proofs.FrameBodyLemmas.{body_parts}
use Rattle.lis_frame.proofs.read.Parts.of.Goals as goal

pub returns-clause-parts : goal.returns-clause-parts
returns-clause-parts c =
    body_parts c.args.body.now (length c.args.body.now - 4 - 1) _ _ _ _
    (omega arith) (omega arith) (omega arith) (omega arith) (omega arith)
