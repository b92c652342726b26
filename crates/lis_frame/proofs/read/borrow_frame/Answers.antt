use Rattle.lis_frame.proofs.FrameBodyLemmas.{body_fault-long, body_fault-few}
use Rattle.lis_frame.proofs.read.borrow_frame.Goals as goal

pub returns-then-body-clause-places : goal.returns-then-body-clause-places
returns-then-body-clause-places g c = body_fault-long g.row.N c.args.body.now c.if-body.true

pub returns-in_default-clause-places : goal.returns-in_default-clause-places
returns-in_default-clause-places g c = body_fault-few g.row.N c.args.body.now c.if-body.false
    c.in_default.ensures.few
