-- The room after the step is at least what the receiver left.
use Rattle.lis_c.specs.Limits.{receiver_limit, spare_of}
use Rattle.lis_c.specs.Careful.{on_byte_set}
use Rattle.lis_c.proofs.StepLaws.{with_more}
use Rattle.lis_c.proofs.handle_state.ReceiverHandleState.byte.Goals as goal

pub returns-clause-spare : goal.returns-clause-spare
returns-clause-spare c r is_in =
    let old = c.args.self.now in
    with_more (spare_of old.receiver) (spare_of c.byte_set-step.new.self) (spare_of c.report.new.self.receiver)
    (on_byte_set old.careful (receiver_limit old.receiver) old.most c.args.byte r).taken
    (c.byte_set-step.ensures.spare r is_in) c.report.ensures.spare
