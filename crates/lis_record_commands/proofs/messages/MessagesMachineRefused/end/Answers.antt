use Rattle.lis_record_commands.proofs.RecordSteps.{ends_by}
use Rattle.lis_record_commands.proofs.messages.MessagesMachineRefused.end.Goals as goal

pub returns-clause-ends : goal.returns-clause-ends
returns-clause-ends g c = λ past text reading few.
    ends_by c.args.out.now c.end.new.out c.finish.result c.end.result c.finish.ensures.read
    (rw c.err-fault.ensures.value at c.end.ensures.ends) reading few
