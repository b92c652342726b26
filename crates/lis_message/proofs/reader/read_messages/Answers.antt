use Rattle.std.proofs.Common.{subst}
use Rattle.lis_message.specs.Feeding.{ReadsWhole}
use Rattle.lis_message.proofs.ReadBack.{reads_back}
use Rattle.lis_message.proofs.reader.read_messages.Goals as goal

pub returns-clause-back : goal.returns-clause-back
returns-clause-back c = λ ms are writable e.
    reads_back ms are writable c.read_whole.result.messages c.read_whole.result.fault
    (subst (λ l. ReadsWhole l c.read_whole.result.messages c.read_whole.result.fault) e c.read_whole.ensures)
