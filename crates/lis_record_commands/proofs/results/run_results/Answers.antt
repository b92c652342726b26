use Rattle.std.proofs.Common.{arith}
use Rattle.lis_record_commands.specs.Results.{results_writes}
use Rattle.lis_record_commands.proofs.MessageRunLaws.{messages_status}
use Rattle.lis_record_commands.proofs.results.run_results.Goals as goal

pub returns-clause-status : goal.returns-clause-status
returns-clause-status g c =
    messages_status results_writes (λ messages. omega arith) c.run_messages.result c.run_messages.ensures.ran
