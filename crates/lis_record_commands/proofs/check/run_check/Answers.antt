use Rattle.lis_record_commands.specs.Check.{check_writes}
use Rattle.lis_record_commands.proofs.CheckLaws.{check_status-few}
use Rattle.lis_record_commands.proofs.MessageRunLaws.{messages_status}
use Rattle.lis_record_commands.proofs.check.run_check.Goals as goal

pub returns-clause-status : goal.returns-clause-status
returns-clause-status g c =
    messages_status check_writes check_status-few c.run_messages.result c.run_messages.ensures.ran
