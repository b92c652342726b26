use Rattle.lis_record_commands.proofs.MessageRunLaws.{messages_ran}
use Rattle.lis_record_commands.proofs.messages.run_messages.Goals as goal

pub returns-clause-ran : goal.returns-clause-ran
returns-clause-ran g c = messages_ran g.C.MessageMachine.writes _ _ c.run.result c.run.ensures.ran
