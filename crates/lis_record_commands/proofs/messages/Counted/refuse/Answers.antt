use Rattle.std.proofs.Common.{Ok, Err}
use Rattle.lis_record_commands.proofs.RecordSteps.{refused_at, starved_at}
use Rattle.lis_record_commands.proofs.messages.Counted.refuse.Goals as goal

pub returns-in-OutOfMemory-clause-stops : goal.returns-in-OutOfMemory-clause-stops
returns-in-OutOfMemory-clause-stops g c = λ messages left bytes text represented counted few text_is stops.
    starved_at g.C.MessageMachine.writes bytes _ text messages c.args.fault c.requires text_is stops

pub returns-in-Ok-clause-stops : goal.returns-in-Ok-clause-stops
returns-in-Ok-clause-stops g c = λ messages left bytes text represented counted few text_is stops.
    refused_at g.C.MessageMachine.writes bytes _ _ text messages c.args.fault (Ok c.in-Ok.report) text_is stops
    c.in_default.not-OutOfMemory (c.in-Ok.ensures.ends messages left represented counted few)

pub returns-in-Err-clause-stops : goal.returns-in-Err-clause-stops
returns-in-Err-clause-stops g c = λ messages left bytes text represented counted few text_is stops.
    refused_at g.C.MessageMachine.writes bytes _ _ text messages c.args.fault (Err c.in-Err.fault) text_is stops
    c.in_default.not-OutOfMemory (c.in-Err.ensures.ends messages left represented counted few)
