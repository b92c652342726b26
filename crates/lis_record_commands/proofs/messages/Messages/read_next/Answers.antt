use Rattle.lis_message.proofs.RecordLaws.{split_reported}
use Rattle.lis_record_commands.proofs.RecordSteps.{held_advances, record_advances, record_stops, refused_stops}
use Rattle.lis_record_commands.proofs.messages.Messages.read_next.Goals as goal

pub returns-in-Nothing-clause-ok : goal.returns-in-Nothing-clause-ok
returns-in-Nothing-clause-ok g c =
    held_advances c.requires.working (λ left has. rw c.in-Nothing.is at (c.read-found.ensures.read left has))

pub returns-in-Refused-clause-err : goal.returns-in-Refused-clause-err
returns-in-Refused-clause-err g c =
    refused_stops c.refuse.ensures.stops (λ left has. rw c.in-Refused.is at (c.read-found.ensures.read left has))

pub returns-in-Ok-clause-ok : goal.returns-in-Ok-clause-ok
returns-in-Ok-clause-ok g c =
    record_advances g.C.MessageMachine.writes (g.C.MessageMachine.represents c.args.self.now.counted.command)
    (g.C.MessageMachine.represents c.take.new.self.command) c.args.self.now.reader c.read-found.new.self _ _ _ _ _ _ _
    (λ left has. (rw c.in-Record.is at (c.read-found.ensures.read left has)).1) c.in-Ok.ensures.steps

pub returns-in-Err-clause-err : goal.returns-in-Err-clause-err
returns-in-Err-clause-err g c =
    record_stops g.C.MessageMachine.writes (g.C.MessageMachine.represents c.args.self.now.counted.command)
    (g.C.MessageMachine.represents c.take.new.self.command) c.args.self.now.reader c.read-found.new.self _
    c.take.new.self.count _ _ _ _ _
    (λ left has. (rw c.in-Record.is at (c.read-found.ensures.read left has)).1) c.in-Err.fault c.in-Err.ensures.steps

pub returns-in-Ok-take-clause-ok : goal.returns-in-Ok-take-clause-ok
returns-in-Ok-take-clause-ok g c =
    record_advances g.C.MessageMachine.writes (g.C.MessageMachine.represents c.args.self.now.counted.command)
    (g.C.MessageMachine.represents c.take-in-Held.new.self.command) c.args.self.now.reader c.read-found.new.self
    _ _ _ _ _ _ _
    (λ left has. split_reported c.args.self.now.reader c.read-found.new.self left c.args.bytes.now
    c.read-found.result.0.now c.in-Some.entry (rw c.in-Held.is at (c.read-found.ensures.read left has))
    c.in-Some.ensures)
    c.in-Ok-take.ensures.steps

pub returns-in-Err-take-clause-err : goal.returns-in-Err-take-clause-err
returns-in-Err-take-clause-err g c =
    record_stops g.C.MessageMachine.writes (g.C.MessageMachine.represents c.args.self.now.counted.command)
    (g.C.MessageMachine.represents c.take-in-Held.new.self.command) c.args.self.now.reader c.read-found.new.self _
    c.take-in-Held.new.self.count _ _ _ _ _
    (λ left has. split_reported c.args.self.now.reader c.read-found.new.self left c.args.bytes.now
    c.read-found.result.0.now c.in-Some.entry (rw c.in-Held.is at (c.read-found.ensures.read left has))
    c.in-Some.ensures)
    c.in-Err-take.fault c.in-Err-take.ensures.steps
