use Rattle.std.proofs.Common.{Ok, Err, sym, ◌∙◌, arith, rules}
use Rattle.lis_record_commands.proofs.RecordSteps.{closing_steps, open_steps}
use Rattle.lis_record_commands.proofs.messages.Counted.take.Goals as goal

pub returns-clause-steps : goal.returns-clause-steps
returns-clause-steps g c = λ messages left message text represented counted comes completes few few'.
    let taken = c.in_default.ensures messages left text represented comes few in
    closing_steps g.C.MessageMachine.writes (g.C.MessageMachine.represents c.record.new.self)
    (g.C.MessageMachine.represents c.message.new.self) messages left c.args.entry.now c.args.out.now c.message.new.out
    c.args.self.now.count c.saturating_add-self.result message (Ok tt) (sym c.kind.ensures ∙ c.in-L.is) completes taken
    counted (λ m whole short. c.in_ok-message.ensures.steps messages m whole counted short) few'
    (λ short. omega (arith, short, c.saturating_add-self.ensures))

pub returns-in_err-message-clause-steps : goal.returns-in_err-message-clause-steps
returns-in_err-message-clause-steps g c = λ messages left message text represented counted comes completes few few'.
    let taken = c.in_default.ensures messages left text represented comes few in
    let steps =
    closing_steps g.C.MessageMachine.writes (g.C.MessageMachine.represents c.record.new.self)
    (g.C.MessageMachine.represents c.message.new.self) messages left c.args.entry.now c.args.out.now c.message.new.out
    c.args.self.now.count c.args.self.now.count message (Err c.in_err-message.field-0.0)
    (sym c.kind.ensures ∙ c.in-L.is) completes taken counted
    (λ m whole short. c.in_err-message.ensures.steps messages m whole counted short) few' tt in
    search (rules, steps)

pub returns-in_default-kind-clause-steps : goal.returns-in_default-kind-clause-steps
returns-in_default-kind-clause-steps g c = λ messages left message text represented counted comes completes few few'.
    let taken = c.in_default.ensures messages left text represented comes few in
    open_steps g.C.MessageMachine.writes (g.C.MessageMachine.represents c.record.new.self) messages left
    c.args.entry.now message c.args.out.now c.args.self.now.count c.requires
    (λ is. c.in_default-kind.not-L (c.kind.ensures ∙ is)) completes taken counted
