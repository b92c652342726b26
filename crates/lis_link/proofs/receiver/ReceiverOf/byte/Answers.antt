-- The signal of the byte is what the line hears of it, by next to.
use Rattle.std.proofs.Common.{[], ◌∷◌, arith}
use Rattle.lis_link.specs.Receiver.{with_heard}
use Rattle.lis_link.proofs.HearingLaws.{beside}
use Rattle.lis_link.proofs.receiver.ReceiverOf.byte.Goals as goal

pub returns-clause-step : goal.returns-clause-step
returns-clause-step g c r is_in fine =
    let was = rw (← c.self.view_is) at is_in in
    let stream = was.stream_is in
    let here = beside g.row.N c.self.inside.line c.self.inside.scanner c.take.new.self _ r (c.args.byte ∷ [])
    c.self.view_is is_in (c.take.ensures.after r.past stream) in
    let heard = c.hear-step.ensures.step g.row.N c.take.new.self (with_heard (c.args.byte ∷ []) r) here fine in
    grind (arith, heard, stream)

pub returns-clause-spare : goal.returns-clause-spare
returns-clause-spare g c r is_in =
    let was = rw (← c.self.view_is) at is_in in
    let stream = was.stream_is in
    let here = beside g.row.N c.self.inside.line c.self.inside.scanner c.take.new.self _ r (c.args.byte ∷ [])
    c.self.view_is is_in (c.take.ensures.after r.past stream) in
    let spare = c.hear-step.ensures.spare g.row.N c.take.new.self (with_heard (c.args.byte ∷ []) r) here in
    grind (arith, spare, stream)
