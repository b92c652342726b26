use Rattle.std.proofs.Common.{ap, sym, ◌∙◌}
use Rattle.lis_link.proofs.Receiving.{accepted_step}
use Rattle.lis_link.proofs.receiver.line.LineState.good.Goals as goal

pub returns-in-Accepted-clause-step : goal.returns-in-Accepted-clause-step
returns-in-Accepted-clause-step c limit scanner r is_in fine =
    accepted_step limit scanner c.args.self.now c.accept.new.self r c.args.frame.now c.in-Accepted.number
    c.accept.result is_in
    (ap (λ k. k.is_open) (sym c.self.view_is) ∙ c.if-not-self.false)
    (rw (c.number.ensures, c.text.ensures) at c.in-Accepted.ensures.value)
    (c.accept.ensures.taken fine)
