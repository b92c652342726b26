use Rattle.std.proofs.Common.{◌≡◌, refl, sym, ◌∙◌, false, rules, OnOk}
use Rattle.lis_link.specs.declared.sender.Phase.TheVariants.{Neutral}
use Rattle.lis_station.specs.Line.{TwoWay}
use Rattle.lis_line.specs.inside.Kept.{IsLine, line_at}
use Rattle.lis_line.proofs.LineLaws.{timed_here, timed_by_phase, timed_awaiting, line_is}
use Rattle.lis_line.proofs.line.LineOf.timer.Goals as goal

pub returns-then-is_open : goal.returns-then-is_open
returns-then-is_open g c r q near far =
    rw (← c.self.view_is)
    (timed_here g.row.N r.is_open _ _ r q c.timer.result
    (sym (c.is_open.ensures r (rw (← c.self.view_is) at near)) ∙ c.if-is_open.true)
    (rw (← c.self.view_is) at far) (search rules)
    (c.timer.ensures.step r (rw (← c.self.view_is) at near)))

pub returns-in-Neutral : goal.returns-in-Neutral
returns-in-Neutral g c r q near far =
    timed_by_phase (λ (t : TwoWay). IsLine g.row.N c.args.self.now t) g.row.N r.is_open Neutral
    (line_at c.args.self.now r q)
    (sym (c.is_open.ensures r (rw (← c.self.view_is) at near)) ∙ c.if-is_open.false) (search rules)
    (line_is g.row.N c.args.self.now r q (line_at c.args.self.now r q) near far refl)

pub returns-in-AwaitLine : goal.returns-in-AwaitLine
returns-in-AwaitLine g c r q near far =
    let closed : r.is_open ≡ false = sym (c.is_open.ensures r (rw (← c.self.view_is) at near)) ∙ c.if-is_open.false in
    timed_awaiting (λ (t : TwoWay). OnOk c.wait_no_more.result (IsLine g.row.N c.wait_no_more.new.self t)) g.row.N
    r.is_open c.phase.result (line_at c.args.self.now r q) closed (search rules) c.in-AwaitLine.is
    (c.wait_no_more.ensures r q near far closed)
