use Rattle.std.proofs.Common.{IsOk, rules, sym, ◌∙◌}
use Rattle.lis_line.specs.inside.Kept.{line_at}
use Rattle.lis_line.proofs.LineLaws.{line_is, not_noticed, damaged_next}
use Rattle.lis_line.proofs.line.LineOf.damage.Goals as goal

pub returns-then-not-notices : goal.returns-then-not-notices
returns-then-not-notices g c r q near far =
    line_is g.row.N c.args.self.now r q _ near far
    (not_noticed g.row.N c.args.bytes.now c.args.self.now.inward (line_at c.args.self.now r q)
    (sym (c.notices.ensures r near) ∙ c.if-not-notices.true))

pub returns : goal.returns
returns g c r q near far =
    let is_ok : IsOk c.come.result = search rules in
    damaged_next c.come.result g.row.N c.args.bytes.now c.in-Some.item c.pop_front.new.self.items c.args.self.now _
    c.come.new.self c.leave.new.self r q near far (search rules) (search rules)
    (sym (c.notices.ensures r near) ∙ c.if-not-notices.false) c.come.ensures c.leave.ensures is_ok
