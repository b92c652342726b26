use Rattle.std.proofs.Common.{sym, ◌∙◌}
use Rattle.lis_careful.proofs.Receiving.{ended_made, ended_refused, ended_spare}
use Rattle.lis_careful.proofs.receiver.hear_byte.Goals as goal

pub returns-then-closes-clause-step : goal.returns-then-closes-clause-step
returns-then-closes-clause-step g c r is_in fine =
    ended_made g.row.N c.args.byte r c.byte.result c.byte.new.self
    (sym (c.closes.ensures r is_in) ∙ c.if-closes.true) (c.byte.ensures.step r is_in fine)

pub returns-then-closes-clause-refused : goal.returns-then-closes-clause-refused
returns-then-closes-clause-refused g c r is_in oom =
    ended_refused g.row.N c.args.byte c.args.receiver.now.spare r _ c.byte.result c.byte.new.self _
    (sym (c.closes.ensures r is_in) ∙ c.if-closes.true) (c.byte.ensures.refused r is_in oom)

pub returns-then-closes-clause-spare : goal.returns-then-closes-clause-spare
returns-then-closes-clause-spare g c r is_in =
    ended_spare g.row.N c.args.byte c.args.receiver.now.spare c.byte.new.self.spare r
    (sym (c.closes.ensures r is_in) ∙ c.if-closes.true) (c.byte.ensures.spare r is_in)
