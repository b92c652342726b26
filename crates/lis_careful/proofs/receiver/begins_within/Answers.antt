use Rattle.std.proofs.Common.{sym, ap, ◌∙◌}
use Rattle.lis_frame.specs.Stream.{open_body}
use Rattle.lis_careful.specs.Careful.{begins_within}
use Rattle.lis_careful.proofs.Receiving.{within_by}
use Rattle.lis_careful.proofs.receiver.begins_within.Goals as goal

pub returns-in-2 : goal.returns-in-2
returns-in-2 g c r is_in =
    c.is_some.ensures
    ∙ within_by g.row.N c.peek.result r.past (c.peek.ensures.signal r.past (c.scanner.ensures r is_in))
    ∙ ap (begins_within (open_body r.past)) (sym c.in-2.is)
