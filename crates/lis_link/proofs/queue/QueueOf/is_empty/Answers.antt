use Rattle.std.proofs.Common.{◌<◌, arith}
use Rattle.lis_link.proofs.QueueLaws.{length-left}
use Rattle.lis_link.proofs.queue.QueueOf.is_empty.Goals as goal

pub returns : goal.returns
returns g c =
    let texts = g.T.SessionTexts.texts c.self.inside.texts in
    let place = c.self.invariant in
    let some : 0 < g.row.N = omega (arith, place.is_limit.at_least) in
    rw (← c.self.view_is, c.count.ensures.value)
    (length-left g.row.N texts c.self.inside.index c.self.inside.offset c.self.inside.number some
    place.index_within place.offset_within)
