use Rattle.std.proofs.Common.{IsOk, rules}
use Rattle.lis_line.proofs.LineLaws.{playing_next}
use Rattle.lis_line.proofs.playing.play_all.Goals as goal

pub loop-event-preserved : goal.loop-event-preserved
loop-event-preserved g c =
    let playing = c.loop-event.invariant in
    let is_ok : IsOk c.happen_on_line.result = search rules in
    playing_next c.happen_on_line.result g.row.N c.loop-event.line c.happen_on_line.new.self c.in-Some.event
    c.loop-event.left.items c.pop_front.new.self.items _ c.in-Some.ensures.items playing
    (c.happen_on_line.ensures playing.near playing.far playing.near_is playing.far_is) is_ok
