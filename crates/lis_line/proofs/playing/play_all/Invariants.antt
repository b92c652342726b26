use Rattle.std.specs.VecDeque.{deque_len}
use Rattle.lis_station.specs.Line.{two_way}
use Rattle.lis_line.specs.Events.{line_events}
use Rattle.lis_line.specs.inside.Kept.{IsPlaying}
use Rattle.lis_line.proofs.playing.play_all.Given as goal

abbrev pub invariant-loop-event : goal.invariant-loop-event
invariant-loop-event g l =
    IsPlaying g.row.N l.line (line_events l.left.items) (two_way g.row.N (line_events l.fn.events))

abbrev pub decreases-loop-event : goal.decreases-loop-event
decreases-loop-event g l = deque_len l.left
