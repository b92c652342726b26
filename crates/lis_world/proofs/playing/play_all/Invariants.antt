use Rattle.std.specs.VecDeque.{deque_len}
use Rattle.lis_world.specs.World.{new_world}
use Rattle.lis_world.specs.inside.Playing.{IsPlaying, run_by}
use Rattle.lis_world.proofs.playing.play_all.Given as goal

abbrev pub invariant-loop-event : goal.invariant-loop-event
invariant-loop-event g l =
    IsPlaying g.E.Happening.after g.row.N l.run l.left.items
    (run_by g.E.Happening.after l.fn.events new_world)

abbrev pub decreases-loop-event : goal.decreases-loop-event
decreases-loop-event g l = deque_len l.left
