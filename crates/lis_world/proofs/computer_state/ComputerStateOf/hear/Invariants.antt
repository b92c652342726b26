use Rattle.std.proofs.Common.{◌-◌, ◌≤◌, drop, length}
use Rattle.lis_frame.specs.Stream.{signals_after}
use Rattle.lis_link.specs.Receiver.{ReceiverState}
use Rattle.lis_link.specs.Representation.{IsIn}
use Rattle.lis_world.specs.World.{hears}
use Rattle.lis_world.specs.inside.Playing.{computer_state_at, OnlyLoad}
use Rattle.lis_world.proofs.PlayingLaws.{IsHearing}
use Rattle.lis_world.proofs.computer_state.ComputerStateOf.hear.Given as goal

abbrev pub invariant-loop-taken : goal.invariant-loop-taken
invariant-loop-taken g l =
    (l.taken ≤ length l.bytes)
    × ((r : ReceiverState)
    → IsIn g.row.N l.fn.self.receiver r
    → OnlyLoad l.unit.load (signals_after g.row.N r.past l.bytes)
    → IsHearing g.row.N l.unit.session l.unit.load l.self (drop l.taken l.bytes)
    (hears g.row.N l.unit.session l.bytes (computer_state_at l.fn.self r)))

abbrev pub decreases-loop-taken : goal.decreases-loop-taken
decreases-loop-taken g l = length l.bytes - l.taken
