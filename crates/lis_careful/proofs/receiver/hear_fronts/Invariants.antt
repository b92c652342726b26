use Rattle.std.proofs.Common.{◌≡◌, ◌-◌, ◌≤◌, length}
use Rattle.lis_link.specs.Receiver.{ReceiverState}
use Rattle.lis_link.specs.Representation.{IsIn, room_of}
use Rattle.lis_careful.specs.Careful.{on_byte_carefully}
use Rattle.lis_careful.proofs.Receiving.{IsHearing}
use Rattle.lis_careful.proofs.receiver.hear_fronts.Given as goal

abbrev pub invariant-loop-count : goal.invariant-loop-count
invariant-loop-count g l = record {
  bound : l.count ≤ length l.bytes;
  few : l.noise ≤ l.count;
  room : room_of l.receiver ≡ room_of l.fn.receiver;
  hearing : (r : ReceiverState) → IsIn g.row.N l.fn.receiver r
      → IsHearing g.row.N (on_byte_carefully g.row.N) l.bytes r l.fn.receiver.spare
      l.count l.noise l.receiver;
}

abbrev pub decreases-loop-count : goal.decreases-loop-count
decreases-loop-count g l = length l.bytes - l.count
