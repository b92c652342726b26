use Rattle.std.proofs.Common.{◌≡◌, ◌-◌, ◌≤◌, length}
use Rattle.lis_link.specs.Receiver.{ReceiverState}
use Rattle.lis_link.specs.Representation.{IsIn, room_of}
use Rattle.lis_careful.specs.Careful.{on_byte_carefully}
use Rattle.lis_careful_station.proofs.Answering.{IsHearingOf}
use Rattle.lis_careful_station.proofs.station.hear_receiving.Given as goal

abbrev pub invariant-loop-count : goal.invariant-loop-count
invariant-loop-count g l = record {
  bound : l.count ≤ length l.bytes;
  few : l.noise ≤ l.count;
  room : room_of l.station.receiver ≡ room_of l.fn.station.receiver;
  hearing : (r : ReceiverState) → IsIn g.row.N l.fn.station.receiver r
      → IsHearingOf g.row.N (on_byte_carefully g.row.N) l.bytes r l.fn.station l.count l.noise l.station;
}

abbrev pub decreases-loop-count : goal.decreases-loop-count
decreases-loop-count g l = length l.bytes - l.count
