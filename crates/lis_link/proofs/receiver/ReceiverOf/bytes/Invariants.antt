use Rattle.std.proofs.Common.{◌≡◌, ◌-◌, ◌≤◌, length}
use Rattle.lis_link.specs.Receiver.{ReceiverState}
use Rattle.lis_link.specs.Representation.{IsIn, room_of}
use Rattle.lis_link.proofs.HearingLaws.{IsHearing}
use Rattle.lis_link.proofs.receiver.ReceiverOf.bytes.Given as goal

abbrev pub invariant-loop-count : goal.invariant-loop-count
invariant-loop-count g l = record {
  bound : l.count ≤ length l.bytes;
  room : room_of l.self ≡ room_of l.fn.self;
  hearing : (r : ReceiverState) → IsIn g.row.N l.fn.self r → IsHearing g.row.N l.bytes r l.fn.self.spare l.count
      l.self;
}

abbrev pub decreases-loop-count : goal.decreases-loop-count
decreases-loop-count g l = length l.bytes - l.count
