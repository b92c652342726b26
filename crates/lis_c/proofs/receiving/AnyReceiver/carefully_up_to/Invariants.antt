use Rattle.std.proofs.Common.{◌≡◌, ◌-◌, ◌≤◌, true, Some, length}
use Rattle.lis_link.specs.Receiver.{ReceiverState}
use Rattle.lis_careful.proofs.Receiving.{IsHearing}
use Rattle.lis_c.specs.Limits.{Receives, kept_by, receiver_limit, spare_of}
use Rattle.lis_c.specs.Careful.{on_byte_set}
use Rattle.lis_c.proofs.receiving.AnyReceiver.carefully_up_to.Given as goal

abbrev pub invariant-loop-count : goal.invariant-loop-count
invariant-loop-count l = record {
  bound : l.count ≤ length l.bytes;
  few : l.noise ≤ l.count;
  limit : receiver_limit l.self ≡ receiver_limit l.fn.self;
  heard : (r : ReceiverState) → Receives l.fn.self r →
      IsHearing (receiver_limit l.fn.self) (on_byte_set true (receiver_limit l.fn.self) (Some l.most)) l.bytes r
      (spare_of l.fn.self) l.count l.noise (kept_by l.self);
}

abbrev pub decreases-loop-count : goal.decreases-loop-count
decreases-loop-count l = length l.bytes - l.count
