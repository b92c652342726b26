use Rattle.std.proofs.Common.{◌≡◌, ◌-◌, ◌≤◌, length}
use Rattle.lis_link.specs.Receiver.{ReceiverState}
use Rattle.lis_c.specs.Limits.{Receives, kept_by, receiver_limit, spare_of}
use Rattle.lis_c.proofs.WithinHearing.{HasHeard}
use Rattle.lis_c.proofs.receiving.AnyReceiver.bytes_up_to.Given as goal

abbrev pub invariant-loop-count : goal.invariant-loop-count
invariant-loop-count l = record {
  bound : l.count ≤ length l.bytes;
  limit : receiver_limit l.self ≡ receiver_limit l.fn.self;
  heard : (r : ReceiverState) → Receives l.fn.self r →
      HasHeard (receiver_limit l.fn.self) l.most l.bytes r (spare_of l.fn.self) l.count (kept_by l.self);
}

abbrev pub decreases-loop-count : goal.decreases-loop-count
decreases-loop-count l = length l.bytes - l.count
