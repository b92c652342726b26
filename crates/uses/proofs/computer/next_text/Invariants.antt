use Rattle.lis_link.specs.Representation.{IsIn}
use Rattle.lis_link.specs.Receiver.{ReceiverState}
use Rattle.uses.proofs.ReceptionLaws.{IsSoFar}
use Rattle.uses.proofs.computer.next_text.Given as goal

-- what was done so far goes on as the receiver that is kept does
abbrev pub invariant-loop-turn : goal.invariant-loop-turn
invariant-loop-turn g l = (r : ReceiverState) → IsIn 240 l.fn.receiver r
    → IsSoFar r (g.H.Connection.event_log l.fn.host) (g.H.Connection.event_log l.host) l._turn l.receiver
