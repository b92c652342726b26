-- The statements of the laws.
use Rattle.std.specs.Prelude.{◌≡◌, ℕ, true, Some}
use Rattle.lis_text.specs.Control.{ENQ, ACK}
use Rattle.lis_link.specs.declared.sender.Phase.TheVariants.{Neutral}
use Rattle.lis_text.specs.declared.readiness.Readiness.TheVariants.{Ready}
use Rattle.lis_link.specs.Sender.{SenderState, on_sender_timer, sender_restarted}
use Rattle.lis_link.specs.Receiver.{ReceiverState, on_byte}

-- a restart makes a sender neutral, and so do two timers
abbrev pub ComesToRest : Type 0
ComesToRest =
    (limit : ℕ) (s : SenderState)
    → ((sender_restarted s).phase ≡ Neutral)
    × ((on_sender_timer {limit = limit} (on_sender_timer {limit = limit} s).after).after.phase ≡ Neutral)

-- a ready receiver opens the line at ENQ
abbrev pub OpensWhenReady : Type 0
OpensWhenReady =
    (limit : ℕ) (r : ReceiverState) → r.readiness ≡ Ready
    → ((on_byte limit ENQ r).reply ≡ Some ACK) × ((on_byte limit ENQ r).after.is_open ≡ true)
