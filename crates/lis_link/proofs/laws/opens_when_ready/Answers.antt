use Rattle.std.proofs.Common.{◌≡◌, ◌∷◌, ℕ, Bool, true, false, Some, refl}
use Rattle.lis_text.specs.Control.{ACK}
use Rattle.lis_frame.specs.declared.scanner.SignalOf.TheVariants.{Enq}
use Rattle.lis_frame.specs.Stream.{signal_after}
use Rattle.lis_text.specs.declared.readiness.Readiness.{Readiness}
use Rattle.lis_text.specs.declared.readiness.Readiness.TheVariants.{Ready}
use Rattle.lis_link.specs.Receiver.{ReceiverState, heard_by}
use Rattle.lis_link.proofs.laws.opens_when_ready.Goals as goal

opened :
    (limit : ℕ) (is_open : Bool) (readiness : Readiness) (r : ReceiverState) → r.readiness ≡ readiness
    → readiness ≡ Ready →
    ((heard_by {limit = limit} is_open Enq r).reply ≡ Some ACK)
    × ((heard_by {limit = limit} is_open Enq r).after.is_open ≡ true)
opened limit true readiness r e h = rw (e, h) (refl, refl)
opened limit false readiness r e h = rw (e, h) (refl, refl)

pub returns : goal.returns
unfolding signal_after
returns c = λ limit r ready. opened limit r.is_open r.readiness (record r { past = 5 ∷ r.past }) refl ready
