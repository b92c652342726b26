-- What follows of a limit on a text.
use Rattle.std.proofs.Common.{◌≡◌, ◌≢◌, ℕ, ◌+◌, List, [], ◌∷◌, Bool, true, false, Option, None, Some, refl, ap}
use Rattle.std.proofs.Common.{sym, ◌∙◌, subst, arith}
use Rattle.std.specs.Prelude.{◌&&◌, ◌==◌, nat_lt, if◌then◌else◌}
use Rattle.std.proofs.lemmas.Bool.Decides.{nat_tests}
use Rattle.lis_text.specs.Control.{EOT, ENQ, LF, STX}
use Rattle.lis_frame.specs.declared.frame.FrameFault.{FrameFault}
use Rattle.lis_frame.specs.declared.frame.FrameFault.TheVariants.{TooLong, Shape}
use Rattle.lis_frame.specs.declared.scanner.SignalOf.{SignalOf}
use Rattle.lis_frame.specs.declared.scanner.SignalOf.TheVariants.{Enq, Eot, Good, Bad}
use Rattle.lis_frame.specs.FrameBody.{body_fault, first_fault}
use Rattle.lis_frame.specs.Scanner.{StandsFor}
use Rattle.lis_frame.specs.Stream.{ended_body, open_body, signal_after, signal_of_fault}
use Rattle.lis_link.specs.declared.receiver.Note.TheVariants.{OutOfMemory, Quiet}
use Rattle.lis_link.specs.declared.receiver.Step.{Step}
use Rattle.lis_link.specs.Kept.{Kept}
use Rattle.lis_link.specs.Receiver.{ReceiverState, ReceiverStep, answers, heard, heard_by, on_byte}
use Rattle.lis_link.specs.Representation.{IsIn, IsStepMade, RefusesFrame}
use Rattle.lis_c.specs.Within.{is_over}

-- the line is open
pub over_open : {limit : ℕ} (most : Option ℕ) (signal : Option (SignalOf limit)) (r : ReceiverState) →
    is_over most signal r ≡ true → r.is_open ≡ true
over_open (Some most) (Some (Good frame)) r e = by r.is_open _ e
  where
    by : (is_open other : Bool) → (is_open && other) ≡ true → is_open ≡ true
    by true other e = refl
    by false other e = absurd cc
over_open most signal r e = absurd cc

-- and the byte is LF
pub over_feed : (limit : ℕ) (most : Option ℕ) (past : List ℕ) (b : ℕ) (r : ReceiverState) →
    is_over most (signal_after limit past b) r ≡ true → b ≡ LF
unfolding signal_after
over_feed limit most past b r e = by most (b == ENQ) (b == EOT) (b == LF) refl e
  where
    by : (most : Option ℕ) (enquiry ending feed : Bool) → (b == LF) ≡ feed →
        is_over {limit = limit} most
        (if enquiry then Some Enq else if ending then Some Eot else if feed then ended_body limit (open_body past)
        else None) r ≡ true →
        b ≡ LF
    by None enquiry ending feed same e = absurd cc
    by (Some most) true ending feed same e = absurd cc
    by (Some most) false true feed same e = absurd cc
    by (Some most) false false true same e = grind (arith, same, nat_tests)
    by (Some most) false false false same e = absurd cc

-- STX begins a frame, and nothing else changes
begun_is : (limit : ℕ) (r : ReceiverState) →
    on_byte limit STX r ≡ answers None Quiet (record r { past = STX ∷ r.past })
unfolding signal_after
begun_is limit r = refl

pub begun_takes : (limit : ℕ) (r : ReceiverState) → (on_byte limit STX r).taken ≡ None
begun_takes limit r = ap (λ (s : ReceiverStep). s.taken) (begun_is limit r)

pub begun : (limit : ℕ) (r : ReceiverState) (result : Step) (kept : Kept) →
    IsStepMade limit (on_byte limit STX r) result kept → IsIn limit kept (record r { past = STX ∷ r.past })
begun limit r result kept made =
    subst (λ s. IsIn limit kept s) (ap (λ (s : ReceiverStep). s.after) (begun_is limit r)) made.state

-- LF ends it at once: it is no frame
ended_signal : (limit : ℕ) (past : List ℕ) →
    (fault : FrameFault) × (signal_after limit (STX ∷ past) LF ≡ Some (Bad fault))
unfolding signal_after open_body body_fault
ended_signal limit past = by (nat_lt (limit + 5) 0) _ _ _
  where
    by : (long numbered : Bool) (forbidden : Option ℕ) (sums : Bool) →
        (fault : FrameFault) × (Some (signal_of_fault {limit = limit} []
        (first_fault long false numbered forbidden sums)) ≡ Some (Bad fault))
    by true numbered forbidden sums = (TooLong, refl)
    by false numbered forbidden sums = (Shape, refl)

-- so it is answered NAK while the line is open, and takes nothing
pub ended_is : (limit : ℕ) (r : ReceiverState) →
    (fault : FrameFault) × (on_byte limit LF (record r { past = STX ∷ r.past })
    ≡ heard_by {limit = limit} r.is_open (Bad fault) (record r { past = LF ∷ STX ∷ r.past }))
ended_is limit r =
    let ended = ended_signal limit r.past in
    (ended.0, ap (λ signal. heard {limit = limit} signal (record r { past = LF ∷ STX ∷ r.past })) ended.1)

takes_none : (limit : ℕ) (is_open : Bool) (fault : FrameFault) (r : ReceiverState) →
    (heard_by {limit = limit} is_open (Bad fault) r).taken ≡ None
takes_none limit true fault r = refl
takes_none limit false fault r = refl

pub ended_takes : (limit : ℕ) (r : ReceiverState) →
    (on_byte limit LF (record r { past = STX ∷ r.past })).taken ≡ None
ended_takes limit r =
    let ended = ended_is limit r in
    ap (λ (s : ReceiverStep). s.taken) ended.1 ∙ takes_none limit r.is_open ended.0 _

-- memory runs out for a frame that is taken alone
pub has_memory : (limit spare : ℕ) (step : ReceiverStep) (r : ReceiverState) (result : Step) (new : Kept) →
    step.taken ≡ None → (result.note ≡ OutOfMemory → RefusesFrame limit spare step r result new) →
    result.note ≢ OutOfMemory
has_memory limit spare step r result new none refuses e =
    let accepts = sym none ∙ (refuses e).would_accept in
    absurd cc

-- after LF the scanner is outside a frame, whatever came before
pub rejected : (limit : ℕ) (r : ReceiverState) (result : Step) (kept : Kept) → r.is_open ≡ true →
    IsStepMade limit (on_byte limit LF (record r { past = STX ∷ r.past })) result kept →
    IsIn limit kept (record r { past = LF ∷ r.past })
unfolding StandsFor open_body
rejected limit r result kept opened made =
    let ended = ended_is limit r in
    let after_is : (on_byte limit LF (record r { past = STX ∷ r.past })).after ≡ record r { past = LF ∷ STX ∷ r.past } =
    ap (λ (s : ReceiverStep). s.after) ended.1
    ∙ ap (λ is_open. (heard_by {limit = limit} is_open (Bad ended.0) (record r { past = LF ∷ STX ∷ r.past })).after)
    opened
    in
    let is_in = subst (λ s. IsIn limit kept s) after_is made.state in
    record {
      open_is = is_in.open_is;
      accepted_is = is_in.accepted_is;
      readiness_is = is_in.readiness_is;
      room_is = is_in.room_is;
      held_is = is_in.held_is;
      stream_is = is_in.stream_is;
    }
