-- A unit reaches a receiver here damaged; and a reply that comes while none is awaited.
use Rattle.std.proofs.Common.{◌≡◌, ℕ, ◌⊎◌, inl, inr, Bool, true, false, List, [], ◌∷◌, Option, None, Some, refl, sym}
use Rattle.std.proofs.Common.{ap, ◌∙◌, subst}
use Rattle.lis_frame.specs.declared.frame.FrameFault.{FrameFault}
use Rattle.lis_frame.specs.declared.scanner.SignalOf.{SignalOf}
use Rattle.lis_frame.specs.declared.scanner.SignalOf.TheVariants.{Enq, Eot, Good, Bad}
use Rattle.lis_frame.specs.Frame.{FrameContent}
use Rattle.lis_frame.specs.Limit.{IsLimit}
use Rattle.lis_frame.specs.Stream.{signal_after, signals_after, stream_with}
use Rattle.lis_link.specs.declared.receiver.Note.TheVariants.{Quiet, Ended}
use Rattle.lis_link.specs.Receiver.{ReceiverState, ReceiverStep, answers, on_byte, heard as receiver_heard, heard_by}
use Rattle.lis_world.specs.Unit.{Load, enquiry, ending, one_frame, Travelling}
use Rattle.lis_world.specs.World.{ComputerState, hears}
use Rattle.lis_world.specs.Steps.{is_noticed}
use Rattle.lis_world.proofs.Arrival.{IsSide, left_unheard, left_bad}
use Rattle.lis_world.proofs.Hearing.{at_past, hears_signals, hears-heard}
use Rattle.lis_world.proofs.Invariant.{IsLeft}
use Rattle.lis_station.specs.Station.{StationState, awaits_reply, heard}
use Rattle.lis_station.specs.Line.{Item, sent, answered, TwoWay, turned, with_station, steps, comes, left_line}
use Rattle.lis_station.proofs.Shadow.{HoldsOut}
use Rattle.lis_station.proofs.NearEvents.{far_receiver_out}
use Rattle.lis_station.proofs.Noise.{no_reply_out}
use Rattle.lis_station.proofs.Reached.{side_here, IsHeard, nothing_reached, bytes_reached}
use Rattle.lis_station.proofs.Arrived.{unit_left, quiet_signal}

-- ---- noticed damage

abbrev AsNoticed : {limit : ℕ} → Load → List (SignalOf limit) → Type 0
AsNoticed {limit} load signals =
    (signals ≡ []) ⊎ ((f : FrameContent) × (fault : FrameFault) × (load ≡ one_frame f) × (signals ≡ Bad fault ∷ []))

noticed_cases : {limit : ℕ} (load : Load) (signals : List (SignalOf limit)) → is_noticed load signals ≡ true
    → AsNoticed load signals
noticed_cases load [] e = inl refl
noticed_cases enquiry (x ∷ xs) e = cc
noticed_cases ending (x ∷ xs) e = cc
noticed_cases (one_frame f) (Bad fault ∷ []) e = inr (f, fault, refl, refl)
noticed_cases (one_frame f) (Bad fault ∷ x ∷ xs) e = cc
noticed_cases (one_frame f) (Enq ∷ xs) e = cc
noticed_cases (one_frame f) (Eot ∷ xs) e = cc
noticed_cases (one_frame f) (Good g ∷ xs) e = cc

module _ (limit s : ℕ) (load : Load) (bytes : List ℕ) (d : ComputerState) where
  abbrev past_then : List ℕ
  past_then = stream_with d.receiver.past bytes

  as_heard :
      (signals : List (SignalOf limit))
      → signals_after limit d.receiver.past bytes ≡ signals
      → hears limit s bytes d ≡ at_past past_then (hears_signals s signals d)
  as_heard signals are = hears-heard limit s bytes d ∙ ap (λ xs. at_past past_then (hears_signals s xs d)) are

  left_noticed : IsSide limit d → AsNoticed load (signals_after limit d.receiver.past bytes)
      → IsLeft limit s load d (hears limit s bytes d)
  left_noticed side (inl none) =
      subst (IsLeft limit s load d) (sym (as_heard [] none)) (left_unheard limit s load past_then d side)
  left_noticed side (inr one) =
      subst (IsLeft limit s load d) (sym (as_heard (Bad one.1 ∷ []) one.3))
      (subst (λ l. IsLeft limit s l d (at_past past_then (hears_signals {limit = limit} s (Bad one.1 ∷ []) d)))
      (sym one.2)
      (left_bad limit s one.0 one.1 past_then d side))

  shut_noticed : d.receiver.is_open ≡ false → AsNoticed load (signals_after limit d.receiver.past bytes)
      → hears limit s bytes d ≡ at_past past_then d
  shut_noticed shut (inl none) = as_heard [] none
  shut_noticed shut (inr one) =
      as_heard (Bad one.1 ∷ []) one.3
      ∙ ap (at_past past_then) (quiet_signal {limit = limit} s (Bad one.1) d shut refl)

pub arrived_damaged :
    (limit : ℕ) (is_limit : IsLimit limit) (u : Travelling) (bytes : List ℕ) (items : List Item) (t : TwoWay)
    → awaits_reply t.near.station.sender.phase ≡ false
    → is_noticed u.load (signals_after limit t.near.station.receiver.past bytes) ≡ true
    → HoldsOut limit (turned (record t { inward = sent u ∷ items }))
    → HoldsOut limit (turned (left_line (sent u) (comes limit (sent u) bytes (record t { inward = items }))))
arrived_damaged limit is_limit u bytes items t rests noticed h =
    let t0 : TwoWay = record t { inward = items } in
    let d : ComputerState = side_here t in
    let d' : ComputerState = hears limit u.session bytes d in
    let are : AsNoticed u.load (signals_after limit d.receiver.past bytes) =
    noticed_cases u.load (signals_after limit d.receiver.past bytes) noticed in
    let over : IsHeard t0 d' (comes limit (sent u) bytes t0) =
    bytes_reached limit u t0 rests bytes d t0 (nothing_reached t0) in
    subst (λ x. HoldsOut limit (turned (left_line (sent u) x))) (sym over.is)
    (unit_left limit u items t d' over.station over.asked over.receiver_is over.are_asked
    (λ shut is_frame. (stream_with d.receiver.past bytes, shut_noticed limit u.session u.load bytes d shut are)) h
    (λ side leads. left_noticed limit u.session u.load bytes d side are))

-- ---- a reply while none is awaited

abbrev pub EndsAtMost : {limit : ℕ} → Option (SignalOf limit) → Type 0
EndsAtMost None = Unit {0}
EndsAtMost (Some Enq) = ⊥
EndsAtMost (Some Eot) = Unit {0}
EndsAtMost (Some (Good f)) = ⊥
EndsAtMost (Some (Bad fault)) = ⊥

module _ (limit : ℕ) (c : ℕ) (t : TwoWay) (h : HoldsOut limit (turned t)) where
  abbrev after_step : ReceiverStep → TwoWay
  after_step step = steps (answered c) (heard {limit = limit} step t.near.station) t

  closed_at_most :
      (step : ReceiverStep)
      → after_step step ≡ record t { near = with_station (heard {limit = limit} step t.near.station).after t.near }
      → (step.after.is_open ≡ true → t.near.station.receiver.is_open ≡ true)
      → step.after.accepted ≡ t.near.station.receiver.accepted
      → HoldsOut limit (turned (after_step step))
  closed_at_most step is was_open same =
      let after : StationState = (heard {limit = limit} step t.near.station).after in
      subst (λ x. HoldsOut limit (turned x)) (sym is)
      (far_receiver_out limit (turned t) step.after after.turn after.asks_turn was_open same h)

  quiet_at : (r : ReceiverState) → (r.is_open ≡ true → t.near.station.receiver.is_open ≡ true)
      → r.accepted ≡ t.near.station.receiver.accepted
      → HoldsOut limit (turned (after_step (answers None Quiet r)))
  quiet_at r was_open same = closed_at_most (answers None Quiet r) (no_reply_out t.far.to_drop _) was_open same

  ended_at : (r : ReceiverState) → (r.is_open ≡ true → t.near.station.receiver.is_open ≡ true)
      → r.accepted ≡ t.near.station.receiver.accepted
      → HoldsOut limit (turned (after_step (answers None Ended r)))
  ended_at r was_open same = closed_at_most (answers None Ended r) (no_reply_out t.far.to_drop _) was_open same

  abbrev pasted_by : ℕ → ReceiverState
  pasted_by b = record t.near.station.receiver { past = b ∷ t.near.station.receiver.past }

  end_at : (b : ℕ) (is_open : Bool) → HoldsOut limit
      (turned (after_step (heard_by {limit = limit} is_open Eot (pasted_by b))))
  end_at b true = ended_at (record (pasted_by b) { is_open = false }) (λ e. absurd (cc)) refl
  end_at b false = quiet_at (pasted_by b) (λ e. e) refl

  signal_at : (b : ℕ) (signal : Option (SignalOf limit)) → EndsAtMost signal
      → HoldsOut limit (turned (after_step (receiver_heard signal (pasted_by b))))
  signal_at b None most = quiet_at (pasted_by b) (λ e. e) refl
  signal_at b (Some Enq) most = absurd most
  signal_at b (Some Eot) most = end_at b t.near.station.receiver.is_open
  signal_at b (Some (Good f)) most = absurd most
  signal_at b (Some (Bad fault)) most = absurd most

  pub answer_heard_back : (b : ℕ) → EndsAtMost (signal_after limit t.near.station.receiver.past b)
      → HoldsOut limit (turned (after_step (on_byte limit b t.near.station.receiver)))
  answer_heard_back b most = signal_at b (signal_after limit t.near.station.receiver.past b) most
