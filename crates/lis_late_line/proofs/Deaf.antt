-- A station that awaits no reply can as well hear none: what holds of the line that it hears holds of the line without
-- the replies to it. And a reply that comes while none is awaited changes its receiver alone.
use Rattle.std.proofs.Common.{◌≡◌, ℕ, Bool, true, false, ◌∷◌, length, map, Option, None, Some, refl, sym, ap}
use Rattle.std.proofs.Common.{◌∙◌, subst}
use Rattle.lis_frame.specs.declared.scanner.SignalOf.{SignalOf}
use Rattle.lis_frame.specs.declared.scanner.SignalOf.TheVariants.{Enq, Eot, Good, Bad}
use Rattle.lis_frame.specs.Limit.{IsLimit}
use Rattle.lis_frame.specs.Stream.{signal_after}
use Rattle.lis_link.specs.declared.sender.Phase.{Phase}
use Rattle.lis_link.specs.declared.sender.Phase.TheVariants.{Neutral, AwaitLine, Busy, Contention, AwaitReply}
use Rattle.lis_link.specs.declared.receiver.Note.TheVariants.{Quiet, Ended}
use Rattle.lis_link.specs.Sender.{restart_in}
use Rattle.lis_link.specs.Receiver.{ReceiverState, ReceiverStep, answers, on_byte, heard as receiver_heard, heard_by}
use Rattle.lis_world.specs.World.{World}
use Rattle.lis_world.specs.Session.{changed, follows}
use Rattle.lis_world.proofs.Base.{with_sender_same}
use Rattle.lis_world.proofs.Invariant.{Holds}
use Rattle.lis_station.specs.declared.station.Turn.{Turn}
use Rattle.lis_station.specs.Station.{StationState, awaits_reply, heard}
use Rattle.lis_station.specs.Line.{sent, answered, TwoWay, turned, units_of, with_station, followed_by, steps}
use Rattle.lis_station.specs.Line.{forgotten_out, happens, give_up, at_analyzer}
use Rattle.lis_station.proofs.Shadow.{shadow_in, shadow, InOrder, IsDeaf, HoldsOut}
use Rattle.lis_station.proofs.NearEvents.{but_sender, station_out, far_receiver_out}
use Rattle.lis_station.proofs.FarUnits.{far_sender_out}
use Rattle.lis_station.proofs.Noise.{no_reply_out}
use Rattle.lis_station.proofs.Damaged.{EndsAtMost}
use Rattle.lis_station.proofs.Both.{answers_in_units, NotContending}
use Rattle.lis_station.proofs.Events.{HoldsBoth}
use Rattle.lis_station.proofs.TwoWayLaw.{line_event_both}
use Rattle.lis_late_line.proofs.Hushed.{kept, dropped, heard_as, hushed, units_kept}

-- ---- the receiver here changes

pub near_changed :
    (limit : ℕ) (x : TwoWay) (r : ReceiverState) (turn : Turn) (asks : Bool)
    → HoldsBoth limit x
    → (r.is_open ≡ true → x.near.station.receiver.is_open ≡ true)
    → r.accepted ≡ x.near.station.receiver.accepted
    → NotContending r.readiness
    → HoldsBoth limit (record x { near = with_station (but_sender r turn asks x.near.station) x.near })
near_changed limit x r turn asks h was_open same fair = record {
  out = station_out limit x r turn asks h.out;
  back = far_receiver_out limit (turned x) r turn asks was_open same h.back;
  near_exclusive = λ e. h.near_exclusive (was_open e);
  far_exclusive = h.far_exclusive;
  near_fair = fair;
  far_fair = h.far_fair;
  near_answers = h.near_answers;
  far_answers = h.far_answers;
}

-- ---- no reply comes any more

-- the sender's state is booked already
pub booked_already : (limit : ℕ) (x : TwoWay) → HoldsOut limit x
    → changed x.near.current (follows x.near.station.sender) x.near.sessions ≡ x.near.sessions
booked_already limit x h =
    ap (λ (w : World). w.sessions) (with_sender_same limit (shadow h.lost x) h.holds.current)

module _ (limit : ℕ) (is_limit : IsLimit limit) (x : TwoWay) (h : HoldsBoth limit x) where
  gave_up : HoldsBoth limit (happens limit give_up x)
  gave_up = line_event_both limit is_limit (at_analyzer give_up) x h

  forgotten_with : HoldsOut limit (forgotten_out x) → HoldsBoth limit (forgotten_out x)
  forgotten_with out = record {
    out = out;
    back = far_sender_out limit (turned (happens limit give_up x)) (forgotten_out x).near refl refl gave_up.back;
    near_exclusive = h.near_exclusive;
    far_exclusive = h.far_exclusive;
    near_fair = h.near_fair;
    far_fair = h.far_fair;
    near_answers = h.near_answers;
    far_answers = answers_in_units (units_of x.inward);
  }

  -- a neutral sender that is given up stays as it is
  forgotten_neutral : x.near.station.sender.phase ≡ Neutral → HoldsBoth limit (forgotten_out x)
  forgotten_neutral is =
      let s : StationState = x.near.station in
      let x0 : TwoWay = forgotten_out x in
      let stays : happens limit give_up x ≡ record x0 { near = followed_by s x0.near } =
      ap (λ p. record x0 { near = followed_by (record s { sender = restart_in p s.sender }) x0.near }) is in
      let same : record x0 { near = followed_by s x0.near } ≡ x0 =
      ap (λ ss. record x0 { near = record x0.near { sessions = ss } }) (booked_already limit x h.out) in
      subst (HoldsBoth limit) (stays ∙ same) gave_up

  -- one that waits hears no reply anyway
  forgotten_waiting :
      (p : Phase)
      → x.near.station.sender.phase ≡ p
      → Holds limit (shadow_in p h.out.lost (forgotten_out x))
      → InOrder p (IsDeaf limit (forgotten_out x)) (forgotten_out x).inward
      → HoldsBoth limit (forgotten_out x)
  forgotten_waiting p is holds order = forgotten_with (record {
    lost = h.out.lost;
    lost_within = h.out.lost_within;
    holds = subst (λ q. Holds limit (shadow_in q h.out.lost (forgotten_out x))) (sym is) holds;
    lost_unheard = h.out.lost_unheard;
    lost_frames = h.out.lost_frames;
    in_order = subst (λ q. InOrder q (IsDeaf limit (forgotten_out x)) (forgotten_out x).inward) (sym is) order;
    can_ask = h.out.can_ask;
  })

  forgotten_in : (p : Phase) → x.near.station.sender.phase ≡ p → awaits_reply p ≡ false
      → HoldsBoth limit (forgotten_out x)
  forgotten_in Neutral is rests = forgotten_neutral is
  forgotten_in AwaitLine is rests = cc
  forgotten_in Busy is rests =
      forgotten_waiting Busy is (subst (λ p. Holds limit (shadow_in p h.out.lost x)) is h.out.holds) tt
  forgotten_in Contention is rests =
      forgotten_waiting Contention is (subst (λ p. Holds limit (shadow_in p h.out.lost x)) is h.out.holds) tt
  forgotten_in AwaitReply is rests = cc

  pub forgotten_both : awaits_reply x.near.station.sender.phase ≡ false → HoldsBoth limit (forgotten_out x)
  forgotten_both rests = forgotten_in x.near.station.sender.phase refl rests

-- the line without the replies to here, and without those that the units from here could cause
pub forgotten_heard : (dn df : Bool) (nt ft : ℕ) (t : TwoWay)
    → forgotten_out (heard_as dn df nt ft t) ≡ heard_as true df (length (units_of t.outward)) ft t
forgotten_heard dn df nt ft t =
    ap (λ us. record (heard_as true df (length us) ft t) { inward = map sent (units_of (kept dn t.inward)) })
    (units_kept df t.outward)
    ∙ ap (λ us. record (heard_as true df (length (units_of t.outward)) ft t) { inward = map sent us })
    (units_kept dn t.inward)

-- so a station may be deaf
pub deafened : (limit : ℕ) (is_limit : IsLimit limit) (dn df : Bool) (nt ft : ℕ) (t : TwoWay)
    → awaits_reply t.near.station.sender.phase ≡ false
    → HoldsBoth limit (heard_as dn df nt ft t)
    → HoldsBoth limit (heard_as true df (length (units_of t.outward)) ft t)
deafened limit is_limit dn df nt ft t rests h =
    subst (HoldsBoth limit) (forgotten_heard dn df nt ft t)
    (forgotten_both limit is_limit (heard_as dn df nt ft t) h rests)

-- whether it was deaf before or not
pub heard_after :
    (limit : ℕ) (is_limit : IsLimit limit) (before after df : Bool) (t : TwoWay)
    → (before ≡ true → after ≡ true)
    → (after ≡ true → awaits_reply t.near.station.sender.phase ≡ false)
    → HoldsBoth limit (hushed before df t)
    → HoldsBoth limit (hushed after df t)
heard_after limit is_limit true true df t stays rests h = h
heard_after limit is_limit true false df t stays rests h =
    let now = stays refl in
    absurd (cc)
heard_after limit is_limit false true df t stays rests h =
    deafened limit is_limit false df 0 (dropped df (units_of t.inward)) t (rests refl) h
heard_after limit is_limit false false df t stays rests h = h

-- ---- a reply while none is awaited

module _ (limit b : ℕ) (x : TwoWay) where
  abbrev pasted : ReceiverState
  pasted = record x.near.station.receiver { past = b ∷ x.near.station.receiver.past }

  -- the station after a step of its receiver
  abbrev pub left_by : ReceiverStep → TwoWay
  left_by step = record x { near = with_station (heard {limit = limit} step x.near.station).after x.near }

  end_is : (c : ℕ) (is_open : Bool)
      → steps (answered c) (heard {limit = limit} (heard_by {limit = limit} is_open Eot pasted) x.near.station) x
      ≡ left_by (heard_by {limit = limit} is_open Eot pasted)
  end_is c true = no_reply_out x.far.to_drop _
  end_is c false = no_reply_out x.far.to_drop _

  signal_is : (c : ℕ) (signal : Option (SignalOf limit)) → EndsAtMost signal
      → steps (answered c) (heard {limit = limit} (receiver_heard signal pasted) x.near.station) x
      ≡ left_by (receiver_heard signal pasted)
  signal_is c None most = no_reply_out x.far.to_drop _
  signal_is c (Some Enq) most = absurd most
  signal_is c (Some Eot) most = end_is c x.near.station.receiver.is_open
  signal_is c (Some (Good f)) most = absurd most
  signal_is c (Some (Bad fault)) most = absurd most

  pub answer_is : (c : ℕ) → EndsAtMost (signal_after limit x.near.station.receiver.past b)
      → steps (answered c) (heard {limit = limit} (on_byte limit b x.near.station.receiver) x.near.station) x
      ≡ left_by (on_byte limit b x.near.station.receiver)
  answer_is c most = signal_is c (signal_after limit x.near.station.receiver.past b) most

  module _ (h : HoldsBoth limit x) where
    quiet_holds : (step : ReceiverStep)
        → (step.after.is_open ≡ true → x.near.station.receiver.is_open ≡ true)
        → step.after.accepted ≡ x.near.station.receiver.accepted
        → NotContending step.after.readiness
        → HoldsBoth limit (left_by step)
    quiet_holds step was_open same fair =
        let after : StationState = (heard {limit = limit} step x.near.station).after in
        near_changed limit x step.after after.turn after.asks_turn h was_open same fair

    end_holds : (is_open : Bool) → HoldsBoth limit (left_by (heard_by {limit = limit} is_open Eot pasted))
    end_holds true =
        quiet_holds (answers None Ended (record pasted { is_open = false })) (λ e. absurd (cc)) refl h.near_fair
    end_holds false = quiet_holds (answers None Quiet pasted) (λ e. e) refl h.near_fair

    signal_holds : (signal : Option (SignalOf limit)) → EndsAtMost signal
        → HoldsBoth limit (left_by (receiver_heard signal pasted))
    signal_holds None most = quiet_holds (answers None Quiet pasted) (λ e. e) refl h.near_fair
    signal_holds (Some Enq) most = absurd most
    signal_holds (Some Eot) most = end_holds x.near.station.receiver.is_open
    signal_holds (Some (Good f)) most = absurd most
    signal_holds (Some (Bad fault)) most = absurd most

    pub answer_holds : EndsAtMost (signal_after limit x.near.station.receiver.past b)
        → HoldsBoth limit (left_by (on_byte limit b x.near.station.receiver))
    answer_holds most = signal_holds (signal_after limit x.near.station.receiver.past b) most
