-- What happens at this end but for what comes: its timer, its restarts, its receiver.
use Rattle.std.proofs.Common.{◌≡◌, ℕ, ◌+◌, ◌-◌, Bool, true, false, List, [], ◌∷◌, ◌++◌, length, drop, map}
use Rattle.std.proofs.Common.{refl, sym, ap, ◌∙◌, subst, arith}
use Rattle.std.proofs.lemmas.List.{length-drop, length_push}
use Rattle.lis_link.specs.declared.sender.Phase.{Phase}
use Rattle.lis_link.specs.declared.sender.Phase.TheVariants.{Neutral, AwaitLine, Busy, Contention, AwaitReply}
use Rattle.lis_link.specs.declared.sender.Outcome.TheVariants.{TimedOut, Restarted}
use Rattle.lis_link.specs.Sender.{SenderState, finished_with, timer_in, restart_in, on_sender_timer, started}
use Rattle.lis_link.specs.Receiver.{ReceiverState}
use Rattle.lis_world.specs.Unit.{enquiry, ending, Travelling}
use Rattle.lis_world.specs.World.{World}
use Rattle.lis_world.specs.Steps.{forgotten, with_sender as world_with_sender, put_on_link}
use Rattle.lis_world.proofs.Invariant.{Holds}
use Rattle.lis_world.proofs.Base.{base_of, base_forgotten}
use Rattle.lis_world.proofs.Sending.{ended_holds}
use Rattle.lis_world.proofs.Replies.{can_follow}
use Rattle.lis_world.proofs.Timers.{all_dropped, sender_timer_holds, restart_holds, no_more_open_holds}
use Rattle.lis_world.proofs.Safety.{safe_from_holds}
use Rattle.lis_station.specs.declared.station.Turn.{Turn}
use Rattle.lis_station.specs.Station.{StationState, timed_by, session_given_up, station_restarted}
use Rattle.lis_station.specs.Line.{sent, TwoWay, units_of, texts_of, with_station, with_session}
use Rattle.lis_station.specs.inside.Line.{answers_of}
use Rattle.lis_station.specs.Line.{followed_by}
use Rattle.lis_station.specs.Line.{put_out, forgotten_out, asks_anew, waits_no_more, sender_went, sender_timed, timed}
use Rattle.lis_station.specs.Line.{AreSafe}
use Rattle.lis_station.proofs.Shadow.{shadow_in, shadow, NoEnquiry, InOrder, IsDeaf, CanAsk, AsksWith, HoldsOut}
use Rattle.lis_station.proofs.Directions.{no_answers, units_more, lost_more, units_of-append, begun_out, order_map}

-- each session of a direction that holds is safe
pub safe_out : (limit : ℕ) (t : TwoWay) → HoldsOut limit t → AreSafe limit t.near.sessions
safe_out limit t h = safe_from_holds limit (shadow h.lost t) h.holds

-- all of this station but its sender is of no account
abbrev pub but_sender : ReceiverState → Turn → Bool → StationState → StationState
but_sender r turn asks s = record s { receiver = r; turn = turn; asks_turn = asks }

pub station_out : (limit : ℕ) (t : TwoWay) (r : ReceiverState) (turn : Turn) (asks : Bool) → HoldsOut limit t
    → HoldsOut limit (record t { near = with_station (but_sender r turn asks t.near.station) t.near })
station_out limit t r turn asks h = record {
  lost = h.lost;
  lost_within = h.lost_within;
  holds = h.holds;
  lost_unheard = h.lost_unheard;
  lost_frames = h.lost_frames;
  in_order = h.in_order;
  can_ask = h.can_ask;
}

-- the world once nothing that was sent is answered any more
module _ (t : TwoWay) (lost : ℕ) (w : World) where
  pub rests : World
  rests = record w {
    replies = answers_of (map sent (units_of t.inward));
    to_drop = length (units_of t.outward) - lost;
  }

  pub forgotten_rests : w.units ≡ drop lost (units_of t.outward) → forgotten w ≡ rests
  unfolding rests
  forgotten_rests units_are =
      let fewer : length w.units ≡ length (units_of t.outward) - lost =
      ap length units_are ∙ length-drop lost (units_of t.outward) in
      ap (λ m. record w { replies = []; to_drop = m }) fewer
      ∙ ap (λ bs. record w { replies = bs; to_drop = length (units_of t.outward) - lost })
      (sym (no_answers (units_of t.inward)))

-- a sender that waits asks again
asks_from :
    (limit : ℕ) (t : TwoWay) (h : HoldsOut limit t) (phase : Phase)
    → Holds limit (shadow_in Busy h.lost t)
    → AsksWith limit phase t.near.station.sender t.near.current t.near.sessions
    → (on_sender_timer {limit = limit} (record (started limit (texts_of t.near)) { phase = phase })).after
    ≡ started limit (texts_of t.near)
    → HoldsOut limit (asks_anew limit (forgotten_out t))
unfolding rests
asks_from limit t h phase waits kept timed =
    let texts : List (List ℕ) = texts_of t.near in
    let t0 : TwoWay = forgotten_out t in
    let w : World = shadow_in Busy h.lost t in
    let after_is : (on_sender_timer {limit = limit} t.near.station.sender).after ≡ started limit texts =
    ap (λ s. (on_sender_timer {limit = limit} s).after) kept.sender_is ∙ timed in
    let rested : Holds limit (rests t h.lost w) =
    subst (Holds limit) (forgotten_rests t h.lost w refl) waits in
    subst (λ (s : SenderState). HoldsOut limit
    (put_out enquiry (record t0 { near = with_session (record t0.near.station { sender = s }) texts t0.near })))
    (sym after_is)
    (begun_out limit texts t.near.station.turn t0 h.lost h.lost_within rested h.lost_unheard h.lost_frames
    kept.not_refused)

pub asks_out_busy : (limit : ℕ) (t : TwoWay) → t.near.station.sender.phase ≡ Busy → HoldsOut limit t
    → HoldsOut limit (asks_anew limit (forgotten_out t))
asks_out_busy limit t is h =
    asks_from limit t h Busy (subst (λ p. Holds limit (shadow_in p h.lost t)) is h.holds)
    (subst (λ p. CanAsk limit p t.near.station.sender t.near.current t.near.sessions) is h.can_ask) refl

pub asks_out_contention : (limit : ℕ) (t : TwoWay) → t.near.station.sender.phase ≡ Contention → HoldsOut limit t
    → HoldsOut limit (asks_anew limit (forgotten_out t))
asks_out_contention limit t is h =
    asks_from limit t h Contention (subst (λ p. Holds limit (shadow_in p h.lost t)) is h.holds)
    (subst (λ p. CanAsk limit p t.near.station.sender t.near.current t.near.sessions) is h.can_ask) refl

-- ---- the timer ends a session

-- a session is over, and EOT goes out
abbrev pub with_sender : SenderState → StationState → StationState
with_sender sender s = record s { sender = sender }

ending_out :
    (limit : ℕ) (t : TwoWay) (h : HoldsOut limit t) (sender : SenderState)
    → sender.phase ≡ Neutral
    → Holds limit (put_on_link ending (world_with_sender sender (forgotten (shadow h.lost t))))
    → HoldsOut limit (put_out ending (record (forgotten_out t) {
      near = followed_by (with_sender sender t.near.station) (forgotten_out t).near;
    }))
unfolding rests
ending_out limit t h sender neutral over =
    let w : World = shadow h.lost t in
    let last : Travelling = record { session = t.near.current; load = ending } in
    let at : Holds limit (put_on_link ending (world_with_sender sender (rests t h.lost w))) =
    subst (λ v. Holds limit (put_on_link ending (world_with_sender sender v))) (forgotten_rests t h.lost w refl) over in
    let longer : length (units_of (t.outward ++ sent last ∷ [])) ≡ length (units_of t.outward) + 1 =
    ap length (units_of-append t.outward (sent last ∷ [])) ∙ length_push (units_of t.outward) last in
    let within = h.lost_within in
    let t' : TwoWay = put_out ending (record (forgotten_out t) {
      near = followed_by (with_sender sender t.near.station) (forgotten_out t).near;
    }) in
    let placed : Holds limit (shadow_in Neutral h.lost t') =
    subst (λ us. Holds limit (record
    (world_with_sender (record sender { phase = Neutral }) (rests t h.lost w)) { units = us }))
    (sym (units_more h.lost t.outward last h.lost_within))
    (subst (λ p. Holds limit (put_on_link ending (world_with_sender (record sender { phase = p }) (rests t h.lost w))))
    neutral at) in
    record {
      lost = h.lost;
      lost_within = omega arith;
      holds = subst (λ p. Holds limit (shadow_in p h.lost t')) (sym neutral) placed;
      lost_unheard = h.lost_unheard;
      lost_frames = subst (NoEnquiry limit) (sym (lost_more h.lost t.outward last h.lost_within)) h.lost_frames;
      in_order = subst (λ p. InOrder p (IsDeaf limit t') (forgotten_out t).inward) (sym neutral) tt;
      can_ask = subst (λ p. CanAsk limit p sender t'.near.current t'.near.sessions) (sym neutral) tt;
    }

-- the timer while a reply is awaited
timed_out_line : (limit : ℕ) (t : TwoWay) → t.near.station.sender.phase ≡ AwaitLine → HoldsOut limit t
    → HoldsOut limit (waits_no_more limit t)
timed_out_line limit t is h =
    let w : World = shadow_in AwaitLine h.lost t in
    let before : Holds limit w = subst (λ p. Holds limit (shadow_in p h.lost t)) is h.holds in
    subst (λ p. HoldsOut limit (sender_went {limit = limit} (timer_in p t.near.station.sender)
    (with_sender (timer_in {limit = limit} p t.near.station.sender).after t.near.station) (forgotten_out t))) (sym is)
    (ending_out limit t h (finished_with TimedOut t.near.station.sender) refl (sender_timer_holds limit w before))

timed_out_reply : (limit : ℕ) (t : TwoWay) → t.near.station.sender.phase ≡ AwaitReply → HoldsOut limit t
    → HoldsOut limit (waits_no_more limit t)
timed_out_reply limit t is h =
    let w : World = shadow_in AwaitReply h.lost t in
    let before : Holds limit w = subst (λ p. Holds limit (shadow_in p h.lost t)) is h.holds in
    subst (λ p. HoldsOut limit (sender_went {limit = limit} (timer_in p t.near.station.sender)
    (with_sender (timer_in {limit = limit} p t.near.station.sender).after t.near.station) (forgotten_out t))) (sym is)
    (ending_out limit t h (finished_with TimedOut t.near.station.sender) refl (sender_timer_holds limit w before))

sender_timed_out : (limit : ℕ) (t : TwoWay) (phase : Phase) → t.near.station.sender.phase ≡ phase → HoldsOut limit t
    → HoldsOut limit (sender_timed limit phase t)
sender_timed_out limit t Neutral is h = h
sender_timed_out limit t AwaitLine is h = timed_out_line limit t is h
sender_timed_out limit t Busy is h = asks_out_busy limit t is h
sender_timed_out limit t Contention is h = asks_out_contention limit t is h
sender_timed_out limit t AwaitReply is h = timed_out_reply limit t is h

pub timed_out : (limit : ℕ) (t : TwoWay) (is_open : Bool) → HoldsOut limit t → HoldsOut limit (timed limit is_open t)
timed_out limit t true h =
    let after : StationState = (timed_by {limit = limit} true t.near.station).after in
    station_out limit t after.receiver after.turn after.asks_turn h
timed_out limit t false h = sender_timed_out limit t t.near.station.sender.phase refl h

-- ---- the session is given up

resting_out :
    (limit : ℕ) (t : TwoWay) (h : HoldsOut limit t) (sender : SenderState)
    → sender.phase ≡ Neutral
    → Holds limit (world_with_sender sender (forgotten (shadow h.lost t)))
    → HoldsOut limit (record (forgotten_out t) {
      near = followed_by (with_sender sender t.near.station) (forgotten_out t).near;
    })
unfolding rests
resting_out limit t h sender neutral over =
    let w : World = shadow h.lost t in
    let at : Holds limit (world_with_sender sender (rests t h.lost w)) =
    subst (λ v. Holds limit (world_with_sender sender v)) (forgotten_rests t h.lost w refl) over in
    let t' : TwoWay = record (forgotten_out t) {
      near = followed_by (with_sender sender t.near.station) (forgotten_out t).near;
    } in
    let placed : Holds limit (shadow_in Neutral h.lost t') =
    subst (λ p. Holds limit (world_with_sender (record sender { phase = p }) (rests t h.lost w))) neutral at in
    record {
      lost = h.lost;
      lost_within = h.lost_within;
      holds = subst (λ p. Holds limit (shadow_in p h.lost t')) (sym neutral) placed;
      lost_unheard = h.lost_unheard;
      lost_frames = h.lost_frames;
      in_order = subst (λ p. InOrder p (IsDeaf limit t') (forgotten_out t).inward) (sym neutral) tt;
      can_ask = subst (λ p. CanAsk limit p sender t'.near.current t'.near.sessions) (sym neutral) tt;
    }

-- one that waits
put_off_out :
    (limit : ℕ) (t : TwoWay) (h : HoldsOut limit t) (phase : Phase)
    → Holds limit (shadow_in Busy h.lost t)
    → AsksWith limit phase t.near.station.sender t.near.current t.near.sessions
    → HoldsOut limit (record (forgotten_out t) {
      near = followed_by (with_sender (finished_with Restarted t.near.station.sender) t.near.station)
          (forgotten_out t).near;
    })
put_off_out limit t h phase waits kept =
    let w : World = shadow_in Busy h.lost t in
    let can = can_follow limit w waits in
    resting_out limit t h (finished_with Restarted t.near.station.sender) refl
    (ended_holds limit (finished_with Restarted w.sender) (forgotten w) (base_forgotten limit w (base_of limit w waits))
    kept.within
    (record {
      frames_are = tt;
      acknowledged_of_accepted = can.acknowledged_of_accepted;
      done_acknowledged = λ done. cc;
    })
    refl refl (all_dropped w.units))

given_up_in : (limit : ℕ) (t : TwoWay) (phase : Phase) → t.near.station.sender.phase ≡ phase → HoldsOut limit t
    → HoldsOut limit (record (forgotten_out t) {
      near = followed_by (with_sender (restart_in phase t.near.station.sender) t.near.station) (forgotten_out t).near;
    })
given_up_in limit t Neutral is h =
    let w : World = shadow_in Neutral h.lost t in
    let before : Holds limit w = subst (λ p. Holds limit (shadow_in p h.lost t)) is h.holds in
    let same : t.near.station.sender ≡ record t.near.station.sender { phase = Neutral } =
    ap (λ p. record t.near.station.sender { phase = p }) is in
    resting_out limit t h t.near.station.sender is
    (subst (λ s. Holds limit (world_with_sender s (forgotten w))) (sym same) (restart_holds limit w before))
given_up_in limit t AwaitLine is h =
    let w : World = shadow_in AwaitLine h.lost t in
    let before : Holds limit w = subst (λ p. Holds limit (shadow_in p h.lost t)) is h.holds in
    resting_out limit t h (finished_with Restarted t.near.station.sender) refl (restart_holds limit w before)
given_up_in limit t Busy is h =
    put_off_out limit t h Busy (subst (λ p. Holds limit (shadow_in p h.lost t)) is h.holds)
    (subst (λ p. CanAsk limit p t.near.station.sender t.near.current t.near.sessions) is h.can_ask)
given_up_in limit t Contention is h =
    put_off_out limit t h Contention (subst (λ p. Holds limit (shadow_in p h.lost t)) is h.holds)
    (subst (λ p. CanAsk limit p t.near.station.sender t.near.current t.near.sessions) is h.can_ask)
given_up_in limit t AwaitReply is h =
    let w : World = shadow_in AwaitReply h.lost t in
    let before : Holds limit w = subst (λ p. Holds limit (shadow_in p h.lost t)) is h.holds in
    resting_out limit t h (finished_with Restarted t.near.station.sender) refl (restart_holds limit w before)

pub given_up_out : (limit : ℕ) (t : TwoWay) → HoldsOut limit t
    → HoldsOut limit (record (forgotten_out t) {
      near = followed_by (session_given_up t.near.station) (forgotten_out t).near;
    })
given_up_out limit t h = given_up_in limit t t.near.station.sender.phase refl h

-- and the receiver restarted
pub restarted_out : (limit : ℕ) (t : TwoWay) → HoldsOut limit t
    → HoldsOut limit (record (forgotten_out t) {
      near = followed_by (station_restarted t.near.station) (forgotten_out t).near;
    })
restarted_out limit t h =
    let after : StationState = station_restarted t.near.station in
    station_out limit _ after.receiver after.turn after.asks_turn (given_up_out limit t h)

-- ---- the other side's receiver: its timer, its restart, its readiness

closed_stays : (a b : Bool) → (b ≡ true → a ≡ true) → a ≡ false → b ≡ false
closed_stays a true was shut =
    let opened = was refl in
    absurd (cc)
closed_stays a false was shut = refl

pub far_receiver_out :
    (limit : ℕ) (t : TwoWay) (r : ReceiverState) (turn : Turn) (asks : Bool)
    → (r.is_open ≡ true → t.far.station.receiver.is_open ≡ true)
    → r.accepted ≡ t.far.station.receiver.accepted
    → HoldsOut limit t
    → HoldsOut limit (record t { far = with_station (but_sender r turn asks t.far.station) t.far })
far_receiver_out limit t r turn asks was_open accepted_same h =
    let stays = closed_stays t.far.station.receiver.is_open r.is_open was_open in
    record {
      lost = h.lost;
      lost_within = h.lost_within;
      holds = no_more_open_holds limit (shadow h.lost t) r
          (record { was_open = was_open; accepted_same = accepted_same }) h.holds;
      lost_unheard = λ some. stays (h.lost_unheard some);
      lost_frames = h.lost_frames;
      in_order = order_map t.near.station.sender.phase (IsDeaf limit t)
          (IsDeaf limit (record t { far = with_station (but_sender r turn asks t.far.station) t.far }))
          (λ deaf. (stays deaf.0, deaf.1)) t.inward h.in_order;
      can_ask = h.can_ask;
    }
