-- What else happens at a station than what comes: its timer, its restarts, its start. And the law.
use Rattle.std.proofs.Common.{◌≡◌, ℕ, ◌-◌, ◌≤◌, Bool, true, false, List, [], ◌∷◌, length, map, take, drop, None, Some}
use Rattle.std.proofs.Common.{Option, refl, sym, ap, ◌∙◌, subst, arith}
use Rattle.std.specs.List.{fold}
use Rattle.lis_frame.specs.Limit.{IsLimit}
use Rattle.lis_link.specs.declared.sender.Phase.{Phase}
use Rattle.lis_link.specs.declared.sender.Phase.TheVariants.{Neutral, AwaitLine, Busy, Contention, AwaitReply}
use Rattle.lis_link.specs.Receiver.{ReceiverState, receiver_restarted, with_readiness, with_room, timer_by}
use Rattle.lis_link.specs.Sender.{on_sender_timer}
use Rattle.lis_world.specs.Unit.{enquiry, Travelling}
use Rattle.lis_world.proofs.Invariant.{Holds}
use Rattle.lis_world.proofs.Safety.{new_holds}
use Rattle.lis_world.proofs.Timers.{after_receiver_timer}
use Rattle.lis_station.specs.declared.station.StationFault.{StationFault}
use Rattle.lis_station.specs.declared.station.Turn.{Turn}
use Rattle.lis_station.specs.Laws.{IsExclusive}
use Rattle.lis_station.specs.Station.{StationState, timed_by, station_fault, station_fault_by, station_started}
use Rattle.lis_station.specs.Station.{station_restarted, line_closed, readied, readiness_of, turn_asked_for}
use Rattle.lis_station.specs.Line.{Item, sent, End, TwoWay, turned, units_of, with_station, with_session}
use Rattle.lis_station.specs.Line.{room_near, forgotten_out, asks_anew, waits_no_more, sender_timed, timed}
use Rattle.lis_station.specs.Line.{texts_of, begins_out, arrives, StationEvent, start, arrive, arrive_without_room}
use Rattle.lis_station.specs.Line.{damage, lose}
use Rattle.lis_station.specs.Line.{timer, give_up, close_line, restart, set_ready, ask_turn, happens, LineEvent}
use Rattle.lis_station.specs.Line.{at_analyzer}
use Rattle.lis_station.specs.Line.{at_computer, after_line_event, new_two_way, SafeBothWays}
use Rattle.lis_station.proofs.Exclusive.{stays_exclusive}
use Rattle.lis_station.proofs.Shadow.{shadow, dropped_in, NoEnquiry, IsDeaf, HoldsOut}
use Rattle.lis_station.proofs.Directions.{units_again, order_map, start_out}
use Rattle.lis_station.proofs.NearEvents.{but_sender, station_out, far_receiver_out, timed_out, given_up_out}
use Rattle.lis_station.proofs.NearEvents.{safe_out}
use Rattle.lis_station.proofs.FarUnits.{unit_in, far_sender_out}
use Rattle.lis_station.proofs.Noise.{Stays, settle, sender_stays}
use Rattle.lis_station.proofs.Both.{AllAnswers, answers_joined, answers_in_units, NotContending, Near, sender_near}
use Rattle.lis_station.proofs.Events.{HoldsBoth, turned_both, arrives_both, lost_both, damaged_both}

-- ---- the station changes, but not its sender

module _ (limit : ℕ) (t : TwoWay) (h : HoldsBoth limit t) where
  near_changed :
      (r : ReceiverState) (turn : Turn) (asks : Bool)
      → (r.is_open ≡ true → t.near.station.receiver.is_open ≡ true)
      → r.accepted ≡ t.near.station.receiver.accepted
      → NotContending r.readiness
      → HoldsBoth limit (record t { near = with_station (but_sender r turn asks t.near.station) t.near })
  near_changed r turn asks was_open same fair = record {
    out = station_out limit t r turn asks h.out;
    back = far_receiver_out limit (turned t) r turn asks was_open same h.back;
    near_exclusive = λ e. h.near_exclusive (was_open e);
    far_exclusive = h.far_exclusive;
    near_fair = fair;
    far_fair = h.far_fair;
    near_answers = h.near_answers;
    far_answers = h.far_answers;
  }

  room_both : (room : Bool) → HoldsBoth limit (room_near room t)
  room_both room =
      near_changed (with_room room t.near.station.receiver) t.near.station.turn t.near.station.asks_turn (λ e. e) refl
      h.near_fair

  close_both : HoldsBoth limit (record t { near = with_station (line_closed t.near.station) t.near })
  close_both =
      near_changed (line_closed t.near.station).receiver t.near.station.turn false (λ e. absurd (cc)) refl h.near_fair

  fair_of : (ready : Bool) → NotContending (readiness_of ready)
  fair_of true = tt
  fair_of false = tt

  ready_both : (ready : Bool) → HoldsBoth limit (record t { near = with_station (readied ready t.near.station) t.near })
  ready_both ready =
      near_changed (with_readiness (readiness_of ready) t.near.station.receiver) t.near.station.turn
      t.near.station.asks_turn (λ e. e) refl (fair_of ready)

  ask_both : HoldsBoth limit (record t { near = with_station (turn_asked_for t.near.station) t.near })
  ask_both =
      near_changed t.near.station.receiver t.near.station.turn t.near.station.receiver.is_open (λ e. e) refl h.near_fair

  -- the receiver's timer
  timer_fair : (is_open : Bool) → NotContending (timer_by is_open t.near.station.receiver).after.readiness
  timer_fair true = h.near_fair
  timer_fair false = h.near_fair

  receiver_timed : HoldsBoth limit (timed limit true t)
  receiver_timed =
      let after : StationState = (timed_by {limit = limit} true t.near.station).after in
      let closer = after_receiver_timer t.near.station.receiver in
      near_changed after.receiver after.turn after.asks_turn closer.was_open closer.accepted_same
      (timer_fair t.near.station.receiver.is_open)

-- ---- no reply comes any more to what was sent

outward_same : (limit : ℕ) (t : TwoWay) (items : List Item) → units_of items ≡ units_of t.outward → HoldsOut limit t
    → HoldsOut limit (record t { outward = items })
outward_same limit t items same h = record {
  lost = h.lost;
  lost_within = subst (λ us. h.lost ≤ length us) (sym same) h.lost_within;
  holds = subst (λ us. Holds limit (record (shadow h.lost t) {
    units = drop h.lost us;
    to_drop = dropped_in t.near.station.sender.phase (t.near.to_drop - h.lost) (drop h.lost us);
  })) (sym same) h.holds;
  lost_unheard = h.lost_unheard;
  lost_frames = subst (λ us. NoEnquiry limit (take h.lost us)) (sym same) h.lost_frames;
  in_order = order_map t.near.station.sender.phase (IsDeaf limit t) (IsDeaf limit (record t { outward = items }))
      (λ deaf. (deaf.0, subst (NoEnquiry limit) (sym same) deaf.1)) t.inward h.in_order;
  can_ask = h.can_ask;
}

forgotten_back : (limit : ℕ) (t : TwoWay) → HoldsOut limit (turned t) → HoldsOut limit (turned (forgotten_out t))
forgotten_back limit t h =
    outward_same limit _ (map sent (units_of t.inward)) (units_again (units_of t.inward))
    (far_sender_out limit (turned t) (forgotten_out t).near refl refl h)

shut_exclusive : (s : StationState) → s.receiver.is_open ≡ false → IsExclusive s
shut_exclusive s shut = λ e.
    let both : true ≡ false = sym e ∙ shut in
    cc

module _ (limit : ℕ) (is_limit : IsLimit limit) (t : TwoWay) (h : HoldsBoth limit t) where
  quiet_near : Near (forgotten_out t) (forgotten_out t)
  quiet_near = record {
    exclusive = h.near_exclusive;
    fair = h.near_fair;
    answers = h.near_answers;
    far_same = refl;
    inward_same = refl;
  }

  -- the sender's own steps
  waits_both : (shut : t.near.station.receiver.is_open ≡ false) → HoldsOut limit (waits_no_more limit t)
      → HoldsBoth limit (waits_no_more limit t)
  waits_both shut out =
      let after : StationState = (timed_by {limit = limit} false t.near.station).after in
      let stays : Stays limit t.far.to_drop (forgotten_out t) (waits_no_more limit t) =
      sender_stays limit is_limit t.far.to_drop (forgotten_out t)
      (on_sender_timer {limit = limit} t.near.station.sender).emit after (forgotten_out t) refl
      (record { back = forgotten_back limit t h.back; shut = shut; far_same = refl }) in
      let near : Near (forgotten_out t) (waits_no_more limit t) =
      sender_near (on_sender_timer {limit = limit} t.near.station.sender).emit after (forgotten_out t) (forgotten_out t)
      (shut_exclusive after shut) h.near_fair quiet_near in
      record {
        out = out;
        back = subst (λ n. HoldsOut limit (turned (settle n (waits_no_more limit t))))
            (ap (λ (e : End). e.to_drop) (sym stays.far_same)) stays.back;
        near_exclusive = near.exclusive;
        far_exclusive = subst IsExclusive (sym near.far_same) h.far_exclusive;
        near_fair = near.fair;
        far_fair = subst (λ (s : StationState). NotContending s.receiver.readiness) (sym near.far_same) h.far_fair;
        near_answers = near.answers;
        far_answers = subst AllAnswers (sym near.inward_same) (answers_in_units (units_of t.inward));
      }

  asks_both : (shut : t.near.station.receiver.is_open ≡ false) → HoldsOut limit (asks_anew limit (forgotten_out t))
      → HoldsBoth limit (asks_anew limit (forgotten_out t))
  asks_both shut out =
      let after : StationState = (timed_by {limit = limit} false t.near.station).after in
      let e : End = with_session after (texts_of (forgotten_out t).near) (forgotten_out t).near in
      let u : Travelling = record { session = e.current; load = enquiry } in
      record {
        out = out;
        back = unit_in limit is_limit _
            (far_sender_out limit (turned (forgotten_out t)) e refl refl (forgotten_back limit t h.back)) shut u;
        near_exclusive = shut_exclusive after shut;
        far_exclusive = h.far_exclusive;
        near_fair = h.near_fair;
        far_fair = h.far_fair;
        near_answers = answers_joined t.outward (sent u ∷ []) h.near_answers tt;
        far_answers = answers_in_units (units_of t.inward);
      }

  sender_timer_both : (shut : t.near.station.receiver.is_open ≡ false) (phase : Phase)
      → HoldsOut limit (sender_timed limit phase t)
      → HoldsBoth limit (sender_timed limit phase t)
  sender_timer_both shut Neutral out = h
  sender_timer_both shut AwaitLine out = waits_both shut out
  sender_timer_both shut Busy out = asks_both shut out
  sender_timer_both shut Contention out = asks_both shut out
  sender_timer_both shut AwaitReply out = waits_both shut out

  timer_both : (is_open : Bool) → t.near.station.receiver.is_open ≡ is_open → HoldsBoth limit (timed limit is_open t)
  timer_both true is = receiver_timed limit t h
  timer_both false is = sender_timer_both is t.near.station.sender.phase (timed_out limit t false h.out)

  -- the session is given up
  give_up_both : HoldsBoth limit (happens limit give_up t)
  give_up_both = record {
    out = given_up_out limit t h.out;
    back = far_sender_out limit (turned (forgotten_out t)) (happens limit give_up t).near refl refl
        (forgotten_back limit t h.back);
    near_exclusive = stays_exclusive.given_up t.near.station h.near_exclusive;
    far_exclusive = h.far_exclusive;
    near_fair = h.near_fair;
    far_fair = h.far_fair;
    near_answers = h.near_answers;
    far_answers = answers_in_units (units_of t.inward);
  }

  -- a session begins
  closed_if_asked : (is_open : Bool) (texts : List (List ℕ)) → station_fault_by is_open t.near.station texts ≡ None
      → is_open ≡ false
  closed_if_asked true texts none = cc
  closed_if_asked false texts none = refl

  begin_both : (texts : List (List ℕ)) (fault : Option StationFault) → station_fault t.near.station texts ≡ fault
      → HoldsBoth limit (begins_out limit fault texts t)
  begin_both texts (Some fault) is = h
  begin_both texts None is =
      let shut = closed_if_asked t.near.station.receiver.is_open texts is in
      let after : StationState = station_started limit texts t.near.station in
      let e : End = with_session after texts t.near in
      let u : Travelling = record { session = e.current; load = enquiry } in
      record {
        out = start_out limit texts t None is h.out;
        back = unit_in limit is_limit _ (far_sender_out limit (turned t) e refl refl h.back) shut u;
        near_exclusive = shut_exclusive after shut;
        far_exclusive = h.far_exclusive;
        near_fair = h.near_fair;
        far_fair = h.far_fair;
        near_answers = answers_joined t.outward (sent u ∷ []) h.near_answers tt;
        far_answers = h.far_answers;
      }

-- ---- all events

happens_both : (limit : ℕ) (is_limit : IsLimit limit) (event : StationEvent) (t : TwoWay) → HoldsBoth limit t
    → HoldsBoth limit (happens limit event t)
happens_both limit is_limit (start texts) t h =
    begin_both limit is_limit t h texts (station_fault t.near.station texts) refl
happens_both limit is_limit arrive t h = arrives_both limit is_limit t.inward t h
happens_both limit is_limit arrive_without_room t h =
    room_both limit (arrives limit t.inward (room_near false t))
    (arrives_both limit is_limit t.inward (room_near false t) (room_both limit t h false)) true
happens_both limit is_limit (damage bytes) t h = damaged_both limit is_limit bytes t.inward t h
happens_both limit is_limit lose t h = lost_both limit is_limit t.inward t h
happens_both limit is_limit timer t h = timer_both limit is_limit t h t.near.station.receiver.is_open refl
happens_both limit is_limit give_up t h = give_up_both limit is_limit t h
happens_both limit is_limit close_line t h = close_both limit t h
happens_both limit is_limit restart t h =
    let given : TwoWay = happens limit give_up t in
    let after : StationState = station_restarted t.near.station in
    near_changed limit given (give_up_both limit is_limit t h) after.receiver after.turn after.asks_turn
    (λ e. absurd (cc)) refl tt
happens_both limit is_limit (set_ready ready) t h = ready_both limit t h ready
happens_both limit is_limit ask_turn t h = ask_both limit t h

pub line_event_both : (limit : ℕ) (is_limit : IsLimit limit) (event : LineEvent) (t : TwoWay) → HoldsBoth limit t
    → HoldsBoth limit (after_line_event limit event t)
line_event_both limit is_limit (at_analyzer event) t h = happens_both limit is_limit event t h
line_event_both limit is_limit (at_computer event) t h =
    turned_both limit (happens limit event (turned t))
    (happens_both limit is_limit event (turned t) (turned_both limit t h))

new_out : (limit : ℕ) → HoldsOut limit new_two_way
new_out limit = record {
  lost = 0;
  lost_within = omega arith;
  holds = new_holds limit;
  lost_unheard = λ some. refl;
  lost_frames = tt;
  in_order = tt;
  can_ask = tt;
}

new_back : (limit : ℕ) → HoldsOut limit (turned new_two_way)
new_back limit = record {
  lost = 0;
  lost_within = omega arith;
  holds = new_holds limit;
  lost_unheard = λ some. refl;
  lost_frames = tt;
  in_order = tt;
  can_ask = tt;
}

pub new_both : (limit : ℕ) → HoldsBoth limit new_two_way
new_both limit = record {
  out = new_out limit;
  back = new_back limit;
  near_exclusive = λ e. refl;
  far_exclusive = λ e. refl;
  near_fair = tt;
  far_fair = tt;
  near_answers = tt;
  far_answers = tt;
}

pub events_both : (limit : ℕ) (is_limit : IsLimit limit) (events : List LineEvent) (t : TwoWay) → HoldsBoth limit t
    → HoldsBoth limit (fold (λ t event. after_line_event limit event t) t events)
events_both limit is_limit [] t h = h
events_both limit is_limit (event ∷ events) t h =
    events_both limit is_limit events (after_line_event limit event t) (line_event_both limit is_limit event t h)

pub safe_both_ways : (limit : ℕ) → IsLimit limit → SafeBothWays limit
safe_both_ways limit is_limit events =
    let h = events_both limit is_limit events new_two_way (new_both limit) in
    (safe_out limit _ h.out, safe_out limit _ h.back)
