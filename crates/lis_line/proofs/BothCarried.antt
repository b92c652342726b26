-- Sessions are carried through on a line between two stations: of one side alone, and of both if they ask at once.
use Rattle.std.proofs.Common.{◌≡◌, ℕ, ◌+◌, ◌-◌, true, false, List, [], ◌∷◌, ◌++◌}
use Rattle.std.proofs.Common.{map, length, Option, None, refl, sym, ap, ◌∙◌, subst, arith}
use Rattle.std.specs.List.{flat_map}
use Rattle.std.specs.Option.{option_map}
use Rattle.std.proofs.lemmas.List.{length_push, map-append}
use Rattle.lis_frame.specs.Limit.{IsLimit}
use Rattle.lis_link.specs.declared.sender.Phase.TheVariants.{Neutral, Contention}
use Rattle.lis_link.specs.declared.sender.StartFault.{StartFault}
use Rattle.lis_text.specs.declared.readiness.Readiness.TheVariants.{Ready}
use Rattle.lis_link.specs.Sender.{SenderState, started, bad_texts, start_fault_in, on_sender_timer}
use Rattle.lis_link.specs.Receiver.{ReceiverState}
use Rattle.lis_world.specs.declared.event.Event.TheVariants.{Start}
use Rattle.lis_world.specs.inside.Playing.{runs}
use Rattle.lis_world.specs.Unit.{enquiry}
use Rattle.lis_world.specs.Session.{Session, new_session, session_at, changed, follows}
use Rattle.lis_world.specs.World.{World}
use Rattle.lis_world.specs.Steps.{begins, after_event}
use Rattle.lis_world.specs.Progress.{Round, undisturbed, without_room, bad_frame, bad_reply}
use Rattle.lis_world.specs.Progress.{AreEnough, IsCarried, IsCalm}
use Rattle.lis_world.specs.Recovery.{AreTexts}
use Rattle.lis_world.proofs.Invariant.{Holds, InPhase}
use Rattle.lis_world.proofs.Safety.{event_holds}
use Rattle.lis_world.proofs.SessionLemmas.{length-changed, kept-changed, at-more_last}
use Rattle.lis_world.proofs.Carrying.{carried}
use Rattle.lis_station.specs.declared.station.StationFault.{StationFault}
use Rattle.lis_station.specs.declared.station.StationFault.TheVariants as Faults
use Rattle.lis_station.specs.declared.station.Turn.TheVariants.{Free}
use Rattle.lis_station.specs.Station.{StationState, awaits_reply, station_fault_by, station_fault}
use Rattle.lis_station.specs.Line.{End, TwoWay, sent, answered, turned, units_of, texts_of, begins_out}
use Rattle.lis_station.specs.Line.{asks_anew, forgotten_out, timed, sender_timed, StationEvent, start, arrive}
use Rattle.lis_station.specs.Line.{new_two_way, two_way, timer, LineEvent, at_analyzer, at_computer, after_line_event}
use Rattle.lis_station.specs.inside.Line.{answers_of}
use Rattle.lis_station.proofs.Shadow.{HoldsOut, AsksWith, CanAsk, shadow_in}
use Rattle.lis_station.proofs.Events.{HoldsBoth}
use Rattle.lis_station.proofs.TwoWayLaw.{events_both, new_both}
use Rattle.lis_line.specs.Progress.{IsCalmLine, round_on_line, carrying, alone, both_ask, HasDone}
use Rattle.lis_line.specs.Progress.{CarriesOne, CarriesBoth}
use Rattle.lis_line.proofs.OneSided.{Beside, IsSilent, IsOver, over, Carries, session_carries, session_rest}
use Rattle.lis_line.proofs.OneSided.{line_runs, line_runs-append, NoEot}

-- ---- a direction in which no session goes on, with nothing on the line

abbrev pub resting_world : TwoWay → World
resting_world t = record {
  sender = record t.near.station.sender { phase = Neutral };
  receiver = t.far.station.receiver;
  units = [];
  replies = [];
  to_drop = 0;
  current = t.near.current;
  opened = t.far.opened;
  sessions = t.near.sessions;
}

abbrev pub beside_of : TwoWay → Beside
beside_of t = record {
  near_role = t.near.station.role;
  near_receiver = t.near.station.receiver;
  near_asks = t.near.station.asks_turn;
  near_opened = t.near.opened;
  far_role = t.far.station.role;
  far_sender = t.far.station.sender;
  far_to_drop = t.far.to_drop;
  far_current = t.far.current;
  far_sessions = t.far.sessions;
}

none_lost : (limit : ℕ) (t : TwoWay) → t.outward ≡ [] → (h : HoldsOut limit t) → h.lost ≡ 0
none_lost limit t none_out h =
    let few = h.lost_within in
    omega (arith, few, ap (λ items. length (units_of items)) none_out)

-- it holds of that world, and no unit is to be dropped
pub rests_neutral :
    (limit : ℕ) (t : TwoWay) → t.near.station.sender.phase ≡ Neutral → t.outward ≡ [] → t.inward ≡ []
    → HoldsOut limit t
    → Holds limit (resting_world t) × (t.near.to_drop ≡ 0)
rests_neutral limit t neutral none_out none_in h =
    let here : Holds limit (shadow_in Neutral 0 t) =
    subst (λ n. Holds limit (shadow_in Neutral n t)) (none_lost limit t none_out h)
    (subst (λ p. Holds limit (shadow_in p h.lost t)) neutral h.holds) in
    let within = here.to_drop_within in
    let none : t.near.to_drop ≡ 0 = omega (arith, within, ap (λ items. length (units_of items)) none_out) in
    let none_less : t.near.to_drop - 0 ≡ 0 = omega (arith, none) in (
      subst (Holds limit) (λ i. record {
        sender = record t.near.station.sender { phase = Neutral };
        receiver = t.far.station.receiver;
        units = units_of (none_out i);
        replies = answers_of (none_in i);
        to_drop = none_less i;
        current = t.near.current;
        opened = t.far.opened;
        sessions = t.near.sessions;
      }) here,
      none,
    )

pub rests_contending :
    (limit : ℕ) (t : TwoWay) → t.near.station.sender.phase ≡ Contention → t.outward ≡ [] → HoldsOut limit t
    → Holds limit (resting_world t)
rests_contending limit t contends none_out h =
    let here : Holds limit (shadow_in Contention 0 t) =
    subst (λ n. Holds limit (shadow_in Contention n t)) (none_lost limit t none_out h)
    (subst (λ p. Holds limit (shadow_in p h.lost t)) contends h.holds) in
    subst (Holds limit) (λ i. record {
      sender = record t.near.station.sender { phase = Neutral };
      receiver = t.far.station.receiver;
      units = units_of (none_out i);
      replies = [];
      to_drop = length (units_of (none_out i));
      current = t.near.current;
      opened = t.far.opened;
      sessions = t.near.sessions;
    }) here

-- ---- a session that has begun is done

pub record IsDone (limit : ℕ) (texts : List (List ℕ)) (w : World) (b : Beside) (t : TwoWay) : Type 0 where
  pub last : World
  pub over_it : IsOver last b t
  pub is_carried : IsCarried limit texts w last
  pub no_units : last.units ≡ []
  pub no_replies : last.replies ≡ []

-- texts that a sender at rest takes, to a receiver that is ready
pub record CanCarry (limit : ℕ) (texts : List (List ℕ)) (w : World) : Type 0 where
  pub holds : Holds limit w
  pub calm : IsCalm w
  pub room : w.receiver.room ≡ true
  pub no_replies : w.replies ≡ []
  pub texts_are : AreTexts texts

no_reply_at_rest : (limit : ℕ) (w : World) → Holds limit w → w.sender.phase ≡ Neutral → w.replies ≡ []
no_reply_at_rest limit w h neutral = (subst (λ p. InPhase p w) neutral h.phase).no_reply

pub begun_is_done :
    (limit : ℕ) (texts : List (List ℕ)) (rounds : List Round) (w : World) (b : Beside) (t : TwoWay)
    → IsLimit limit → IsSilent b → CanCarry limit texts w → AreEnough limit texts rounds
    → IsOver (begins limit None texts w) b t
    → IsDone limit texts w b (line_runs limit (carrying at_analyzer at_computer rounds) t)
begun_is_done limit texts rounds w b t is_limit silent can enough begun =
    let not_refused = ap (λ p. start_fault_in p texts) can.calm.neutral ∙ can.texts_are.not_refused in
    let w1 : World = begins limit None texts w in
    let e1 : after_event limit (Start texts) w ≡ w1 = ap (λ fault. begins limit fault texts w) not_refused in
    let holds1 : Holds limit w1 =
    subst (Holds limit) e1 (event_holds limit (Start texts) w is_limit can.holds) in
    let carries1 : Carries limit w1 b t = record {
      over_it = begun;
      holds = holds1;
      no_eot = subst NoEot (sym can.no_replies) tt;
      few = omega (
        arith,
        ap length can.calm.no_unit,
        length_push w.units (record { session = length w.sessions; load = enquiry }),
      );
    } in
    let went = session_carries limit rounds w1 b t is_limit silent enough.noticed carries1 in
    let last : World = runs limit (session_rest rounds) w1 in
    let is_carried : IsCarried limit texts w last =
    subst (λ (v : World). IsCarried limit texts w (runs limit (session_rest rounds) v)) e1
    (carried limit texts rounds w is_limit can.holds can.calm can.room
    (record { not_refused = not_refused; few = can.texts_are.few }) enough) in
    record {
      last = last;
      over_it = went.carries.over_it;
      is_carried = is_carried;
      no_units = went.no_units;
      no_replies = no_reply_at_rest limit last went.carries.holds is_carried.sender_neutral;
    }

-- ---- one side alone

-- a start on a calm line
pub starts_over :
    (limit : ℕ) (texts : List (List ℕ)) (t : TwoWay)
    → IsCalmLine t → bad_texts texts ≡ None → t.near.to_drop ≡ 0
    → IsOver (begins limit None texts (resting_world t)) (beside_of t)
    (after_line_event limit (at_analyzer (start texts)) t)
starts_over limit texts t calm taken none =
    let s : StationState = t.near.station in
    let no_fault : station_fault s texts ≡ None =
    ap (λ is_open. station_fault_by is_open s texts) calm.near.closed
    ∙ ap (λ p. option_map Faults.Start (start_fault_in p texts)) calm.near.neutral
    ∙ ap (option_map Faults.Start) taken in
    record {
      near_turn = Free;
      far_turn = t.far.station.turn;
      is = ap (λ fault. begins_out limit fault texts t) no_fault ∙ (λ i. record (begins_out limit None texts t) {
        near = record (begins_out limit None texts t).near { to_drop = none i };
        far = record t.far { station = record t.far.station { asks_turn = calm.far.no_request i } };
        outward = calm.none_out i ++ sent (record { session = length t.near.sessions; load = enquiry }) ∷ [];
        inward = calm.none_in i;
      });
    }

pub alone_is_done :
    (limit : ℕ) (texts : List (List ℕ)) (rounds : List Round) (t : TwoWay)
    → IsLimit limit → IsCalmLine t → HoldsOut limit t → AreTexts texts → AreEnough limit texts rounds
    → IsDone limit texts (resting_world t) (beside_of t)
    (line_runs limit (alone at_analyzer at_computer texts rounds) t)
alone_is_done limit texts rounds t is_limit calm h are enough =
    let rests = rests_neutral limit t calm.near.neutral calm.none_out calm.none_in h in
    begun_is_done limit texts rounds (resting_world t) (beside_of t)
    (after_line_event limit (at_analyzer (start texts)) t) is_limit
    (record { closed = calm.near.closed; hears_all = ap awaits_reply calm.far.neutral })
    (record {
      holds = rests.0;
      calm = record { no_unit = refl; neutral = refl; ready = calm.far.ready };
      room = calm.far.room;
      no_replies = refl;
      texts_are = are;
    }) enough (starts_over limit texts t calm are.not_refused rests.1)

-- ---- a side that waits

-- it met ENQ by ENQ, nothing is on the line, and the other side gets it next
pub record Waits (texts : List (List ℕ)) (t : TwoWay) : Type 0 where
  pub contends : t.near.station.sender.phase ≡ Contention
  pub texts_are : texts_of t.near ≡ texts
  pub closed : t.near.station.receiver.is_open ≡ false
  pub none_out : t.outward ≡ []
  pub none_in : t.inward ≡ []
  pub far_hears : awaits_reply t.far.station.sender.phase ≡ false
  pub far_ready : t.far.station.receiver.readiness ≡ Ready
  pub far_room : t.far.station.receiver.room ≡ true
  pub no_request : t.far.station.asks_turn ≡ false

asks_over :
    (limit : ℕ) (texts : List (List ℕ)) (t : TwoWay) → Waits texts t → HoldsOut limit t
    → IsOver (begins limit None texts (resting_world t)) (beside_of t) (after_line_event limit (at_analyzer timer) t)
asks_over limit texts t waits h =
    let can : AsksWith limit Contention t.near.station.sender t.near.current t.near.sessions =
    subst (λ p. CanAsk limit p t.near.station.sender t.near.current t.near.sessions) waits.contends h.can_ask in
    let asked : (on_sender_timer {limit = limit} t.near.station.sender).after ≡ started limit texts =
    ap (λ s. (on_sender_timer {limit = limit} s).after) can.sender_is ∙ ap (started limit) waits.texts_are in
    let by_timer : timed limit t.near.station.receiver.is_open t ≡ asks_anew limit (forgotten_out t) =
    ap (λ is_open. timed limit is_open t) waits.closed ∙ ap (λ p. sender_timed limit p t) waits.contends in
    record {
      near_turn = t.near.station.turn;
      far_turn = t.far.station.turn;
      is = by_timer ∙ (λ i. record {
        near = record {
          station = record t.near.station { sender = asked i };
          to_drop = length (units_of (waits.none_out i));
          current = length t.near.sessions;
          opened = t.near.opened;
          sessions = t.near.sessions ++ new_session (waits.texts_are i) ∷ [];
        };
        far = record t.far { station = record t.far.station { asks_turn = waits.no_request i } };
        outward = waits.none_out i ++ sent (record { session = length t.near.sessions; load = enquiry }) ∷ [];
        inward = map sent (units_of (waits.none_in i));
      });
    }

pub waiting_is_done :
    (limit : ℕ) (texts : List (List ℕ)) (rounds : List Round) (t : TwoWay)
    → IsLimit limit → Waits texts t → HoldsOut limit t → AreTexts texts → AreEnough limit texts rounds
    → IsDone limit texts (resting_world t) (beside_of t)
    (line_runs limit (at_analyzer timer ∷ carrying at_analyzer at_computer rounds) t)
waiting_is_done limit texts rounds t is_limit waits h are enough =
    begun_is_done limit texts rounds (resting_world t) (beside_of t)
    (after_line_event limit (at_analyzer timer) t) is_limit
    (record { closed = waits.closed; hears_all = waits.far_hears })
    (record {
      holds = rests_contending limit t waits.contends waits.none_out h;
      calm = record { no_unit = refl; neutral = refl; ready = waits.far_ready };
      room = waits.far_room;
      no_replies = refl;
      texts_are = are;
    }) enough (asks_over limit texts t waits h)

-- ---- seen from the other side

abbrev swapped : LineEvent → LineEvent
swapped (at_analyzer event) = at_computer event
swapped (at_computer event) = at_analyzer event

swapped_event : (limit : ℕ) (event : LineEvent) (t : TwoWay)
    → after_line_event limit (swapped event) t ≡ turned (after_line_event limit event (turned t))
swapped_event limit (at_analyzer event) t = refl
swapped_event limit (at_computer event) t = refl

swapped_runs : (limit : ℕ) (events : List LineEvent) (t : TwoWay)
    → line_runs limit (map swapped events) t ≡ turned (line_runs limit events (turned t))
swapped_runs limit [] t = refl
swapped_runs limit (event ∷ events) t =
    ap (line_runs limit (map swapped events)) (swapped_event limit event t)
    ∙ swapped_runs limit events (turned (after_line_event limit event (turned t)))

swapped_round : (round : Round)
    → map swapped (round_on_line at_analyzer at_computer round) ≡ round_on_line at_computer at_analyzer round
swapped_round undisturbed = refl
swapped_round without_room = refl
swapped_round (bad_frame body) = refl
swapped_round (bad_reply b) = refl

swapped_rounds : (rounds : List Round)
    → map swapped (flat_map (round_on_line at_analyzer at_computer) rounds)
    ≡ flat_map (round_on_line at_computer at_analyzer) rounds
swapped_rounds [] = refl
swapped_rounds (round ∷ rounds) =
    map-append swapped (round_on_line at_analyzer at_computer round)
    (flat_map (round_on_line at_analyzer at_computer) rounds)
    ∙ ap (λ first. first ++ map swapped (flat_map (round_on_line at_analyzer at_computer) rounds)) (swapped_round round)
    ∙ ap (λ rest. round_on_line at_computer at_analyzer round ++ rest) (swapped_rounds rounds)

swapped_carrying : (rounds : List Round)
    → map swapped (carrying at_analyzer at_computer rounds) ≡ carrying at_computer at_analyzer rounds
swapped_carrying rounds =
    ap (λ rest. at_analyzer arrive ∷ at_computer arrive ∷ rest)
    (map-append swapped (flat_map (round_on_line at_analyzer at_computer) rounds) (at_computer arrive ∷ [])
    ∙ ap (λ rest. rest ++ at_analyzer arrive ∷ []) (swapped_rounds rounds))

-- a session of the other side, seen from there
runs_there : (limit : ℕ) (first : StationEvent) (rounds : List Round) (t : TwoWay)
    → line_runs limit (at_computer first ∷ carrying at_computer at_analyzer rounds) t
    ≡ turned (line_runs limit (at_analyzer first ∷ carrying at_analyzer at_computer rounds) (turned t))
runs_there limit first rounds t =
    ap (λ rest. line_runs limit (at_computer first ∷ rest) t) (sym (swapped_carrying rounds))
    ∙ swapped_runs limit (at_analyzer first ∷ carrying at_analyzer at_computer rounds) t

-- ---- the laws

has_done :
    (limit more : ℕ) (texts : List (List ℕ)) (before : List Session) (w : World) (b : Beside) (t : TwoWay)
    → IsDone limit texts w b t → length w.sessions ≡ length before + more
    → HasDone limit more texts before t.near.sessions
has_done limit more texts before w b t done as_many =
    let sessions_are : t.near.sessions ≡ done.last.sessions = ap (λ (v : TwoWay). v.near.sessions) done.over_it.is in
    record {
      more_sessions = omega (arith, ap length sessions_are, done.is_carried.one_more, as_many);
      session_is =
          ap (session_at (length before + more)) sessions_are
          ∙ ap (λ k. session_at k done.last.sessions) (sym as_many)
          ∙ done.is_carried.session_is;
    }

calm_turned : (t : TwoWay) → IsCalmLine t → IsCalmLine (turned t)
calm_turned t calm = record { none_out = calm.none_in; none_in = calm.none_out; near = calm.far; far = calm.near }

holds_after : (limit : ℕ) → IsLimit limit → (events : List LineEvent) → HoldsBoth limit (two_way limit events)
holds_after limit is_limit events = events_both limit is_limit events new_two_way (new_both limit)

after_more : (limit : ℕ) (events more : List LineEvent)
    → two_way limit (events ++ more) ≡ line_runs limit more (two_way limit events)
after_more limit events more = line_runs-append limit events more new_two_way

pub carries_one : (limit : ℕ) → IsLimit limit → CarriesOne limit
carries_one limit is_limit events texts rounds calm are enough =
    let t : TwoWay = two_way limit events in
    let both = holds_after limit is_limit events in
    let here = alone_is_done limit texts rounds t is_limit calm both.out are enough in
    let there = alone_is_done limit texts rounds (turned t) is_limit (calm_turned t calm) both.back are enough in (
      subst (λ (v : TwoWay). HasDone limit 0 texts t.near.sessions v.near.sessions)
          (sym (after_more limit events (alone at_analyzer at_computer texts rounds)))
          (has_done limit 0 texts t.near.sessions (resting_world t) (beside_of t) _ here (omega arith)),
      subst (λ (v : TwoWay). HasDone limit 0 texts t.far.sessions v.far.sessions)
          (sym (after_more limit events (alone at_computer at_analyzer texts rounds)
          ∙ runs_there limit (start texts) rounds t))
          (has_done limit 0 texts t.far.sessions (resting_world (turned t)) (beside_of (turned t)) _ there
          (omega arith)),
    )

-- ---- both ask at once

-- both met ENQ by ENQ; nothing else has changed
record Contend (texts answers : List (List ℕ)) (t v : TwoWay) : Type 0 where
  near_phase : v.near.station.sender.phase ≡ Contention
  far_phase : v.far.station.sender.phase ≡ Contention
  none_out : v.outward ≡ []
  none_in : v.inward ≡ []
  near_receiver : v.near.station.receiver ≡ t.near.station.receiver
  far_receiver : v.far.station.receiver ≡ t.far.station.receiver
  near_asks : v.near.station.asks_turn ≡ t.near.station.asks_turn
  far_asks : v.far.station.asks_turn ≡ t.far.station.asks_turn
  near_texts : texts_of v.near ≡ texts
  far_texts : texts_of v.far ≡ answers
  near_more : length v.near.sessions ≡ length t.near.sessions + 1
  far_more : length v.far.sessions ≡ length t.far.sessions + 1

abbrev calm_end : End → End
calm_end e = record e {
  station = record e.station {
    sender = record e.station.sender { phase = Neutral };
    receiver = record e.station.receiver { is_open = false; readiness = Ready; room = true };
    asks_turn = false;
  };
}

abbrev calm_form : TwoWay → TwoWay
calm_form t = record { near = calm_end t.near; far = calm_end t.far; outward = []; inward = [] }

calm_is : (t : TwoWay) → IsCalmLine t → t ≡ calm_form t
calm_is t calm = λ i. record {
  near = record t.near {
    station = record t.near.station {
      sender = record t.near.station.sender { phase = calm.near.neutral i };
      receiver = record t.near.station.receiver {
        is_open = calm.near.closed i;
        readiness = calm.near.ready i;
        room = calm.near.room i;
      };
      asks_turn = calm.near.no_request i;
    };
  };
  far = record t.far {
    station = record t.far.station {
      sender = record t.far.station.sender { phase = calm.far.neutral i };
      receiver = record t.far.station.receiver {
        is_open = calm.far.closed i;
        readiness = calm.far.ready i;
        room = calm.far.room i;
      };
      asks_turn = calm.far.no_request i;
    };
  };
  outward = calm.none_out i;
  inward = calm.none_in i;
}

-- the session that was begun last, once its sender is booked to it
last_texts : (sender : SenderState) (texts : List (List ℕ)) (ss : List Session)
    → (session_at (length ss) (changed (length ss) (follows sender) (ss ++ new_session texts ∷ []))).texts ≡ texts
last_texts sender texts ss =
    kept-changed (λ (x : Session). x.texts) (length ss) (follows sender) (ss ++ new_session texts ∷ []) (λ x. refl)
    (length ss)
    ∙ ap (λ (x : Session). x.texts) (at-more_last ss (new_session texts))

one_more : (k : ℕ) (sender : SenderState) (texts : List (List ℕ)) (ss : List Session)
    → length (changed k (follows sender) (ss ++ new_session texts ∷ [])) ≡ length ss + 1
one_more k sender texts ss =
    length-changed k (follows sender) (ss ++ new_session texts ∷ []) ∙ length_push ss (new_session texts)

crossed : (limit : ℕ) (texts answers : List (List ℕ)) (t : TwoWay)
    → Contend texts answers (calm_form t)
    (line_runs limit (at_computer arrive ∷ at_analyzer arrive ∷ [])
    (turned (begins_out limit None answers (turned (begins_out limit None texts (calm_form t))))))
crossed limit texts answers t =
    let near : SenderState = record (started limit texts) { phase = Contention } in
    let far : SenderState = record (started limit answers) { phase = Contention } in
    record {
      near_phase = refl;
      far_phase = refl;
      none_out = refl;
      none_in = refl;
      near_receiver = refl;
      far_receiver = refl;
      near_asks = refl;
      far_asks = refl;
      near_texts = last_texts near texts t.near.sessions;
      far_texts = last_texts far answers t.far.sessions;
      near_more = one_more (length t.near.sessions) near texts t.near.sessions;
      far_more = one_more (length t.far.sessions) far answers t.far.sessions;
    }

both_contend :
    (limit : ℕ) (texts answers : List (List ℕ)) (t : TwoWay)
    → IsCalmLine t → bad_texts texts ≡ None → bad_texts answers ≡ None
    → Contend texts answers t (line_runs limit (both_ask texts answers) t)
both_contend limit texts answers t calm taken other_taken =
    let fault_of : Option StartFault → Option StationFault = option_map Faults.Start in
    let there : List LineEvent = at_computer arrive ∷ at_analyzer arrive ∷ [] in
    let rest : List LineEvent = at_computer (start answers) ∷ there in
    subst (λ (v : TwoWay). Contend texts answers v (line_runs limit (both_ask texts answers) v)) (sym (calm_is t calm))
    (subst (λ f. Contend texts answers (calm_form t) (line_runs limit rest
    (begins_out limit (fault_of f) texts (calm_form t)))) (sym taken)
    (subst (λ f. Contend texts answers (calm_form t) (line_runs limit there
    (turned (begins_out limit (fault_of f) answers (turned (begins_out limit None texts (calm_form t)))))))
    (sym other_taken) (crossed limit texts answers t)))

-- after both asked the analyzer waits, and the other side hears it
waits_first :
    (texts answers : List (List ℕ)) (t v : TwoWay) → IsCalmLine t → Contend texts answers t v → Waits texts v
waits_first texts answers t v calm contend = record {
  contends = contend.near_phase;
  texts_are = contend.near_texts;
  closed = ap (λ (r : ReceiverState). r.is_open) contend.near_receiver ∙ calm.near.closed;
  none_out = contend.none_out;
  none_in = contend.none_in;
  far_hears = ap awaits_reply contend.far_phase;
  far_ready = ap (λ (r : ReceiverState). r.readiness) contend.far_receiver ∙ calm.far.ready;
  far_room = ap (λ (r : ReceiverState). r.room) contend.far_receiver ∙ calm.far.room;
  no_request = contend.far_asks ∙ calm.far.no_request;
}

-- once the analyzer's session is done, the computer waits, and the analyzer hears it
waits_then :
    (limit : ℕ) (texts answers : List (List ℕ)) (t v u : TwoWay) → IsCalmLine t → Contend texts answers t v
    → IsDone limit texts (resting_world v) (beside_of v) u
    → Waits answers (turned u)
waits_then limit texts answers t v u calm contend done =
    let is : u ≡ over done.last (beside_of v) done.over_it.near_turn done.over_it.far_turn = done.over_it.is in
    record {
      contends = ap (λ (x : TwoWay). x.far.station.sender.phase) is ∙ contend.far_phase;
      texts_are = ap (λ (x : TwoWay). texts_of x.far) is ∙ contend.far_texts;
      closed = ap (λ (x : TwoWay). x.far.station.receiver.is_open) is ∙ done.is_carried.receiver_neutral;
      none_out = ap (λ (x : TwoWay). x.inward) is ∙ ap (map answered) done.no_replies;
      none_in = ap (λ (x : TwoWay). x.outward) is ∙ ap (map sent) done.no_units;
      far_hears =
          ap (λ (x : TwoWay). awaits_reply x.near.station.sender.phase) is
          ∙ ap awaits_reply done.is_carried.sender_neutral;
      far_ready =
          ap (λ (x : TwoWay). x.near.station.receiver.readiness) is
          ∙ ap (λ (r : ReceiverState). r.readiness) contend.near_receiver ∙ calm.near.ready;
      far_room =
          ap (λ (x : TwoWay). x.near.station.receiver.room) is
          ∙ ap (λ (r : ReceiverState). r.room) contend.near_receiver ∙ calm.near.room;
      no_request = ap (λ (x : TwoWay). x.near.station.asks_turn) is ∙ contend.near_asks ∙ calm.near.no_request;
    }

pub carries_both : (limit : ℕ) → IsLimit limit → CarriesBoth limit
carries_both limit is_limit events texts answers rounds answering calm are are_answers enough enough_answers =
    let t : TwoWay = two_way limit events in
    let asking : List LineEvent = both_ask texts answers in
    let first : List LineEvent = at_analyzer timer ∷ carrying at_analyzer at_computer rounds in
    let second : List LineEvent = at_computer timer ∷ carrying at_computer at_analyzer answering in
    let v : TwoWay = line_runs limit asking t in
    let u : TwoWay = line_runs limit first v in
    let v_is : two_way limit (events ++ asking) ≡ v = after_more limit events asking in
    let u_is : two_way limit ((events ++ asking) ++ first) ≡ u =
    after_more limit (events ++ asking) first ∙ ap (line_runs limit first) v_is in
    let contend = both_contend limit texts answers t calm are.not_refused are_answers.not_refused in
    let holds_v : HoldsBoth limit v = subst (HoldsBoth limit) v_is (holds_after limit is_limit (events ++ asking)) in
    let holds_u : HoldsBoth limit u =
    subst (HoldsBoth limit) u_is (holds_after limit is_limit ((events ++ asking) ++ first)) in
    let done = waiting_is_done limit texts rounds v is_limit (waits_first texts answers t v calm contend) holds_v.out
    are enough in
    let done_then = waiting_is_done limit answers answering (turned u) is_limit
    (waits_then limit texts answers t v u calm contend done) holds_u.back are_answers enough_answers in
    let x : TwoWay = line_runs limit (at_analyzer timer ∷ carrying at_analyzer at_computer answering) (turned u) in
    let whole : two_way limit (events ++ (asking ++ (first ++ second))) ≡ turned x =
    after_more limit events (asking ++ (first ++ second))
    ∙ line_runs-append limit asking (first ++ second) t
    ∙ line_runs-append limit first second v
    ∙ runs_there limit timer answering u in
    let x_is : x ≡ over done_then.last (beside_of (turned u)) done_then.over_it.near_turn done_then.over_it.far_turn =
    done_then.over_it.is in
    let its_own : HasDone limit 1 texts t.near.sessions u.near.sessions =
    has_done limit 1 texts t.near.sessions (resting_world v) (beside_of v) u done contend.near_more in
    let there_are : length (turned u).near.sessions ≡ length t.far.sessions + 1 =
    ap (λ (y : TwoWay). length y.far.sessions) done.over_it.is ∙ contend.far_more in
    let its_answers : HasDone limit 1 answers t.far.sessions x.near.sessions =
    has_done limit 1 answers t.far.sessions (resting_world (turned u)) (beside_of (turned u)) x done_then there_are in (
      subst (λ (y : TwoWay). HasDone limit 1 texts t.near.sessions y.near.sessions) (sym whole)
          (subst (λ ss. HasDone limit 1 texts t.near.sessions ss)
          (sym (ap (λ (y : TwoWay). y.far.sessions) x_is)) its_own),
      subst (λ (y : TwoWay). HasDone limit 1 answers t.far.sessions y.far.sessions) (sym whole) its_answers,
    )
