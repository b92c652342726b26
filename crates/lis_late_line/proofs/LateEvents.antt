-- What else happens on a line that answers late: timers, restarts, starts, and a new connection.
use Rattle.std.proofs.Common.{◌≡◌, ℕ, zero, suc, ◌-◌, ◌≤◌, Bool, true, false, List, [], ◌∷◌, length, map, take, drop}
use Rattle.std.proofs.Common.{◌<◌, Option, None, Some, refl, sym, ap, ◌∙◌, subst, arith}
use Rattle.std.specs.Option.{option_map}
use Rattle.std.proofs.lemmas.List.{drop_all, take_all}
use Rattle.lis_frame.specs.Limit.{IsLimit}
use Rattle.lis_link.specs.declared.sender.Phase.{Phase}
use Rattle.lis_link.specs.declared.sender.Phase.TheVariants.{Neutral, AwaitLine, Busy, Contention, AwaitReply}
use Rattle.lis_link.specs.declared.sender.Outcome.TheVariants.{TimedOut, Restarted}
use Rattle.lis_link.specs.Receiver.{ReceiverState, receiver_restarted, with_room}
use Rattle.lis_link.specs.declared.sender.StartFault.{StartFault}
use Rattle.lis_link.specs.Sender.{SenderState, ends, finished_with, timer_in, on_sender_timer, restart_in, started}
use Rattle.lis_link.specs.Sender.{bad_texts, start_fault_in, start_fault}
use Rattle.lis_world.specs.Unit.{Load, enquiry, ending, one_frame, Travelling}
use Rattle.lis_world.specs.Session.{session_at}
use Rattle.lis_world.specs.World.{World, lowered}
use Rattle.lis_world.proofs.Invariant.{AllEndings, Waits, Following, Leads, Front, InPhase, Holds}
use Rattle.lis_world.proofs.Delivery.{next_frame}
use Rattle.lis_world.specs.Steps.{forgotten}
use Rattle.lis_world.proofs.Starting.{can_start}
use Rattle.lis_station.specs.declared.station.StationFault.{StationFault}
use Rattle.lis_station.specs.declared.station.StationFault.TheVariants.{Start}
use Rattle.lis_station.specs.declared.station.Turn.{Turn}
use Rattle.lis_station.specs.declared.station.Turn.TheVariants.{Free}
use Rattle.lis_station.specs.Laws.{IsExclusive}
use Rattle.lis_station.specs.Station.{StationState, timed_by, station_fault, station_fault_by, line_closed}
use Rattle.lis_station.specs.Station.{awaits_reply}
use Rattle.lis_station.specs.Line.{Item, sent, answered, End, TwoWay, turned, units_of, texts_of, with_station}
use Rattle.lis_station.specs.Line.{with_session, followed_by, put_out, sender_went, forgotten_out, asks_anew}
use Rattle.lis_station.specs.Line.{sender_timed, timed, begins_out, room_near, StationEvent, timer, give_up}
use Rattle.lis_station.specs.Line.{restart, close_line, set_ready, ask_turn, happens, at_analyzer}
use Rattle.lis_station.specs.inside.Line.{answers_of}
use Rattle.lis_station.proofs.Shadow.{shadow_in, IsFrame, NoEnquiry, CanAsk, AsksWith, HoldsOut}
use Rattle.lis_station.proofs.Directions.{begun, begun_out}
use Rattle.lis_station.proofs.FarUnits.{unit_in, far_sender_out}
use Rattle.lis_station.proofs.NearEvents.{but_sender, with_sender}
use Rattle.lis_station.proofs.Both.{answers_joined, NotContending}
use Rattle.lis_station.proofs.Events.{HoldsBoth, turned_both, lost_both}
use Rattle.lis_station.proofs.TwoWayLaw.{line_event_both}
use Rattle.lis_late_line.specs.Late.{sender_timed_late, timed_late, happens_late, connected_anew}
use Rattle.lis_late_line.specs.Discipline.{is_waiting}
use Rattle.lis_late_line.proofs.Hushed.{kept, dropped, heard_as, hushed, units_kept, put_as, sender_as}
use Rattle.lis_late_line.proofs.Deaf.{near_changed, booked_already, forgotten_heard, deafened}
use Rattle.lis_late_line.proofs.LateItems.{is_deaf_in, is_deaf, HoldsLate}

-- ---- the line is quiet to a station

-- no reply is on its way to it, and what it has sent is not answered
pub record IsQuiet (t : TwoWay) : Type 0 where
  pub endings : AllEndings (units_of t.outward)
  pub no_answer : answers_of t.inward ≡ []

only_units : (items : List Item) → answers_of items ≡ [] → map sent (units_of items) ≡ items
only_units [] none = refl
only_units (sent u ∷ items) none = ap (λ xs. sent u ∷ xs) (only_units items none)
only_units (answered b ∷ items) none = absurd (cc)

-- a deaf station hears the whole of it
kept_quiet : (d : Bool) (items : List Item) → answers_of items ≡ [] → kept d items ≡ items
kept_quiet true items none = only_units items none
kept_quiet false items none = refl

fewer_endings : (n : ℕ) (us : List Travelling) → AllEndings us → AllEndings (drop n us)
fewer_endings zero us all = all
fewer_endings (suc n) [] all = tt
fewer_endings (suc n) (u ∷ us) all = fewer_endings n us all.1

-- in a direction at rest it makes no difference whether EOT is answered in time
resting_world :
    (limit : ℕ) (w : World) (us : List Travelling) (n : ℕ) (replies : List ℕ)
    → w.sender.phase ≡ Neutral
    → n ≤ length us
    → replies ≡ []
    → AllEndings us
    → Front w.sessions w.receiver.is_open w.opened us
    → Holds limit w
    → Holds limit (record w { units = us; to_drop = n; replies = replies })
resting_world limit w us n replies is within none endings front h = record {
  sound = h.sound;
  to_drop_within = within;
  line = h.line;
  front = front;
  current = h.current;
  phase = subst (λ p. InPhase p (record w { units = us; to_drop = n; replies = replies })) (sym is)
      (record { no_reply = none; live_endings = fewer_endings n us endings });
}

-- nor whether any unit is
forgotten_holds : (limit : ℕ) (w : World) → w.sender.phase ≡ Neutral → Holds limit w → Holds limit (forgotten w)
forgotten_holds limit w is h = record {
  sound = h.sound;
  to_drop_within = omega arith;
  line = h.line;
  front = h.front;
  current = h.current;
  phase = subst (λ p. InPhase p (forgotten w)) (sym is)
      (record { no_reply = refl; live_endings = subst AllEndings (sym (drop_all _ w.units (omega arith))) tt });
}

-- ---- the line is new to a station

-- none of its units is an ENQ
abbrev pub IsNoRequest : Load → Type 0
IsNoRequest enquiry = ⊥
IsNoRequest ending = Unit {0}
IsNoRequest (one_frame f) = Unit {0}

abbrev pub NoRequest : List Travelling → Type 0
NoRequest [] = Unit {0}
NoRequest (u ∷ us) = IsNoRequest u.load × NoRequest us

-- it has sent no ENQ on it, no reply is on its way, and the other side's receiver waits for an ENQ
pub record IsNew (t : TwoWay) : Type 0 where
  pub no_request : NoRequest (units_of t.outward)
  pub no_answer : answers_of t.inward ≡ []
  pub far_shut : t.far.station.receiver.is_open ≡ false

-- then each of its units is EOT or a frame of a text
module _ (limit : ℕ) (is_limit : IsLimit limit) (w : World) (h : Holds limit w) where
  front_frame : (load : Load) (s : ℕ) → Leads w.sessions w.receiver.is_open w.opened s load → IsNoRequest load
      → IsFrame limit load
  front_frame enquiry s leads asks = absurd asks
  front_frame ending s leads asks = tt
  front_frame (one_frame f) s leads asks =
      (next_frame limit (session_at s w.sessions) leads.0 f is_limit (h.sound s) leads.1.sent_is).content

  following_frame : (load : Load) (s : ℕ) → Waits w.sessions s load → IsNoRequest load → IsFrame limit load
  following_frame enquiry s waits asks = absurd asks
  following_frame ending s waits asks = tt
  following_frame (one_frame f) s waits asks = absurd waits

  following_frames : (us : List Travelling) → Following w.sessions us → NoRequest us → NoEnquiry limit us
  following_frames [] follow none = tt
  following_frames (u ∷ us) follow none =
      (following_frame u.load u.session follow.0 none.0, following_frames us follow.1 none.1)

  all_frames : (n : ℕ) (us : List Travelling) → NoEnquiry limit (take n us)
      → Front w.sessions w.receiver.is_open w.opened (drop n us)
      → NoRequest us
      → NoEnquiry limit us
  all_frames zero [] first front none = tt
  all_frames zero (u ∷ us) first front none =
      (front_frame u.load u.session front.0 none.0, following_frames us front.1 none.1)
  all_frames (suc n) [] first front none = tt
  all_frames (suc n) (u ∷ us) first front none = (first.0, all_frames n us first.1 front none.1)

-- ---- the station changes, but not its sender

module _ (limit : ℕ) (t : TwoWay) (h : HoldsLate limit t) where
  pub near_late :
      (r : ReceiverState) (turn : Turn) (asks : Bool)
      → (r.is_open ≡ true → t.near.station.receiver.is_open ≡ true)
      → r.accepted ≡ t.near.station.receiver.accepted
      → NotContending r.readiness
      → HoldsLate limit (record t { near = with_station (but_sender r turn asks t.near.station) t.near })
  near_late r turn asks was_open same fair = record {
    near_drops_none = h.near_drops_none;
    far_drops_none = h.far_drops_none;
    holds = near_changed limit (hushed (is_deaf t.near.station) (is_deaf t.far.station) t) r turn asks h.holds was_open
        same fair;
    near_answers = h.near_answers;
    far_answers = h.far_answers;
  }

  pub room_late : (room : Bool) → HoldsLate limit (room_near room t)
  room_late room =
      near_late (with_room room t.near.station.receiver) t.near.station.turn t.near.station.asks_turn (λ e. e) refl
      h.holds.near_fair

module _ (limit : ℕ) (is_limit : IsLimit limit) (t : TwoWay) (h : HoldsLate limit t) where
  abbrev here_deaf : Bool
  here_deaf = is_deaf t.near.station

  abbrev there_deaf : Bool
  there_deaf = is_deaf t.far.station

  abbrev here_dropped : ℕ
  here_dropped = dropped here_deaf (units_of t.outward)

  abbrev there_dropped : ℕ
  there_dropped = dropped there_deaf (units_of t.inward)

  -- on the line that the stations hear
  happens_heard : (event : StationEvent) → HoldsBoth limit (happens limit event (hushed here_deaf there_deaf t))
  happens_heard event =
      line_event_both limit is_limit (at_analyzer event) (hushed here_deaf there_deaf t) h.holds

  -- what leaves the sender, the line and what is booked as they are
  with_holds :
      (s : StationState)
      → s.sender ≡ t.near.station.sender
      → HoldsBoth limit (record (hushed here_deaf there_deaf t) {
        near = with_station s (hushed here_deaf there_deaf t).near;
      })
      → HoldsLate limit (record t { near = with_station s t.near })
  with_holds s same held = record {
    near_drops_none = h.near_drops_none;
    far_drops_none = h.far_drops_none;
    holds = subst (λ (x : SenderState). HoldsBoth limit
        (hushed (is_deaf_in x.phase x.outcome) there_deaf (record t { near = with_station s t.near }))) (sym same) held;
    near_answers = h.near_answers;
    far_answers = h.far_answers;
  }

  pub close_late : HoldsLate limit (happens limit close_line t)
  close_late = with_holds (line_closed t.near.station) refl (happens_heard close_line)

  pub ready_late : (ready : Bool) → HoldsLate limit (happens limit (set_ready ready) t)
  ready_late ready = with_holds (happens limit (set_ready ready) t).near.station refl (happens_heard (set_ready ready))

  pub ask_late : HoldsLate limit (happens limit ask_turn t)
  ask_late = with_holds (happens limit ask_turn t).near.station refl (happens_heard ask_turn)

  -- ---- the timer

  -- the line, as it is heard, after the timer of either end
  timer_heard : (is_open : Bool) → t.near.station.receiver.is_open ≡ is_open
      → HoldsBoth limit (timed limit is_open (hushed here_deaf there_deaf t))
  timer_heard is_open is =
      subst (λ o. HoldsBoth limit (timed limit o (hushed here_deaf there_deaf t))) is (happens_heard timer)

  -- a session that times out ends with EOT
  abbrev after_end : StationState
  after_end = with_sender (finished_with TimedOut t.near.station.sender) t.near.station

  abbrev ended : TwoWay → TwoWay
  ended x = put_out ending (record x { near = followed_by after_end x.near })

  ended_late : HoldsBoth limit (ended (forgotten_out (hushed here_deaf there_deaf t))) → HoldsLate limit (ended t)
  ended_late held =
      let n : ℕ = length (units_of t.outward) in
      let forgot : HoldsBoth limit (ended (heard_as true there_deaf n there_dropped t)) =
      subst (λ x. HoldsBoth limit (ended x)) (forgotten_heard here_deaf there_deaf here_dropped there_dropped t) held in
      let at : HoldsBoth limit (heard_as true there_deaf n there_dropped (ended t)) =
      subst (HoldsBoth limit)
      (sender_as true there_deaf n there_dropped (ends {limit = limit} TimedOut t.near.station.sender) after_end t)
      forgot in
      record {
        near_drops_none = h.near_drops_none;
        far_drops_none = h.far_drops_none;
        holds = deafened limit is_limit true there_deaf n there_dropped (ended t) refl at;
        near_answers = answers_joined t.outward
            (sent (record { session = t.near.current; load = ending }) ∷ []) h.near_answers tt;
        far_answers = h.far_answers;
      }

  -- ---- ENQ goes out

  -- on a line where nothing is lost to this station
  abbrev free_line : TwoWay
  free_line = hushed false there_deaf t

  -- its units, on the line that the stations hear
  abbrev sent_out : List Travelling
  sent_out = units_of (kept there_deaf t.outward)

  pub record IsFree : Type 0 where
    pub lost : ℕ
    pub lost_within : lost ≤ length sent_out
    pub holds : Holds limit (shadow_in Neutral lost free_line)
    pub lost_unheard : 0 < lost → t.far.station.receiver.is_open ≡ false
    pub lost_frames : NoEnquiry limit (take lost sent_out)
    pub back : HoldsOut limit (turned free_line)

  free_hearing : here_deaf ≡ false → t.near.station.sender.phase ≡ Neutral → IsFree
  free_hearing hears is = record {
    lost = h.holds.out.lost;
    lost_within = h.holds.out.lost_within;
    holds = subst (λ d. Holds limit (shadow_in Neutral h.holds.out.lost (hushed d there_deaf t))) hears
        (subst (λ p. Holds limit (shadow_in p h.holds.out.lost (hushed here_deaf there_deaf t))) is h.holds.out.holds);
    lost_unheard = h.holds.out.lost_unheard;
    lost_frames = h.holds.out.lost_frames;
    back = subst (λ d. HoldsOut limit (turned (hushed d there_deaf t))) hears h.holds.back;
  }

  -- its direction at rest, without the units that are lost
  at_rest : (p : Phase) → t.near.station.sender.phase ≡ p → awaits_reply p ≡ false
      → Holds limit (record (shadow_in Neutral h.holds.out.lost free_line) {
        replies = [];
        to_drop = length (drop h.holds.out.lost sent_out);
      })
  at_rest p is rests = by p (subst (λ q. Holds limit (shadow_in q lost heard_line)) is h.holds.out.holds) rests
    where
      lost : ℕ
      lost = h.holds.out.lost

      heard_line : TwoWay
      heard_line = hushed here_deaf there_deaf t

      by : (p : Phase) → Holds limit (shadow_in p lost heard_line) → awaits_reply p ≡ false
          → Holds limit (record (shadow_in Neutral lost free_line) {
            replies = [];
            to_drop = length (drop lost sent_out);
          })
      by Neutral before rests = forgotten_holds limit (shadow_in Neutral lost heard_line) refl before
      by AwaitLine before rests = cc
      by Busy before rests = before
      by Contention before rests = before
      by AwaitReply before rests = cc

  free_back : answers_of t.inward ≡ [] → HoldsOut limit (turned free_line)
  free_back none =
      subst (λ xs. HoldsOut limit (record (turned free_line) { outward = xs })) (kept_quiet here_deaf t.inward none)
      (far_sender_out limit (turned (hushed here_deaf there_deaf t)) free_line.near refl refl h.holds.back)

  -- a quiet line
  pub free_quiet : awaits_reply t.near.station.sender.phase ≡ false → IsQuiet t → IsFree
  free_quiet rests quiet = record {
    lost = h.holds.out.lost;
    lost_within = h.holds.out.lost_within;
    holds = resting_world limit _ (drop h.holds.out.lost sent_out) (0 - h.holds.out.lost) (answers_of t.inward) refl
        (omega arith) quiet.no_answer
        (fewer_endings h.holds.out.lost sent_out
        (subst AllEndings (sym (units_kept there_deaf t.outward)) quiet.endings))
        (at_rest t.near.station.sender.phase refl rests).front
        (at_rest t.near.station.sender.phase refl rests);
    lost_unheard = h.holds.out.lost_unheard;
    lost_frames = h.holds.out.lost_frames;
    back = free_back quiet.no_answer;
  }

  -- a new one: all that went out on it is lost
  pub free_new : awaits_reply t.near.station.sender.phase ≡ false → IsNew t → IsFree
  free_new rests new =
      let all : ℕ = length sent_out in
      let none : drop all sent_out ≡ [] = drop_all all sent_out (omega arith) in
      let resting = at_rest t.near.station.sender.phase refl rests in
      record {
        lost = all;
        lost_within = omega arith;
        holds = subst (λ us. Holds limit (record (shadow_in Neutral all free_line) { units = us })) (sym none)
            (resting_world limit _ [] (0 - all) (answers_of t.inward) refl (omega arith) new.no_answer tt tt resting);
        lost_unheard = λ some. new.far_shut;
        lost_frames = subst (NoEnquiry limit) (sym (take_all all sent_out (omega arith)))
            (all_frames limit is_limit _ resting h.holds.out.lost sent_out h.holds.out.lost_frames resting.front
            (subst NoRequest (sym (units_kept there_deaf t.outward)) new.no_request));
        back = free_back new.no_answer;
      }

  -- a session begins
  abbrev begun_line : List (List ℕ) → Turn → TwoWay → TwoWay
  begun_line texts turn x =
      put_out enquiry (record x { near = with_session (begun limit texts turn t.near.station) texts x.near })

  shut_exclusive : (s : StationState) → s.receiver.is_open ≡ false → IsExclusive s
  shut_exclusive s shut = λ e.
      let both : true ≡ false = sym e ∙ shut in
      cc

  asked_late : (texts : List (List ℕ)) (turn : Turn) → t.near.station.receiver.is_open ≡ false
      → bad_texts texts ≡ None
      → IsFree
      → HoldsLate limit (begun_line texts turn t)
  asked_late texts turn shut fine free =
      let u : Travelling = record { session = length t.near.sessions; load = enquiry } in
      let after : StationState = begun limit texts turn t.near.station in
      let e : End = with_session after texts free_line.near in
      let held : HoldsBoth limit (begun_line texts turn free_line) = record {
        out = begun_out limit texts turn free_line free.lost free.lost_within free.holds free.lost_unheard
            free.lost_frames fine;
        back = unit_in limit is_limit _ (far_sender_out limit (turned free_line) e refl refl free.back) shut u;
        near_exclusive = shut_exclusive after shut;
        far_exclusive = h.holds.far_exclusive;
        near_fair = h.holds.near_fair;
        far_fair = h.holds.far_fair;
        near_answers = answers_joined (kept there_deaf t.outward) (sent u ∷ []) h.holds.near_answers tt;
        far_answers = h.far_answers;
      } in
      record {
        near_drops_none = h.near_drops_none;
        far_drops_none = h.far_drops_none;
        holds = subst (HoldsBoth limit) (put_as false there_deaf 0 there_dropped enquiry
            (record t { near = with_session after texts t.near })) held;
        near_answers = answers_joined t.outward (sent u ∷ []) h.near_answers tt;
        far_answers = h.far_answers;
      }

  -- a sender that waits asks again
  asks_again :
      (p : Phase)
      → t.near.station.receiver.is_open ≡ false
      → AsksWith limit p t.near.station.sender t.near.current t.near.sessions
      → (on_sender_timer {limit = limit} (record (started limit (texts_of t.near)) { phase = p })).after
      ≡ started limit (texts_of t.near)
      → IsFree
      → HoldsLate limit (asks_anew limit t)
  asks_again p shut can timed free =
      let after_is : (on_sender_timer {limit = limit} t.near.station.sender).after ≡ started limit (texts_of t.near) =
      ap (λ s. (on_sender_timer {limit = limit} s).after) can.sender_is ∙ timed in
      subst (λ s. HoldsLate limit (put_out enquiry (record t {
        near = with_session (with_sender s t.near.station) (texts_of t.near) t.near;
      }))) (sym after_is)
      (asked_late (texts_of t.near) t.near.station.turn shut can.not_refused free)

  abbrev went : Phase → TwoWay → TwoWay
  went p x = sender_went {limit = limit} (timer_in p t.near.station.sender)
      (with_sender (timer_in {limit = limit} p t.near.station.sender).after t.near.station) x

  -- by phases
  sender_timer_late : (p : Phase) → t.near.station.sender.phase ≡ p
      → HoldsBoth limit (sender_timed limit p (hushed here_deaf there_deaf t))
      → t.near.station.receiver.is_open ≡ false
      → (is_waiting p ≡ true → IsFree)
      → HoldsLate limit (sender_timed_late limit p t)
  sender_timer_late Neutral is held shut free = h
  sender_timer_late AwaitLine is held shut free =
      subst (λ p. HoldsLate limit (went p t)) (sym is)
      (ended_late
      (subst (λ p. HoldsBoth limit (went p (forgotten_out (hushed here_deaf there_deaf t)))) is held))
  sender_timer_late Busy is held shut free =
      asks_again Busy shut
      (subst (λ p. CanAsk limit p t.near.station.sender t.near.current t.near.sessions) is h.holds.out.can_ask) refl
      (free refl)
  sender_timer_late Contention is held shut free =
      asks_again Contention shut
      (subst (λ p. CanAsk limit p t.near.station.sender t.near.current t.near.sessions) is h.holds.out.can_ask) refl
      (free refl)
  sender_timer_late AwaitReply is held shut free =
      subst (λ p. HoldsLate limit (went p t)) (sym is)
      (ended_late
      (subst (λ p. HoldsBoth limit (went p (forgotten_out (hushed here_deaf there_deaf t)))) is held))

  pub timer_late : (is_open : Bool) → t.near.station.receiver.is_open ≡ is_open
      → (is_open ≡ false → is_waiting t.near.station.sender.phase ≡ true → IsFree)
      → HoldsLate limit (timed_late limit is_open t)
  timer_late true is free = with_holds (timed_by {limit = limit} true t.near.station).after refl (timer_heard true is)
  timer_late false is free =
      sender_timer_late t.near.station.sender.phase refl (timer_heard false is) is (free refl)

  -- ---- the session is given up

  abbrev rests_as : SenderState → TwoWay → TwoWay
  rests_as sender x = record x { near = followed_by (with_sender sender t.near.station) x.near }

  over_late : HoldsBoth limit (rests_as (finished_with Restarted t.near.station.sender)
      (forgotten_out (hushed here_deaf there_deaf t)))
      → HoldsLate limit (rests_as (finished_with Restarted t.near.station.sender) t)
  over_late held = record {
    near_drops_none = h.near_drops_none;
    far_drops_none = h.far_drops_none;
    holds = subst (λ x. HoldsBoth limit (rests_as (finished_with Restarted t.near.station.sender) x))
        (forgotten_heard here_deaf there_deaf here_dropped there_dropped t) held;
    near_answers = h.near_answers;
    far_answers = h.far_answers;
  }

  given_up_in : (p : Phase)
      → HoldsBoth limit (rests_as (restart_in p t.near.station.sender) (forgotten_out (hushed here_deaf there_deaf t)))
      → HoldsLate limit (rests_as (restart_in p t.near.station.sender) t)
  given_up_in Neutral held =
      subst (λ ss. HoldsLate limit (record t { near = record t.near { sessions = ss } }))
      (sym (booked_already limit (hushed here_deaf there_deaf t) h.holds.out)) h
  given_up_in AwaitLine held = over_late held
  given_up_in Busy held = over_late held
  given_up_in Contention held = over_late held
  given_up_in AwaitReply held = over_late held

  pub give_up_late : HoldsLate limit (happens_late limit give_up t)
  give_up_late = given_up_in t.near.station.sender.phase (happens_heard give_up)

  -- ---- a session begins

  not_mapped : (fault : Option StartFault) → option_map Start fault ≡ None → fault ≡ None
  not_mapped None e = refl
  not_mapped (Some fault) e = cc

  free_start : (is_open : Bool) (texts : List (List ℕ)) → station_fault_by is_open t.near.station texts ≡ None
      → (is_open ≡ false) × (start_fault t.near.station.sender texts ≡ None)
  free_start true texts none = cc
  free_start false texts none = (refl, not_mapped (start_fault t.near.station.sender texts) none)

  free_to_start : (d : Bool) → here_deaf ≡ d → t.near.station.sender.phase ≡ Neutral → (d ≡ true → IsFree) → IsFree
  free_to_start true is neutral free = free refl
  free_to_start false is neutral free = free_hearing is neutral

  pub begin_late : (texts : List (List ℕ)) (fault : Option StationFault) → station_fault t.near.station texts ≡ fault
      → (fault ≡ None → t.near.station.sender.phase ≡ Neutral → here_deaf ≡ true → IsFree)
      → HoldsLate limit (begins_out limit fault texts t)
  begin_late texts (Some fault) is free = h
  begin_late texts None is free =
      let may = free_start t.near.station.receiver.is_open texts is in
      let neutral : t.near.station.sender.phase ≡ Neutral = (can_start t.near.station.sender texts may.1).neutral in
      asked_late texts Free may.0 (subst (λ p. start_fault_in p texts ≡ None) neutral may.1)
      (free_to_start here_deaf refl neutral (free refl neutral))

pub restart_late : (limit : ℕ) (is_limit : IsLimit limit) (t : TwoWay) → HoldsLate limit t
    → HoldsLate limit (happens_late limit restart t)
restart_late limit is_limit t h =
    near_late limit (happens_late limit give_up t) (give_up_late limit is_limit t h)
    (receiver_restarted t.near.station.receiver) Free false (λ e. absurd (cc)) refl tt

-- ---- the line is connected anew

-- how many units are not answered, once these have left the line
abbrev left_of : List Item → ℕ → ℕ
left_of [] n = n
left_of (sent u ∷ items) n = left_of items (lowered n)
left_of (answered b ∷ items) n = left_of items n

none_left_of : (items : List Item) → left_of items 0 ≡ 0
none_left_of [] = refl
none_left_of (sent u ∷ items) = none_left_of items
none_left_of (answered b ∷ items) = none_left_of items

all_left_of : (items : List Item) → left_of items (length (units_of items)) ≡ 0
all_left_of [] = refl
all_left_of (sent u ∷ items) = all_left_of items
all_left_of (answered b ∷ items) = all_left_of items

dropped_left : (d : Bool) (items : List Item) → left_of items (dropped d (units_of items)) ≡ 0
dropped_left true items = all_left_of items
dropped_left false items = none_left_of items

-- each item on its way here is lost
all_lost :
    (limit : ℕ) (is_limit : IsLimit limit) (items : List Item) (x : TwoWay)
    → HoldsBoth limit (record x { inward = items })
    → HoldsBoth limit (record x { inward = []; far = record x.far { to_drop = left_of items x.far.to_drop } })
all_lost limit is_limit [] x h = h
all_lost limit is_limit (sent u ∷ items) x h =
    all_lost limit is_limit items (record x { far = record x.far { to_drop = lowered x.far.to_drop } })
    (lost_both limit is_limit (sent u ∷ items) x h)
all_lost limit is_limit (answered b ∷ items) x h =
    all_lost limit is_limit items x (lost_both limit is_limit (answered b ∷ items) x h)

none_left : (dn df : Bool) (items : List Item) → left_of (kept dn items) (dropped df (units_of items)) ≡ 0
none_left dn df items =
    ap (λ us. left_of (kept dn items) (dropped df us)) (sym (units_kept dn items)) ∙ dropped_left df (kept dn items)

-- the line is empty, however it is heard
empty_heard : (limit : ℕ) (dn df : Bool) (t : TwoWay) → HoldsBoth limit (heard_as false false 0 0 (connected_anew t))
    → HoldsBoth limit (hushed dn df (connected_anew t))
empty_heard limit true true t h = h
empty_heard limit true false t h = h
empty_heard limit false true t h = h
empty_heard limit false false t h = h

pub reconnect_late : (limit : ℕ) (is_limit : IsLimit limit) (t : TwoWay) → HoldsLate limit t
    → HoldsLate limit (connected_anew t)
reconnect_late limit is_limit t h =
    let dn : Bool = is_deaf t.near.station in
    let df : Bool = is_deaf t.far.station in
    let x : TwoWay = hushed dn df t in
    let x1 : TwoWay = record x { inward = []; far = record x.far { to_drop = 0 } } in
    let none_in : HoldsBoth limit x1 =
    subst (λ n. HoldsBoth limit (record x { inward = []; far = record x.far { to_drop = n } }))
    (none_left dn df t.inward) (all_lost limit is_limit (kept dn t.inward) x h.holds) in
    let y : TwoWay = turned x1 in
    let y1 : TwoWay = record y { inward = []; far = record y.far { to_drop = 0 } } in
    let none_out : HoldsBoth limit y1 =
    subst (λ n. HoldsBoth limit (record y { inward = []; far = record y.far { to_drop = n } }))
    (none_left df dn t.outward) (all_lost limit is_limit (kept df t.outward) y (turned_both limit x1 none_in)) in
    let far_closed : HoldsBoth limit (turned (happens limit close_line y1)) =
    turned_both limit (happens limit close_line y1)
    (line_event_both limit is_limit (at_analyzer close_line) y1 none_out)
    in
    record {
      near_drops_none = h.near_drops_none;
      far_drops_none = h.far_drops_none;
      holds = empty_heard limit dn df t
          (line_event_both limit is_limit (at_analyzer close_line) (turned (happens limit close_line y1)) far_closed);
      near_answers = tt;
      far_answers = tt;
    }
