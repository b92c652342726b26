-- The rule: what an ENQ finds on the line, and the law.
use Rattle.std.proofs.Common.{◌≡◌, ◌⊎◌, inl, inr, ℕ, Bool, true, false, List, [], ◌∷◌, refl, sym, ap, ◌∙◌}
use Rattle.std.specs.Prelude.{◌&&◌, not}
use Rattle.std.specs.List.{fold}
use Rattle.std.specs.Option.{is_none}
use Rattle.std.proofs.lemmas.Bool.{and_parts}
use Rattle.lis_frame.specs.Limit.{IsLimit}
use Rattle.lis_link.specs.declared.sender.Phase.{Phase}
use Rattle.lis_link.specs.declared.sender.Phase.TheVariants.{Neutral, AwaitLine, Busy, Contention, AwaitReply}
use Rattle.lis_link.specs.Sender.{SenderState}
use Rattle.lis_world.specs.Unit.{Load, enquiry, ending, one_frame, Travelling}
use Rattle.lis_world.specs.Session.{Session}
use Rattle.lis_world.specs.Late.{is_ending, only_endings, reply_may_come}
use Rattle.lis_world.proofs.Invariant.{AllEndings}
use Rattle.lis_station.specs.Station.{awaits_reply, station_fault}
use Rattle.lis_station.specs.Line.{Item, sent, answered, TwoWay, turned, units_of}
use Rattle.lis_station.specs.Line.{arrives}
use Rattle.lis_station.specs.Line.{room_near, StationEvent, start, arrive, arrive_without_room}
use Rattle.lis_station.specs.Line.{damage, lose, timer, give_up, close_line, restart, set_ready, ask_turn}
use Rattle.lis_station.specs.Line.{at_analyzer, at_computer, new_two_way}
use Rattle.lis_station.specs.inside.Line.{answers_of}
use Rattle.lis_station.proofs.Shadow.{CanAsk}
use Rattle.lis_station.proofs.NearEvents.{safe_out}
use Rattle.lis_station.proofs.TwoWayLaw.{new_both}
use Rattle.lis_late_line.specs.Late.{LateEvent, on_line, reconnect, after_late_event, happens_late}
use Rattle.lis_late_line.specs.Discipline.{on_each_enquiry, is_waiting, IsNewTo, is_new_after, holds_no_reply, is_quiet}
use Rattle.lis_late_line.specs.Discipline.{Rule, on_new_lines, on_quiet_lines, is_in_time, are_in_time}
use Rattle.lis_late_line.specs.Discipline.{new_to_both, AreSafeBothWays, SafeByRule}
use Rattle.lis_late_line.proofs.Hushed.{hushed}
use Rattle.lis_late_line.proofs.LateItems.{is_deaf_in, is_deaf, HoldsLate, turned_late, arrives_late, damaged_late}
use Rattle.lis_late_line.proofs.LateItems.{lost_late}
use Rattle.lis_late_line.proofs.Newness.{not_true, near_new, far_new}
use Rattle.lis_late_line.proofs.LateEvents.{IsQuiet, IsNew, IsFree, free_quiet, free_new, room_late, close_late}
use Rattle.lis_late_line.proofs.LateEvents.{ready_late, ask_late, timer_late}
use Rattle.lis_late_line.proofs.LateEvents.{give_up_late}
use Rattle.lis_late_line.proofs.LateEvents.{begin_late, restart_late, reconnect_late}

-- what is quiet by the test is
ending_is : (load : Load) → is_ending load ≡ true → load ≡ ending
ending_is enquiry e = cc
ending_is ending e = refl
ending_is (one_frame f) e = cc

all_endings : (us : List Travelling) → only_endings us ≡ true → AllEndings us
all_endings [] e = tt
all_endings (u ∷ us) e =
    let parts = and_parts (is_ending u.load) (only_endings us) e in
    (ending_is u.load parts.0, all_endings us parts.1)

no_reply : (items : List Item) → holds_no_reply items ≡ true → answers_of items ≡ []
no_reply [] e = refl
no_reply (sent u ∷ items) e = no_reply items e
no_reply (answered b ∷ items) e = cc

tested_quiet : (t : TwoWay) → is_quiet t ≡ true → IsQuiet t
tested_quiet t e =
    let parts = and_parts (only_endings (units_of t.outward)) (holds_no_reply t.inward) e in
    record { endings = all_endings (units_of t.outward) parts.0; no_answer = no_reply t.inward parts.1 }

-- ---- an event at a station whose ENQ is in time

-- a rule is enough if each ENQ after a session to which a reply may come finds the line new or quiet
abbrev pub IsEnough : Rule → Type 0
IsEnough rule =
    (event : StationEvent) (t : TwoWay) (is_new : Bool)
    → rule event t is_new ≡ true
    → on_each_enquiry event t.near.station ≡ true
    → reply_may_come t.near.station.sender.outcome ≡ true
    → (is_new ≡ true → IsNew t)
    → IsNew t ⊎ IsQuiet t

must_be : (asks owed free : Bool) → not (asks && (owed && not free)) ≡ true → asks ≡ true → owed ≡ true → free ≡ true
must_be true true true e asked owes = refl
must_be true true false e asked owes = cc
must_be true false free e asked owes = cc
must_be false owed free e asked owes = cc

pub enough_new : IsEnough (on_new_lines on_each_enquiry)
enough_new event t is_new in_time asks owes new =
    inl (new (must_be (on_each_enquiry event t.near.station) (reply_may_come t.near.station.sender.outcome) is_new
    in_time asks owes))

pub enough_quiet : IsEnough (on_quiet_lines on_each_enquiry)
enough_quiet event t is_new in_time asks owes new =
    inr (tested_quiet t (must_be (on_each_enquiry event t.near.station)
    (reply_may_come t.near.station.sender.outcome) (is_quiet t) in_time asks owes))

-- a session that waits has no outcome
waits_owed : (limit : ℕ) (p : Phase) (s : SenderState) (current : ℕ) (sessions : List Session)
    → is_waiting p ≡ true
    → CanAsk limit p s current sessions
    → reply_may_come s.outcome ≡ true
waits_owed limit Neutral s current sessions waits can = cc
waits_owed limit AwaitLine s current sessions waits can = cc
waits_owed limit Busy s current sessions waits can = ap (λ (x : SenderState). reply_may_come x.outcome) can.sender_is
waits_owed limit Contention s current sessions waits can =
    ap (λ (x : SenderState). reply_may_come x.outcome) can.sender_is
waits_owed limit AwaitReply s current sessions waits can = cc

module _ (limit : ℕ) (is_limit : IsLimit limit) (rule : Rule) (enough : IsEnough rule) (t : TwoWay)
    (h : HoldsLate limit t) where
  -- then nothing is lost to the station
  free : awaits_reply t.near.station.sender.phase ≡ false → IsNew t ⊎ IsQuiet t → IsFree limit is_limit t h
  free rests (inl new) = free_new limit is_limit t h rests new
  free rests (inr quiet) = free_quiet limit is_limit t h rests quiet

  waiting_rests : (p : Phase) → is_waiting p ≡ true → awaits_reply p ≡ false
  waiting_rests Neutral waits = cc
  waiting_rests AwaitLine waits = cc
  waiting_rests Busy waits = refl
  waiting_rests Contention waits = refl
  waiting_rests AwaitReply waits = cc

  event_late : (event : StationEvent) (is_new : Bool)
      → rule event t is_new ≡ true
      → (is_new ≡ true → IsNew t)
      → HoldsLate limit (happens_late limit event t)
  event_late (start texts) is_new in_time new =
      begin_late limit is_limit t h texts (station_fault t.near.station texts) refl
      (λ none neutral deaf. free (ap awaits_reply neutral) (enough (start texts) t is_new in_time (ap is_none none)
      (ap (λ p. is_deaf_in p t.near.station.sender.outcome) (sym neutral) ∙ deaf) new))
  event_late arrive is_new in_time new = arrives_late limit is_limit t.inward t h
  event_late arrive_without_room is_new in_time new =
      room_late limit (arrives limit t.inward (room_near false t))
      (arrives_late limit is_limit t.inward (room_near false t) (room_late limit t h false)) true
  event_late (damage bytes) is_new in_time new = damaged_late limit is_limit bytes t.inward t h
  event_late lose is_new in_time new = lost_late limit is_limit t.inward t h
  event_late timer is_new in_time new =
      timer_late limit is_limit t h t.near.station.receiver.is_open refl
      (λ shut waits. free (waiting_rests t.near.station.sender.phase waits) (enough timer t is_new in_time
      (ap (λ o. not o && is_waiting t.near.station.sender.phase) shut ∙ waits)
      (waits_owed limit t.near.station.sender.phase t.near.station.sender t.near.current t.near.sessions waits
      h.holds.out.can_ask) new))
  event_late give_up is_new in_time new = give_up_late limit is_limit t h
  event_late close_line is_new in_time new = close_late limit is_limit t h
  event_late restart is_new in_time new = restart_late limit is_limit t h
  event_late (set_ready ready) is_new in_time new = ready_late limit is_limit t h ready
  event_late ask_turn is_new in_time new = ask_late limit is_limit t h

-- ---- all events

pub record HoldsByRule (limit : ℕ) (t : TwoWay) (is_new : IsNewTo) : Type 0 where
  pub late : HoldsLate limit t
  pub analyzer : is_new.analyzer ≡ true → IsNew t
  pub computer : is_new.computer ≡ true → IsNew (turned t)

pub late_event :
    (limit : ℕ) (is_limit : IsLimit limit) (rule : Rule) (enough : IsEnough rule) (event : LateEvent) (t : TwoWay)
    (is_new : IsNewTo)
    → is_in_time rule event t is_new ≡ true
    → HoldsByRule limit t is_new
    → HoldsByRule limit (after_late_event limit event t) (is_new_after event t is_new)
late_event limit is_limit rule enough (on_line (at_analyzer event)) t is_new in_time h = record {
  late = event_late limit is_limit rule enough t h.late event is_new.analyzer in_time h.analyzer;
  analyzer = λ e.
      let parts = and_parts is_new.analyzer (not (on_each_enquiry event t.near.station)) e in
      near_new limit t (h.analyzer parts.0) event (not_true (on_each_enquiry event t.near.station) parts.1);
  computer = λ e. far_new limit is_limit event t h.late (h.computer e);
}
late_event limit is_limit rule enough (on_line (at_computer event)) t is_new in_time h = record {
  late = turned_late limit (happens_late limit event (turned t))
      (event_late limit is_limit rule enough (turned t) (turned_late limit t h.late) event is_new.computer in_time
      h.computer);
  analyzer = λ e. far_new limit is_limit event (turned t) (turned_late limit t h.late) (h.analyzer e);
  computer = λ e.
      let parts = and_parts is_new.computer (not (on_each_enquiry event t.far.station)) e in
      near_new limit (turned t) (h.computer parts.0) event (not_true (on_each_enquiry event t.far.station) parts.1);
}
late_event limit is_limit rule enough reconnect t is_new in_time h = record {
  late = reconnect_late limit is_limit t h.late;
  analyzer = λ e. record { no_request = tt; no_answer = refl; far_shut = refl };
  computer = λ e. record { no_request = tt; no_answer = refl; far_shut = refl };
}

safe_late : (limit : ℕ) (t : TwoWay) → HoldsLate limit t → AreSafeBothWays limit t
safe_late limit t h =
    let x : TwoWay = hushed (is_deaf t.near.station) (is_deaf t.far.station) t in
    (safe_out limit x h.holds.out, safe_out limit (turned x) h.holds.back)

pub new_by_rule : (limit : ℕ) → HoldsByRule limit new_two_way new_to_both
new_by_rule limit = record {
  late = record {
    near_drops_none = refl;
    far_drops_none = refl;
    holds = new_both limit;
    near_answers = tt;
    far_answers = tt;
  };
  analyzer = λ e. record { no_request = tt; no_answer = refl; far_shut = refl };
  computer = λ e. record { no_request = tt; no_answer = refl; far_shut = refl };
}

late_events :
    (limit : ℕ) (is_limit : IsLimit limit) (rule : Rule) (enough : IsEnough rule) (events : List LateEvent) (t : TwoWay)
    (is_new : IsNewTo)
    → are_in_time rule limit events t is_new ≡ true
    → HoldsByRule limit t is_new
    → AreSafeBothWays limit (fold (λ t event. after_late_event limit event t) t events)
late_events limit is_limit rule enough [] t is_new in_time h = safe_late limit t h.late
late_events limit is_limit rule enough (event ∷ events) t is_new in_time h =
    let parts = and_parts (is_in_time rule event t is_new)
    (are_in_time rule limit events (after_late_event limit event t) (is_new_after event t is_new)) in_time in
    late_events limit is_limit rule enough events (after_late_event limit event t) (is_new_after event t is_new) parts.1
    (late_event limit is_limit rule enough event t is_new parts.0 h)

safe_by : (limit : ℕ) → IsLimit limit → (rule : Rule) → IsEnough rule → SafeByRule rule limit
safe_by limit is_limit rule enough events in_time =
    late_events limit is_limit rule enough events new_two_way new_to_both in_time (new_by_rule limit)

pub safe_on_new_lines : (limit : ℕ) → IsLimit limit → SafeByRule (on_new_lines on_each_enquiry) limit
safe_on_new_lines limit is_limit = safe_by limit is_limit (on_new_lines on_each_enquiry) enough_new

pub safe_on_quiet_lines : (limit : ℕ) → IsLimit limit → SafeByRule (on_quiet_lines on_each_enquiry) limit
safe_on_quiet_lines limit is_limit = safe_by limit is_limit (on_quiet_lines on_each_enquiry) enough_quiet
