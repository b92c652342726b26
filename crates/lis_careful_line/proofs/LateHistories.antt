-- What happens to two stations, either of which hears carefully, on a line that answers late.
use Rattle.std.proofs.Common.{◌≡◌, ℕ, Bool, true, false, List, [], ◌∷◌, ◌++◌, map, refl, ap, sym, ◌∙◌, subst}
use Rattle.std.specs.Prelude.{◌&&◌, not}
use Rattle.std.specs.List.{fold}
use Rattle.std.proofs.lemmas.Bool.{and_parts}
use Rattle.lis_frame.specs.Limit.{IsLimit}
use Rattle.lis_world.specs.Late.{reply_may_come}
use Rattle.lis_station.specs.Line.{Item, sent, answered, TwoWay, turned, StationEvent, start, arrive}
use Rattle.lis_station.specs.Line.{arrive_without_room}
use Rattle.lis_station.specs.Line.{damage, lose, timer, give_up, close_line, restart, set_ready, ask_turn, timed}
use Rattle.lis_station.specs.Line.{happens, at_analyzer, at_computer, new_two_way}
use Rattle.lis_late_line.specs.Late.{LateEvent, on_line, reconnect, happens_late, timed_late, after_late_event}
use Rattle.lis_late_line.specs.Discipline.{Rule, IsNewTo, new_to_both, is_new_after, is_in_time, are_in_time, is_quiet}
use Rattle.lis_late_line.specs.Discipline.{on_each_enquiry, is_waiting, needs_new_line, on_new_lines, on_quiet_lines}
use Rattle.lis_late_line.specs.Discipline.{AreSafeBothWays}
use Rattle.lis_late_line.proofs.LateItems.{HoldsLate, turned_late, front_load}
use Rattle.lis_late_line.proofs.LateLaw.{IsEnough, enough_new, enough_quiet, HoldsByRule, late_event, new_by_rule}
use Rattle.lis_late_line.proofs.LateLaw.{safe_on_new_lines, safe_on_quiet_lines}
use Rattle.lis_careful_line.specs.Line.{Care, happens_with, after_late_event_with, are_in_time_with}
use Rattle.lis_careful_line.specs.Laws.{AreLateHistories, SafeByRuleCarefully}
use Rattle.lis_careful_line.proofs.Instead.{Instead, not_at_all, as_it_is, bad, lost_anew, bad_anew, events_of}
use Rattle.lis_careful_line.proofs.Instead.{OpensFor}
use Rattle.lis_careful_line.proofs.Instead.{from, FrontLoad, Fits, arrive_as, arrive_without_room_as, damage_as}
use Rattle.lis_careful_line.proofs.Rooms.{HasRoom, turned_rooms, late_rooms}

-- ---- events that ask for nothing

and_true : (a : Bool) → (a && true) ≡ a
and_true true = refl
and_true false = refl

-- a rule lets them be
abbrev IsLenient : Rule → Type 0
IsLenient rule =
    (event : StationEvent) (t : TwoWay) (is_new : Bool) → on_each_enquiry event t.near.station ≡ false
    → rule event t is_new ≡ true

lenient_new : IsLenient (on_new_lines on_each_enquiry)
lenient_new event t is_new asks =
    ap (λ e. not (e && needs_new_line t.near.station.sender.outcome is_new)) asks

lenient_quiet : IsLenient (on_quiet_lines on_each_enquiry)
lenient_quiet event t is_new asks =
    ap (λ e. not (e && (reply_may_come t.near.station.sender.outcome && not (is_quiet t)))) asks

abbrev from_late : ℕ → List LateEvent → TwoWay → TwoWay
from_late limit events t = fold (λ t event. after_late_event limit event t) t events

-- for whom the line is new after them
abbrev new_from : ℕ → List LateEvent → TwoWay → IsNewTo → IsNewTo
new_from limit [] t is_new = is_new
new_from limit (event ∷ events) t is_new =
    new_from limit events (after_late_event limit event t) (is_new_after event t is_new)

abbrev from_station : ℕ → List StationEvent → TwoWay → TwoWay
from_station limit events t = fold (λ t event. happens_late limit event t) t events

abbrev AskNothing : ℕ → List StationEvent → TwoWay → Type 0
AskNothing limit [] t = Unit {0}
AskNothing limit (event ∷ events) t =
    (on_each_enquiry event t.near.station ≡ false) × AskNothing limit events (happens_late limit event t)

-- such events are in time, and the line stays new to whom it was
record AreInTime (rule : Rule) (limit : ℕ) (events : List LateEvent) (after t : TwoWay) (is_new new_then : IsNewTo) :
    Type 0 where
  pub same : from_late limit events t ≡ after
  pub in_time : are_in_time rule limit events t is_new ≡ true
  pub new_is : new_from limit events t is_new ≡ new_then

abbrev analyzer_new : Bool → IsNewTo → IsNewTo
analyzer_new b is_new = record is_new { analyzer = b }

abbrev computer_new : Bool → IsNewTo → IsNewTo
computer_new b is_new = record is_new { computer = b }

module _ (rule : Rule) (lenient : IsLenient rule) (limit : ℕ) where
  analyzer_same : (event : StationEvent) (t : TwoWay) (is_new : IsNewTo)
      → on_each_enquiry event t.near.station ≡ false
      → is_new_after (on_line (at_analyzer event)) t is_new ≡ is_new
  analyzer_same event t is_new asks =
      ap (λ e. analyzer_new (is_new.analyzer && not e) is_new) asks
      ∙ ap (λ b. analyzer_new b is_new) (and_true is_new.analyzer)

  computer_same : (event : StationEvent) (t : TwoWay) (is_new : IsNewTo)
      → on_each_enquiry event t.far.station ≡ false
      → is_new_after (on_line (at_computer event)) t is_new ≡ is_new
  computer_same event t is_new asks =
      ap (λ e. computer_new (is_new.computer && not e) is_new) asks
      ∙ ap (λ b. computer_new b is_new) (and_true is_new.computer)

  analyzer_in_time : (events : List StationEvent) (t : TwoWay) (is_new : IsNewTo) → AskNothing limit events t
      → AreInTime rule limit (map (λ event. on_line (at_analyzer event)) events) (from_station limit events t) t is_new
      is_new
  analyzer_in_time [] t is_new nothing = record { same = refl; in_time = refl; new_is = refl }
  analyzer_in_time (event ∷ events) t is_new nothing =
      let next : TwoWay = happens_late limit event t in
      let evs : List LateEvent = map (λ event. on_line (at_analyzer event)) events in
      let stays = analyzer_same event t is_new nothing.0 in
      let later = analyzer_in_time events next is_new nothing.1 in
      record {
        same = later.same;
        in_time =
            ap (λ ok. ok && are_in_time rule limit evs next (is_new_after (on_line (at_analyzer event)) t is_new))
            (lenient event t is_new.analyzer nothing.0)
            ∙ ap (are_in_time rule limit evs next) stays ∙ later.in_time;
        new_is = ap (new_from limit evs next) stays ∙ later.new_is;
      }

  computer_in_time : (events : List StationEvent) (t : TwoWay) (is_new : IsNewTo) → AskNothing limit events (turned t)
      → AreInTime rule limit (map (λ event. on_line (at_computer event)) events)
      (turned (from_station limit events (turned t))) t is_new is_new
  computer_in_time [] t is_new nothing = record { same = refl; in_time = refl; new_is = refl }
  computer_in_time (event ∷ events) t is_new nothing =
      let next : TwoWay = turned (happens_late limit event (turned t)) in
      let evs : List LateEvent = map (λ event. on_line (at_computer event)) events in
      let stays = computer_same event t is_new nothing.0 in
      let later = computer_in_time events next is_new nothing.1 in
      record {
        same = later.same;
        in_time =
            ap (λ ok. ok && are_in_time rule limit evs next (is_new_after (on_line (at_computer event)) t is_new))
            (lenient event (turned t) is_new.computer nothing.0)
            ∙ ap (are_in_time rule limit evs next) stays ∙ later.in_time;
        new_is = ap (new_from limit evs next) stays ∙ later.new_is;
      }

-- ---- what reaches a careful station

-- what happens instead on a line that answers in time happens on this one too
record BecomesLate (limit : ℕ) (after t : TwoWay) : Type 0 where
  pub events : List StationEvent
  pub ask_nothing : AskNothing limit events t
  pub same : from_station limit events t ≡ after

open_asks : (t : TwoWay) → t.near.station.receiver.is_open ≡ true → on_each_enquiry timer t.near.station ≡ false
open_asks t is_open = ap (λ o. not o && is_waiting t.near.station.sender.phase) is_open

timer_same : (limit : ℕ) (t : TwoWay) → t.near.station.receiver.is_open ≡ true
    → happens_late limit timer t ≡ happens limit timer t
timer_same limit t is_open =
    ap (λ o. timed_late limit o t) is_open ∙ sym (ap (λ o. timed limit o t) is_open)

late_instead :
    (limit : ℕ) (event : StationEvent) (instead : Instead) (after t : TwoWay)
    → OpensFor instead t
    → ((x : TwoWay) → on_each_enquiry event x.near.station ≡ false)
    → happens_late limit event t ≡ happens limit event t
    → from limit (events_of event instead) t ≡ after
    → BecomesLate limit after t
late_instead limit event not_at_all after t opens asks plain same =
    record { events = []; ask_nothing = tt; same = same }
late_instead limit event as_it_is after t opens asks plain same =
    record { events = event ∷ []; ask_nothing = (asks t, tt); same = plain ∙ same }
late_instead limit event (bad bytes) after t opens asks plain same =
    record { events = damage bytes ∷ []; ask_nothing = (refl, tt); same = same }
late_instead limit event lost_anew after t opens asks plain same = record {
  events = timer ∷ close_line ∷ lose ∷ [];
  ask_nothing = (open_asks t opens, (refl, (refl, tt)));
  same = ap (λ x. happens limit lose (happens limit close_line x)) (timer_same limit t opens) ∙ same;
}
late_instead limit event (bad_anew bytes) after t opens asks plain same = record {
  events = timer ∷ close_line ∷ damage bytes ∷ [];
  ask_nothing = (open_asks t opens, (refl, (refl, tt)));
  same = ap (λ x. happens limit (damage bytes) (happens limit close_line x)) (timer_same limit t opens) ∙ same;
}

-- an event is what happens as ever, or such events
data HappensAs (limit : ℕ) (event : StationEvent) (after t : TwoWay) : Type 0 where
  plainly : happens_late limit event t ≡ after → HappensAs limit event after t
  instead_of : ((x : TwoWay) → on_each_enquiry event x.near.station ≡ false) → BecomesLate limit after t
      → HappensAs limit event after t

late_event_as : (careful : Bool) (limit : ℕ) (event : StationEvent) (t : TwoWay) → Fits limit t
    → HappensAs limit event (happens_with careful limit event t (happens_late limit event t)) t
late_event_as false limit event t fits = plainly refl
late_event_as true limit arrive t fits =
    let one = arrive_as limit t.inward t fits in
    instead_of (λ x. refl) (late_instead limit arrive one.instead _ t one.opens (λ x. refl) refl one.same)
late_event_as true limit arrive_without_room t fits =
    let one = arrive_without_room_as limit t.inward t fits in
    instead_of (λ x. refl) (late_instead limit arrive_without_room one.instead _ t one.opens (λ x. refl) refl one.same)
late_event_as true limit (damage bytes) t fits =
    let one = damage_as limit bytes t.inward t fits in
    instead_of (λ x. refl) (late_instead limit (damage bytes) one.instead _ t one.opens (λ x. refl) refl one.same)
late_event_as true limit (start texts) t fits = plainly refl
late_event_as true limit lose t fits = plainly refl
late_event_as true limit timer t fits = plainly refl
late_event_as true limit give_up t fits = plainly refl
late_event_as true limit close_line t fits = plainly refl
late_event_as true limit restart t fits = plainly refl
late_event_as true limit (set_ready ready) t fits = plainly refl
late_event_as true limit ask_turn t fits = plainly refl

-- ---- what holds

record HoldsOn (limit : ℕ) (t : TwoWay) (is_new : IsNewTo) : Type 0 where
  pub by_rule : HoldsByRule limit t is_new
  pub rooms : HasRoom t

load_of : (limit : ℕ) (is_limit : IsLimit limit) (items : List Item) (t : TwoWay)
    → HoldsLate limit (record t { inward = items }) → FrontLoad limit items
load_of limit is_limit [] t h = tt
load_of limit is_limit (sent u ∷ items) t h = front_load limit is_limit u items t h
load_of limit is_limit (answered b ∷ items) t h = tt

fits_of : (limit : ℕ) (is_limit : IsLimit limit) (t : TwoWay) → HoldsLate limit t → HasRoom t → Fits limit t
fits_of limit is_limit t h rooms = record {
  exclusive = h.holds.near_exclusive;
  has_room = rooms.near;
  load = load_of limit is_limit t.inward t h;
}

module _ (limit : ℕ) (is_limit : IsLimit limit) (rule : Rule) (enough : IsEnough rule) (lenient : IsLenient rule)
    (care : Care) where
  holds_from : (events : List LateEvent) (t : TwoWay) (is_new : IsNewTo)
      → are_in_time rule limit events t is_new ≡ true
      → HoldsOn limit t is_new
      → HoldsOn limit (from_late limit events t) (new_from limit events t is_new)
  holds_from [] t is_new in_time h = h
  holds_from (event ∷ events) t is_new in_time h =
      let next : TwoWay = after_late_event limit event t in
      let parts = and_parts (is_in_time rule event t is_new)
      (are_in_time rule limit events next (is_new_after event t is_new)) in_time in
      holds_from events next (is_new_after event t is_new) parts.1 (record {
        by_rule = late_event limit is_limit rule enough event t is_new parts.0 h.by_rule;
        rooms = late_rooms limit event t h.rooms;
      })

  -- one event
  record IsOne (event : LateEvent) (t : TwoWay) (is_new : IsNewTo) : Type 0 where
    pub events : List LateEvent
    pub are : AreInTime rule limit events (after_late_event_with care limit event t) t is_new
        (is_new_after event t is_new)

  as_it_was : (event : LateEvent) (t : TwoWay) (is_new : IsNewTo) → is_in_time rule event t is_new ≡ true
      → after_late_event limit event t ≡ after_late_event_with care limit event t → IsOne event t is_new
  as_it_was event t is_new in_time same = record {
    events = event ∷ [];
    are = record { same = same; in_time = ap (λ ok. ok && true) in_time; new_is = refl };
  }

  one_event : (event : LateEvent) (t : TwoWay) (is_new : IsNewTo) → is_in_time rule event t is_new ≡ true
      → HoldsOn limit t is_new → IsOne event t is_new
  one_event (on_line (at_analyzer event)) t is_new in_time h =
      by (late_event_as care.analyzer limit event t (fits_of limit is_limit t h.by_rule.late h.rooms))
    where
      by : HappensAs limit event (happens_with care.analyzer limit event t (happens_late limit event t)) t
          → IsOne (on_line (at_analyzer event)) t is_new
      by (plainly same) = as_it_was (on_line (at_analyzer event)) t is_new in_time same
      by (instead_of asks one) =
          let are = analyzer_in_time rule lenient limit one.events t is_new one.ask_nothing in
          record {
            events = map (λ event. on_line (at_analyzer event)) one.events;
            are = record {
              same = are.same ∙ one.same;
              in_time = are.in_time;
              new_is = are.new_is ∙ sym (analyzer_same rule lenient limit event t is_new (asks t));
            };
          }
  one_event (on_line (at_computer event)) t is_new in_time h =
      by (late_event_as care.computer limit event (turned t)
      (fits_of limit is_limit (turned t) (turned_late limit t h.by_rule.late) (turned_rooms t h.rooms)))
    where
      by : HappensAs limit event (happens_with care.computer limit event (turned t)
          (happens_late limit event (turned t))) (turned t)
          → IsOne (on_line (at_computer event)) t is_new
      by (plainly same) = as_it_was (on_line (at_computer event)) t is_new in_time (ap turned same)
      by (instead_of asks one) =
          let are = computer_in_time rule lenient limit one.events t is_new one.ask_nothing in
          record {
            events = map (λ event. on_line (at_computer event)) one.events;
            are = record {
              same = are.same ∙ ap turned one.same;
              in_time = are.in_time;
              new_is = are.new_is ∙ sym (computer_same rule lenient limit event t is_new (asks (turned t)));
            };
          }
  one_event reconnect t is_new in_time h = as_it_was reconnect t is_new in_time refl

  -- all events
  from-append : (xs ys : List LateEvent) (t : TwoWay)
      → from_late limit (xs ++ ys) t ≡ from_late limit ys (from_late limit xs t)
  from-append [] ys t = refl
  from-append (x ∷ xs) ys t = from-append xs ys (after_late_event limit x t)

  in_time-append : (xs ys : List LateEvent) (t : TwoWay) (is_new : IsNewTo)
      → are_in_time rule limit xs t is_new ≡ true
      → are_in_time rule limit ys (from_late limit xs t) (new_from limit xs t is_new) ≡ true
      → are_in_time rule limit (xs ++ ys) t is_new ≡ true
  in_time-append [] ys t is_new first later = later
  in_time-append (x ∷ xs) ys t is_new first later =
      let next : TwoWay = after_late_event limit x t in
      let parts = and_parts (is_in_time rule x t is_new)
      (are_in_time rule limit xs next (is_new_after x t is_new)) first in
      ap (λ ok. ok && are_in_time rule limit (xs ++ ys) next (is_new_after x t is_new)) parts.0
      ∙ in_time-append xs ys next (is_new_after x t is_new) parts.1 later

  pub record IsLateFrom (after t : TwoWay) (is_new : IsNewTo) : Type 0 where
    pub events : List LateEvent
    pub in_time : are_in_time rule limit events t is_new ≡ true
    pub same : from_late limit events t ≡ after

  late_from : (events : List LateEvent) (t : TwoWay) (is_new : IsNewTo)
      → are_in_time_with care rule limit events t is_new ≡ true
      → HoldsOn limit t is_new
      → IsLateFrom (fold (λ t event. after_late_event_with care limit event t) t events) t is_new
  late_from [] t is_new in_time h = record { events = []; in_time = refl; same = refl }
  late_from (event ∷ events) t is_new in_time h =
      let next : TwoWay = after_late_event_with care limit event t in
      let new_then : IsNewTo = is_new_after event t is_new in
      let parts = and_parts (is_in_time rule event t is_new) (are_in_time_with care rule limit events next new_then)
      in_time in
      let one = one_event event t is_new parts.0 h in
      let there : HoldsOn limit (from_late limit one.events t) (new_from limit one.events t is_new) =
      holds_from one.events t is_new one.are.in_time h in
      let later = late_from events next new_then parts.1
      (subst (λ x. HoldsOn limit x new_then) one.are.same
      (subst (λ n. HoldsOn limit (from_late limit one.events t) n) one.are.new_is there)) in
      let later_in_time : are_in_time rule limit later.events (from_late limit one.events t)
      (new_from limit one.events t is_new) ≡ true =
      ap (λ x. are_in_time rule limit later.events x (new_from limit one.events t is_new)) one.are.same
      ∙ ap (are_in_time rule limit later.events next) one.are.new_is ∙ later.in_time in
      record {
        events = one.events ++ later.events;
        in_time = in_time-append one.events later.events t is_new one.are.in_time later_in_time;
        same =
            from-append one.events later.events t ∙ ap (from_late limit later.events) one.are.same ∙ later.same;
      }

histories : (limit : ℕ) → IsLimit limit → (rule : Rule) → IsEnough rule → IsLenient rule → AreLateHistories rule limit
histories limit is_limit rule enough lenient care events in_time =
    let all = late_from limit is_limit rule enough lenient care events new_two_way new_to_both in_time (record {
      by_rule = new_by_rule limit;
      rooms = record { near = refl; far = refl };
    }) in
    record { events = all.events; kept = all.in_time; same = all.same }

pub histories_on_new_lines : (limit : ℕ) → IsLimit limit → AreLateHistories (on_new_lines on_each_enquiry) limit
histories_on_new_lines limit is_limit =
    histories limit is_limit (on_new_lines on_each_enquiry) enough_new lenient_new

pub histories_on_quiet_lines : (limit : ℕ) → IsLimit limit → AreLateHistories (on_quiet_lines on_each_enquiry) limit
histories_on_quiet_lines limit is_limit =
    histories limit is_limit (on_quiet_lines on_each_enquiry) enough_quiet lenient_quiet

pub safe_carefully_on_new_lines : (limit : ℕ) → IsLimit limit → SafeByRuleCarefully (on_new_lines on_each_enquiry) limit
safe_carefully_on_new_lines limit is_limit care events in_time =
    let all = histories_on_new_lines limit is_limit care events in_time in
    subst (AreSafeBothWays limit) all.same (safe_on_new_lines limit is_limit all.events all.kept)

pub safe_carefully_on_quiet_lines :
    (limit : ℕ) → IsLimit limit → SafeByRuleCarefully (on_quiet_lines on_each_enquiry) limit
safe_carefully_on_quiet_lines limit is_limit care events in_time =
    let all = histories_on_quiet_lines limit is_limit care events in_time in
    subst (AreSafeBothWays limit) all.same (safe_on_quiet_lines limit is_limit all.events all.kept)
