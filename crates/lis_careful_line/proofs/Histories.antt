-- What happens to two stations, either of which hears carefully, on a line that answers in time.
use Rattle.std.proofs.Common.{◌≡◌, ℕ, Bool, true, false, List, [], ◌∷◌, ◌++◌, map, refl, ap, ◌∙◌, subst}
use Rattle.std.specs.List.{fold}
use Rattle.lis_frame.specs.Limit.{IsLimit}
use Rattle.lis_station.specs.Line.{Item, sent, answered, TwoWay, turned, StationEvent, start, arrive}
use Rattle.lis_station.specs.Line.{arrive_without_room}
use Rattle.lis_station.specs.Line.{damage, lose, timer, give_up, close_line, restart, set_ready, ask_turn, happens}
use Rattle.lis_station.specs.Line.{LineEvent, at_analyzer, at_computer, after_line_event, new_two_way, AreSafe}
use Rattle.lis_station.proofs.Both.{unit_load}
use Rattle.lis_station.proofs.Events.{HoldsBoth, turned_both}
use Rattle.lis_station.proofs.TwoWayLaw.{line_event_both, new_both, safe_both_ways}
use Rattle.lis_careful_line.specs.Line.{Care, happens_with, after_line_event_with}
use Rattle.lis_careful_line.specs.Laws.{AreLineHistories, SafeBothWaysCarefully}
use Rattle.lis_careful_line.proofs.Instead.{as_it_is, events_of, from, Becomes, FrontLoad, Fits, arrive_as}
use Rattle.lis_careful_line.proofs.Instead.{arrive_without_room_as, damage_as}
use Rattle.lis_careful_line.proofs.Rooms.{HasRoom, turned_rooms, line_rooms}

-- ---- an event at a station

pub event_as : (careful : Bool) (limit : ℕ) (event : StationEvent) (t : TwoWay) → Fits limit t
    → Becomes limit event (happens_with careful limit event t (happens limit event t)) t
event_as false limit event t fits = record { instead = as_it_is; opens = tt; same = refl }
event_as true limit arrive t fits = arrive_as limit t.inward t fits
event_as true limit arrive_without_room t fits = arrive_without_room_as limit t.inward t fits
event_as true limit (damage bytes) t fits = damage_as limit bytes t.inward t fits
event_as true limit (start texts) t fits = record { instead = as_it_is; opens = tt; same = refl }
event_as true limit lose t fits = record { instead = as_it_is; opens = tt; same = refl }
event_as true limit timer t fits = record { instead = as_it_is; opens = tt; same = refl }
event_as true limit give_up t fits = record { instead = as_it_is; opens = tt; same = refl }
event_as true limit close_line t fits = record { instead = as_it_is; opens = tt; same = refl }
event_as true limit restart t fits = record { instead = as_it_is; opens = tt; same = refl }
event_as true limit (set_ready ready) t fits = record { instead = as_it_is; opens = tt; same = refl }
event_as true limit ask_turn t fits = record { instead = as_it_is; opens = tt; same = refl }

-- ---- both sides

abbrev pub from_line : ℕ → List LineEvent → TwoWay → TwoWay
from_line limit events t = fold (λ t event. after_line_event limit event t) t events

at_analyzer_is : (limit : ℕ) (events : List StationEvent) (t : TwoWay)
    → from_line limit (map at_analyzer events) t ≡ from limit events t
at_analyzer_is limit [] t = refl
at_analyzer_is limit (event ∷ events) t = at_analyzer_is limit events (happens limit event t)

at_computer_is : (limit : ℕ) (events : List StationEvent) (t : TwoWay)
    → from_line limit (map at_computer events) t ≡ turned (from limit events (turned t))
at_computer_is limit [] t = refl
at_computer_is limit (event ∷ events) t = at_computer_is limit events (turned (happens limit event (turned t)))

-- the invariant of the line, and that there is room
pub record HoldsOn (limit : ℕ) (t : TwoWay) : Type 0 where
  pub both : HoldsBoth limit t
  pub rooms : HasRoom t

load_of : (limit : ℕ) (is_limit : IsLimit limit) (items : List Item) (t : TwoWay)
    → HoldsBoth limit (record t { inward = items })
    → FrontLoad limit items
load_of limit is_limit [] t h = tt
load_of limit is_limit (sent u ∷ items) t h = unit_load limit is_limit u items t h.back
load_of limit is_limit (answered b ∷ items) t h = tt

fits_of : (limit : ℕ) (is_limit : IsLimit limit) (t : TwoWay) → HoldsOn limit t → Fits limit t
fits_of limit is_limit t h = record {
  exclusive = h.both.near_exclusive;
  has_room = h.rooms.near;
  load = load_of limit is_limit t.inward t h.both;
}

turned_on : (limit : ℕ) (t : TwoWay) → HoldsOn limit t → HoldsOn limit (turned t)
turned_on limit t h = record { both = turned_both limit t h.both; rooms = turned_rooms t h.rooms }

holds_from : (limit : ℕ) (is_limit : IsLimit limit) (events : List LineEvent) (t : TwoWay) → HoldsOn limit t
    → HoldsOn limit (from_line limit events t)
holds_from limit is_limit [] t h = h
holds_from limit is_limit (event ∷ events) t h =
    holds_from limit is_limit events (after_line_event limit event t) (record {
      both = line_event_both limit is_limit event t h.both;
      rooms = line_rooms limit event t h.rooms;
    })

pub record IsFrom (limit : ℕ) (after t : TwoWay) : Type 0 where
  pub events : List LineEvent
  pub same : from_line limit events t ≡ after

line_event_as : (care : Care) (limit : ℕ) (is_limit : IsLimit limit) (event : LineEvent) (t : TwoWay) → HoldsOn limit t
    → IsFrom limit (after_line_event_with care limit event t) t
line_event_as care limit is_limit (at_analyzer event) t h =
    let one = event_as care.analyzer limit event t (fits_of limit is_limit t h) in
    record {
      events = map at_analyzer (events_of event one.instead);
      same = at_analyzer_is limit (events_of event one.instead) t ∙ one.same;
    }
line_event_as care limit is_limit (at_computer event) t h =
    let one = event_as care.computer limit event (turned t) (fits_of limit is_limit (turned t) (turned_on limit t h)) in
    record {
      events = map at_computer (events_of event one.instead);
      same = at_computer_is limit (events_of event one.instead) t ∙ ap turned one.same;
    }

-- ---- each list of events

from-append : (limit : ℕ) (xs ys : List LineEvent) (t : TwoWay)
    → from_line limit (xs ++ ys) t ≡ from_line limit ys (from_line limit xs t)
from-append limit [] ys t = refl
from-append limit (x ∷ xs) ys t = from-append limit xs ys (after_line_event limit x t)

with_from : (care : Care) (limit : ℕ) (is_limit : IsLimit limit) (events : List LineEvent) (t : TwoWay)
    → HoldsOn limit t
    → IsFrom limit (fold (λ t event. after_line_event_with care limit event t) t events) t
with_from care limit is_limit [] t h = record { events = []; same = refl }
with_from care limit is_limit (event ∷ events) t h =
    let one = line_event_as care limit is_limit event t h in
    let next : TwoWay = after_line_event_with care limit event t in
    let later = with_from care limit is_limit events next
    (subst (HoldsOn limit) one.same (holds_from limit is_limit one.events t h)) in
    record {
      events = one.events ++ later.events;
      same = from-append limit one.events later.events t ∙ ap (from_line limit later.events) one.same ∙ later.same;
    }

pub are_line_histories : (limit : ℕ) → IsLimit limit → AreLineHistories limit
are_line_histories limit is_limit care events =
    let all = with_from care limit is_limit events new_two_way
    (record { both = new_both limit; rooms = record { near = refl; far = refl } }) in
    record { events = all.events; same = all.same }

pub safe_carefully : (limit : ℕ) → IsLimit limit → SafeBothWaysCarefully limit
safe_carefully limit is_limit care events =
    let all = are_line_histories limit is_limit care events in
    subst (λ (t : TwoWay). AreSafe limit t.near.sessions × AreSafe limit t.far.sessions) all.same
    (safe_both_ways limit is_limit all.events)
