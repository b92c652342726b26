-- Two stations on one line, either of which may hear carefully what is for its receiver: on a line that answers in
-- time, and on one that answers late.
use Rattle.std.specs.Prelude.{ℕ, Bool, true, false, List, [], ◌∷◌, if◌then◌else◌, ◌&&◌}
use Rattle.std.specs.List.{fold}
use Rattle.lis_link.specs.Receiver.{ReceiverState}
use Rattle.lis_world.specs.Unit.{enquiry}
use Rattle.lis_careful.specs.World.{careful_signals, is_noticed_carefully}
use Rattle.lis_station.specs.Station.{awaits_reply}
use Rattle.lis_station.specs.Line.{Item, sent, answered, TwoWay, turned, steps, item_bytes, left_line, room_near}
use Rattle.lis_station.specs.Line.{is_single, is_noise, StationEvent, arrive, arrive_without_room, damage, happens}
use Rattle.lis_station.specs.Line.{LineEvent, at_analyzer, at_computer, new_two_way}
use Rattle.lis_careful_station.specs.Station.{on_station_byte_carefully}
use Rattle.lis_late_line.specs.Late.{LateEvent, on_line, reconnect, happens_late, connected_anew}
use Rattle.lis_late_line.specs.Discipline.{Rule, IsNewTo, new_to_both, is_new_after, is_in_time}

-- which of the two hear carefully
pub record Care : Type 0 where
  pub analyzer : Bool
  pub computer : Bool

-- ---- what reaches a careful station

-- bytes come in the place of an item, one by one
abbrev pub comes_carefully : ℕ → Item → List ℕ → TwoWay → TwoWay
comes_carefully limit item [] t = t
comes_carefully limit item (b ∷ bytes) t =
    comes_carefully limit item bytes (steps item (on_station_byte_carefully limit b t.near.station) t)

abbrev pub arrives_carefully : ℕ → List Item → TwoWay → TwoWay
arrives_carefully limit [] t = t
arrives_carefully limit (front ∷ items) t =
    left_line front (comes_carefully limit front (item_bytes front) (record t { inward = items }))

-- Damage is noticed. While the receiver hears: what is heard of it is nothing, the end of the session or, in place of a
-- frame, one bad frame; in place of a reply it is one byte. While a reply is awaited: as ever.
abbrev pub is_noise_carefully : ℕ → Bool → Item → List ℕ → ReceiverState → Bool
is_noise_carefully limit true item bytes r = is_noise limit true item bytes r
is_noise_carefully limit false (sent unit) bytes r = is_noticed_carefully unit.load (careful_signals limit bytes r)
is_noise_carefully limit false (answered b) bytes r =
    is_noticed_carefully enquiry (careful_signals limit bytes r) && is_single bytes

abbrev pub damaged_in_carefully : ℕ → List ℕ → List Item → TwoWay → TwoWay
damaged_in_carefully limit bytes [] t = t
damaged_in_carefully limit bytes (front ∷ items) t =
    if is_noise_carefully limit (awaits_reply t.near.station.sender.phase) front bytes t.near.station.receiver then
    left_line front (comes_carefully limit front bytes (record t { inward = items }))
    else t

-- any other event does what it does
abbrev pub happens_carefully : ℕ → StationEvent → TwoWay → TwoWay → TwoWay
happens_carefully limit arrive t other = arrives_carefully limit t.inward t
happens_carefully limit arrive_without_room t other =
    room_near true (arrives_carefully limit t.inward (room_near false t))
happens_carefully limit (damage bytes) t other = damaged_in_carefully limit bytes t.inward t
happens_carefully limit event t other = other

-- an event at a station, by whether that hears carefully
abbrev pub happens_with : Bool → ℕ → StationEvent → TwoWay → TwoWay → TwoWay
happens_with true limit event t other = happens_carefully limit event t other
happens_with false limit event t other = other

-- ---- a line that answers in time

abbrev pub after_line_event_with : Care → ℕ → LineEvent → TwoWay → TwoWay
after_line_event_with care limit (at_analyzer event) t =
    happens_with care.analyzer limit event t (happens limit event t)
after_line_event_with care limit (at_computer event) t =
    turned (happens_with care.computer limit event (turned t) (happens limit event (turned t)))

abbrev pub two_way_with : Care → ℕ → List LineEvent → TwoWay
two_way_with care limit events = fold (λ t event. after_line_event_with care limit event t) new_two_way events

-- ---- a line that answers late

abbrev pub after_late_event_with : Care → ℕ → LateEvent → TwoWay → TwoWay
after_late_event_with care limit (on_line (at_analyzer event)) t =
    happens_with care.analyzer limit event t (happens_late limit event t)
after_late_event_with care limit (on_line (at_computer event)) t =
    turned (happens_with care.computer limit event (turned t) (happens_late limit event (turned t)))
after_late_event_with care limit reconnect t = connected_anew t

abbrev pub two_way_late_with : Care → ℕ → List LateEvent → TwoWay
two_way_late_with care limit events =
    fold (λ t event. after_late_event_with care limit event t) new_two_way events

-- all of these events are in time by a rule
abbrev pub are_in_time_with : Care → Rule → ℕ → List LateEvent → TwoWay → IsNewTo → Bool
are_in_time_with care rule limit [] t is_new = true
are_in_time_with care rule limit (event ∷ events) t is_new =
    is_in_time rule event t is_new
    && are_in_time_with care rule limit events (after_late_event_with care limit event t) (is_new_after event t is_new)

abbrev pub keeps_with : Care → Rule → ℕ → List LateEvent → Bool
keeps_with care rule limit events = are_in_time_with care rule limit events new_two_way new_to_both
