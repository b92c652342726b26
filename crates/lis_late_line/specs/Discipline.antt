-- When a station may ask for a line that answers late: on a new line, as a program can keep it that does not see the
-- line; or on a quiet one.
use Rattle.std.specs.Prelude.{◌≡◌, ℕ, Bool, true, false, not, ◌&&◌, List, [], ◌∷◌, Option}
use Rattle.std.specs.Option.{is_none}
use Rattle.lis_link.specs.declared.sender.Outcome.{Outcome}
use Rattle.lis_link.specs.declared.sender.Phase.{Phase}
use Rattle.lis_link.specs.declared.sender.Phase.TheVariants.{Busy, Contention}
use Rattle.lis_world.specs.Late.{only_endings, reply_may_come}
use Rattle.lis_station.specs.Station.{StationState, station_fault}
use Rattle.lis_station.specs.Line.{Item, sent, answered, TwoWay, turned, units_of, new_two_way, StationEvent, start}
use Rattle.lis_station.specs.Line.{timer, at_analyzer, at_computer, AreSafe}
use Rattle.lis_late_line.specs.Late.{LateEvent, on_line, reconnect, after_late_event, two_way_late}

-- ---- an ENQ goes out

-- as a session starts; or as the wait is over, after NAK or another byte in reply to ENQ, or after ENQ
abbrev pub on_each_start : StationEvent → StationState → Bool
on_each_start (start texts) s = is_none (station_fault s texts)
on_each_start event s = false

abbrev pub is_waiting : Phase → Bool
is_waiting Busy = true
is_waiting Contention = true
is_waiting phase = false

abbrev pub on_each_wait : StationEvent → StationState → Bool
on_each_wait timer s = not s.receiver.is_open && is_waiting s.sender.phase
on_each_wait event s = false

abbrev pub on_each_enquiry : StationEvent → StationState → Bool
on_each_enquiry (start texts) s = on_each_start (start texts) s
on_each_enquiry event s = on_each_wait event s

-- each but the one after NAK
abbrev pub is_contending : Phase → Bool
is_contending Contention = true
is_contending phase = false

abbrev pub but_after_nak : StationEvent → StationState → Bool
but_after_nak (start texts) s = on_each_start (start texts) s
but_after_nak event s = on_each_wait event s && is_contending s.sender.phase

-- ---- when it may

-- whether the line is new to each side: connected anew since its last ENQ
pub record IsNewTo : Type 0 where
  pub analyzer : Bool
  pub computer : Bool

abbrev pub new_to_both : IsNewTo
new_to_both = record { analyzer = true; computer = true }

abbrev pub is_new_after : LateEvent → TwoWay → IsNewTo → IsNewTo
is_new_after (on_line (at_analyzer event)) t is_new =
    record is_new { analyzer = is_new.analyzer && not (on_each_enquiry event t.near.station) }
is_new_after (on_line (at_computer event)) t is_new =
    record is_new { computer = is_new.computer && not (on_each_enquiry event t.far.station) }
is_new_after reconnect t is_new = new_to_both

-- whether the line is quiet to this side: no reply is on its way here, and nothing from here but EOT, which nobody
-- answers
abbrev pub holds_no_reply : List Item → Bool
holds_no_reply [] = true
holds_no_reply (sent unit ∷ items) = holds_no_reply items
holds_no_reply (answered b ∷ items) = false

abbrev pub is_quiet : TwoWay → Bool
is_quiet t = only_endings (units_of t.outward) && holds_no_reply t.inward

-- ---- the rules

-- a rule says whether an event is in time, at this side of the line, by whether the line is new to it
abbrev pub Rule : Type 0
Rule = StationEvent → TwoWay → Bool → Bool

-- a reply may come after a session that timed out or was restarted, and to one that waits, which has no outcome yet.
-- Then such an ENQ goes out on a new line alone, or on a quiet one alone.
abbrev pub needs_new_line : Option Outcome → Bool → Bool
needs_new_line outcome is_new = reply_may_come outcome && not is_new

abbrev pub on_new_lines : (StationEvent → StationState → Bool) → Rule
on_new_lines enquiry event t is_new =
    not (enquiry event t.near.station && needs_new_line t.near.station.sender.outcome is_new)

abbrev pub on_quiet_lines : (StationEvent → StationState → Bool) → Rule
on_quiet_lines enquiry event t is_new =
    not (enquiry event t.near.station && (reply_may_come t.near.station.sender.outcome && not (is_quiet t)))

abbrev pub is_in_time : Rule → LateEvent → TwoWay → IsNewTo → Bool
is_in_time rule (on_line (at_analyzer event)) t is_new = rule event t is_new.analyzer
is_in_time rule (on_line (at_computer event)) t is_new = rule event (turned t) is_new.computer
is_in_time rule reconnect t is_new = true

-- so are all of these events, whatever else they are; the line is new at first
abbrev pub are_in_time : Rule → ℕ → List LateEvent → TwoWay → IsNewTo → Bool
are_in_time rule limit [] t is_new = true
are_in_time rule limit (event ∷ events) t is_new =
    is_in_time rule event t is_new
    && are_in_time rule limit events (after_late_event limit event t) (is_new_after event t is_new)

abbrev pub keeps : Rule → ℕ → List LateEvent → Bool
keeps rule limit events = are_in_time rule limit events new_two_way new_to_both

-- ---- the laws

abbrev pub AreSafeBothWays : ℕ → TwoWay → Type 0
AreSafeBothWays limit t = AreSafe limit t.near.sessions × AreSafe limit t.far.sessions

-- in each direction each session is safe, after every list of events that keeps the rule
abbrev pub SafeByRule : Rule → ℕ → Type 0
SafeByRule rule limit =
    (events : List LateEvent) → keeps rule limit events ≡ true → AreSafeBothWays limit (two_way_late limit events)

-- some session is not, after some list that keeps it
abbrev pub UnsafeByRule : Rule → ℕ → Type 0
UnsafeByRule rule limit =
    (events : List LateEvent) × (keeps rule limit events ≡ true)
    × (AreSafeBothWays limit (two_way_late limit events) → ⊥)

-- neither rule is enough if it is asked of these ENQ alone
abbrev pub UnsafeFor : (StationEvent → StationState → Bool) → ℕ → Type 0
UnsafeFor enquiry limit =
    UnsafeByRule (on_new_lines enquiry) limit × UnsafeByRule (on_quiet_lines enquiry) limit
