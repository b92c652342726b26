-- Two stations on one line that answers late: a reply that comes after the timer of its sender, after its wait or after
-- a restart is delivered like any other, in whatever state the station then is.
use Rattle.std.specs.Prelude.{ℕ, Bool, true, false, List, []}
use Rattle.std.specs.List.{fold}
use Rattle.lis_link.specs.declared.sender.Phase.{Phase}
use Rattle.lis_link.specs.declared.sender.Phase.TheVariants.{Neutral, AwaitLine, Busy, Contention, AwaitReply}
use Rattle.lis_station.specs.Station.{session_given_up, station_restarted, line_closed}
use Rattle.lis_station.specs.Line.{TwoWay, turned, with_station, followed_by, asks_anew, timed, happens, new_two_way}
use Rattle.lis_station.specs.Line.{StationEvent, timer, give_up, restart, LineEvent, at_analyzer, at_computer}
use Rattle.lis_station.specs.LeftOut.{waits_no_more_for_late}

-- the sender's timer leaves on the line what is there
abbrev pub sender_timed_late : ℕ → Phase → TwoWay → TwoWay
sender_timed_late limit Neutral t = t
sender_timed_late limit AwaitLine t = waits_no_more_for_late limit t
sender_timed_late limit Busy t = asks_anew limit t
sender_timed_late limit Contention t = asks_anew limit t
sender_timed_late limit AwaitReply t = waits_no_more_for_late limit t

abbrev pub timed_late : ℕ → Bool → TwoWay → TwoWay
timed_late limit true t = timed limit true t
timed_late limit false t = sender_timed_late limit t.near.station.sender.phase t

-- so do a session that is given up and a restart; all else is as on a line that doesn't answer late
abbrev pub happens_late : ℕ → StationEvent → TwoWay → TwoWay
happens_late limit timer t = timed_late limit t.near.station.receiver.is_open t
happens_late limit give_up t = record t { near = followed_by (session_given_up t.near.station) t.near }
happens_late limit restart t = record t { near = followed_by (station_restarted t.near.station) t.near }
happens_late limit event t = happens limit event t

-- a new line: nothing is on it, and both receivers are restarted
abbrev pub connected_anew : TwoWay → TwoWay
connected_anew t = record t {
  near = with_station (line_closed t.near.station) t.near;
  far = with_station (line_closed t.far.station) t.far;
  outward = [];
  inward = [];
}

-- an event at a station, or the line is connected anew
pub data LateEvent : Type 0 where
  on_line : LineEvent → LateEvent
  reconnect : LateEvent

-- one event, seen from the analyzer
abbrev pub after_late_event : ℕ → LateEvent → TwoWay → TwoWay
after_late_event limit (on_line (at_analyzer event)) t = happens_late limit event t
after_late_event limit (on_line (at_computer event)) t = turned (happens_late limit event (turned t))
after_late_event limit reconnect t = connected_anew t

abbrev pub two_way_late : ℕ → List LateEvent → TwoWay
two_way_late limit events = fold (λ t event. after_late_event limit event t) new_two_way events
