-- What each rule of the law of both ways is worth: the line with that rule left out, and all else as it is.
use Rattle.std.specs.Prelude.{ℕ, Bool, true, false, List, [], ◌∷◌}
use Rattle.std.specs.List.{fold}
use Rattle.std.specs.Option.{option_map}
use Rattle.lis_link.specs.declared.sender.Phase.{Phase}
use Rattle.lis_link.specs.declared.sender.Phase.TheVariants as Phases
use Rattle.lis_link.specs.Sender.{on_reply, on_sender_timer, start_fault}
use Rattle.lis_station.specs.declared.station.StationFault.TheVariants.{Start}
use Rattle.lis_station.specs.Station.{StationState, StationStep, sends, awaits_reply, on_station_byte, timed_by}
use Rattle.lis_station.specs.Station.{session_given_up, station_restarted}
use Rattle.lis_station.specs.Line.{TwoWay, turned, Item, item_bytes, left_line, steps, sender_went, followed_by}
use Rattle.lis_station.specs.Line.{forgotten_out, asks_anew, timed, begins_out, happens, new_two_way, AreSafe}
use Rattle.lis_station.specs.Line.{StationEvent, start, arrive, timer, give_up, restart, LineEvent, at_analyzer}
use Rattle.lis_station.specs.Line.{at_computer}

-- the rules: a session starts only while the other side doesn't have the line, and a sender that waits asks again only
-- then; EOT acknowledges no frame; no reply comes after the timer of a sending, after the wait that follows NAK or ENQ,
-- or after a restart
pub data Rule : Type 0 where
  starts_on_free_line : Rule
  asks_again_on_free_line : Rule
  ending_is_no_acknowledgement : Rule
  no_reply_after_timer : Rule
  no_reply_after_wait : Rule
  no_reply_after_restart : Rule

-- ---- EOT acknowledges a frame: the sender is given each reply as it is

abbrev pub given_as_it_is : (limit : ℕ) → Bool → ℕ → StationState → StationStep limit
given_as_it_is limit true b s = record {
  answer = sends (on_reply {limit = limit} b s.sender);
  after = record s { sender = (on_reply {limit = limit} b s.sender).after };
}
given_as_it_is limit false b s = on_station_byte limit b s

abbrev pub comes_as_it_is : ℕ → Item → List ℕ → TwoWay → TwoWay
comes_as_it_is limit item [] t = t
comes_as_it_is limit item (b ∷ bytes) t =
    comes_as_it_is limit item bytes
    (steps item (given_as_it_is limit (awaits_reply t.near.station.sender.phase) b t.near.station) t)

abbrev pub arrives_as_it_is : ℕ → List Item → TwoWay → TwoWay
arrives_as_it_is limit [] t = t
arrives_as_it_is limit (front ∷ items) t =
    left_line front (comes_as_it_is limit front (item_bytes front) (record t { inward = items }))

-- ---- the timers, by whether the line is open here and the sender's phase

-- the wait for a reply is over, which may come all the same
abbrev pub waits_no_more_for_late : ℕ → TwoWay → TwoWay
waits_no_more_for_late limit t =
    sender_went {limit = limit} (on_sender_timer t.near.station.sender)
    (timed_by {limit = limit} false t.near.station).after t

abbrev pub timed_without : Rule → ℕ → Bool → Phase → TwoWay → TwoWay
timed_without asks_again_on_free_line limit true Phases.Busy t = asks_anew limit (forgotten_out t)
timed_without asks_again_on_free_line limit true Phases.Contention t = asks_anew limit (forgotten_out t)
timed_without no_reply_after_timer limit false Phases.AwaitLine t = waits_no_more_for_late limit t
timed_without no_reply_after_timer limit false Phases.AwaitReply t = waits_no_more_for_late limit t
timed_without no_reply_after_wait limit false Phases.Busy t = asks_anew limit t
timed_without no_reply_after_wait limit false Phases.Contention t = asks_anew limit t
timed_without rule limit is_open phase t = timed limit is_open t

-- ---- events

abbrev pub happens_without : Rule → ℕ → StationEvent → TwoWay → TwoWay
happens_without starts_on_free_line limit (start texts) t =
    begins_out limit (option_map Start (start_fault t.near.station.sender texts)) texts t
happens_without ending_is_no_acknowledgement limit arrive t = arrives_as_it_is limit t.inward t
happens_without no_reply_after_restart limit give_up t =
    record t { near = followed_by (session_given_up t.near.station) t.near }
happens_without no_reply_after_restart limit restart t =
    record t { near = followed_by (station_restarted t.near.station) t.near }
happens_without rule limit timer t =
    timed_without rule limit t.near.station.receiver.is_open t.near.station.sender.phase t
happens_without rule limit event t = happens limit event t

abbrev pub after_line_event_without : Rule → ℕ → LineEvent → TwoWay → TwoWay
after_line_event_without rule limit (at_analyzer event) t = happens_without rule limit event t
after_line_event_without rule limit (at_computer event) t = turned (happens_without rule limit event (turned t))

abbrev pub two_way_without : Rule → ℕ → List LineEvent → TwoWay
two_way_without rule limit events = fold (λ t event. after_line_event_without rule limit event t) new_two_way events

-- without it some session of the one side or the other is not safe, after some list of events
abbrev pub UnsafeWithout : Rule → ℕ → Type 0
UnsafeWithout rule limit =
    (events : List LineEvent) × (AreSafe limit (two_way_without rule limit events).near.sessions
    × AreSafe limit (two_way_without rule limit events).far.sessions → ⊥)
