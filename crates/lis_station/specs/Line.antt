-- Two stations on one line: what is on its way in either direction, and what each event does.
use Rattle.std.specs.Prelude.{ℕ, zero, Bool, true, false, List, [], ◌∷◌, ◌++◌, length, map, Option, None, Some, All}
use Rattle.std.specs.Prelude.{if◌then◌else◌, ◌==◌, ◌&&◌, ◌||◌, not}
use Rattle.std.specs.List.{fold}
use Rattle.lis_text.specs.Control.{ENQ, ACK}
use Rattle.lis_frame.specs.Stream.{signals_after}
use Rattle.lis_link.specs.declared.sender.Phase.{Phase}
use Rattle.lis_link.specs.declared.sender.Phase.TheVariants as Phases
use Rattle.lis_link.specs.declared.sender.EmitOf.{EmitOf}
use Rattle.lis_link.specs.declared.sender.EmitOf.TheVariants as Emits
use Rattle.lis_link.specs.declared.receiver.Note.{Note}
use Rattle.lis_link.specs.declared.receiver.Note.TheVariants.{Opened, Accepted}
use Rattle.lis_link.specs.Sender.{SenderStep, on_sender_timer}
use Rattle.lis_link.specs.Receiver.{ReceiverState, ReceiverStep, with_room}
use Rattle.lis_world.specs.Unit.{Load, enquiry, ending, one_frame, Travelling, load_bytes}
use Rattle.lis_world.specs.Session.{Session, new_session, session_at, changed, takes, follows, sends_frame}
use Rattle.lis_world.specs.World.{lowered}
use Rattle.lis_world.specs.Steps.{is_noticed}
use Rattle.lis_world.specs.Safe.{IsSafe, DeliversAll}
use Rattle.lis_station.specs.declared.station.Role.TheVariants.{Analyzer, Computer}
use Rattle.lis_station.specs.declared.station.StationFault.{StationFault}
use Rattle.lis_station.specs.Station.{StationState, StationAnswer, StationStep, sends, hears, new_station, awaits_reply}
use Rattle.lis_station.specs.Station.{on_station_byte, timed_by, station_fault, station_started, session_given_up}
use Rattle.lis_station.specs.Station.{line_closed, station_restarted, readied, turn_asked_for}

-- what is on its way to a station: a unit of the other one's sender, or a reply of the other one's receiver
pub data Item : Type 0 where
  sent : Travelling → Item
  answered : ℕ → Item

-- a station; how many of its units on their way, from the front on, will be answered too late; the session that its
-- sender is in, or was in last; the other side's session whose ENQ last opened the line here; and its own sessions, one
-- for each ENQ that it sent
pub record End : Type 0 where
  pub station : StationState
  pub to_drop : ℕ
  pub current : ℕ
  pub opened : ℕ
  pub sessions : List Session

-- seen from one end: this end, the other one, and what is on its way from here and to here
pub record TwoWay : Type 0 where
  pub near : End
  pub far : End
  pub outward : List Item
  pub inward : List Item

-- seen from the other end
abbrev pub turned : TwoWay → TwoWay
turned t = record { near = t.far; far = t.near; outward = t.inward; inward = t.outward }

-- ---- parts of an end

abbrev pub with_station : StationState → End → End
with_station s e = record e { station = s }

-- the sender's new state is booked to its session
abbrev pub followed_by : StationState → End → End
followed_by s e = record e { station = s; sessions = changed e.current (follows s.sender) e.sessions }

-- a session begins
abbrev pub with_session : StationState → List (List ℕ) → End → End
with_session s texts e = record e {
  station = s;
  current = length e.sessions;
  sessions = e.sessions ++ new_session texts ∷ [];
}

-- ---- what goes out

abbrev pub goes_out : Item → TwoWay → TwoWay
goes_out item t = record t { outward = t.outward ++ item ∷ [] }

abbrev pub put_out : Load → TwoWay → TwoWay
put_out load t = goes_out (sent (record { session = t.near.current; load = load })) t

abbrev pub emitted_out : {limit : ℕ} → EmitOf limit → TwoWay → TwoWay
emitted_out Emits.Enq t = put_out enquiry t
emitted_out Emits.Eot t = put_out ending t
emitted_out (Emits.Frame frame) t = put_out (one_frame frame)
    (record t { near = record t.near { sessions = changed t.near.current (sends_frame frame) t.near.sessions } })
emitted_out emit t = t

abbrev pub sender_went : {limit : ℕ} → SenderStep limit → StationState → TwoWay → TwoWay
sender_went step after t = emitted_out step.emit (record t { near = followed_by after t.near })

-- ---- what comes in

-- the receiver's step while an item comes, by its note: an ENQ that opens the line makes its session the one that owns
-- it, and what is accepted is booked to the owner, a session of the other side
abbrev pub noted : Item → ReceiverStep → Note → TwoWay → TwoWay
noted (sent unit) step Opened t = record t { near = record t.near { opened = unit.session } }
noted item step (Accepted n) t =
    record t { far = record t.far { sessions = changed t.near.opened (takes step) t.far.sessions } }
noted item step note t = t

-- its reply goes out, if it is not too late for it
abbrev pub reply_out : ℕ → Option ℕ → TwoWay → TwoWay
reply_out zero (Some b) t = goes_out (answered b) t
reply_out to_drop reply t = t

abbrev pub receiver_went : Item → ReceiverStep → StationState → TwoWay → TwoWay
receiver_went item step after t =
    reply_out t.far.to_drop step.reply (noted item step step.note (record t { near = with_station after t.near }))

abbrev pub station_went : {limit : ℕ} → Item → StationAnswer limit → StationState → TwoWay → TwoWay
station_went item (sends step) after t = sender_went step after t
station_went item (hears step) after t = receiver_went item step after t

abbrev pub steps : {limit : ℕ} → Item → StationStep limit → TwoWay → TwoWay
steps item step t = station_went item step.answer step.after t

-- bytes come in the place of an item, one by one: each is routed by the phase that the sender then has
abbrev pub comes : ℕ → Item → List ℕ → TwoWay → TwoWay
comes limit item [] t = t
comes limit item (b ∷ bytes) t = comes limit item bytes (steps item (on_station_byte limit b t.near.station) t)

abbrev pub item_bytes : Item → List ℕ
item_bytes (sent unit) = load_bytes unit.load
item_bytes (answered b) = b ∷ []

-- the front item has left the line
abbrev pub left_line : Item → TwoWay → TwoWay
left_line (sent unit) t = record t { far = record t.far { to_drop = lowered t.far.to_drop } }
left_line (answered b) t = t

abbrev pub arrives : ℕ → List Item → TwoWay → TwoWay
arrives limit [] t = t
arrives limit (front ∷ items) t = left_line front (comes limit front (item_bytes front) (record t { inward = items }))

abbrev pub roomed : Bool → StationState → StationState
roomed room s = record s { receiver = with_room room s.receiver }

abbrev pub room_near : Bool → TwoWay → TwoWay
room_near room t = record t { near = with_station (roomed room t.near.station) t.near }

-- Damage is noticed. While the receiver hears: it gives no signal or, in place of a frame, one bad frame; in place of a
-- reply it is one byte. While a reply is awaited: no byte is an ACK, none but the first is an ENQ, and in place of a
-- reply it is one byte.
abbrev pub is_single : List ℕ → Bool
is_single (b ∷ []) = true
is_single bytes = false

abbrev pub has_byte : ℕ → List ℕ → Bool
has_byte b [] = false
has_byte b (c ∷ bytes) = b == c || has_byte b bytes

abbrev pub is_noise_to_sender : List ℕ → Bool
is_noise_to_sender [] = true
is_noise_to_sender (b ∷ bytes) = not (b == ACK) && not (has_byte ACK bytes) && not (has_byte ENQ bytes)

abbrev pub is_noise : ℕ → Bool → Item → List ℕ → ReceiverState → Bool
is_noise limit true (sent unit) bytes r = is_noise_to_sender bytes
is_noise limit true (answered b) bytes r = is_noise_to_sender bytes && is_single bytes
is_noise limit false (sent unit) bytes r = is_noticed unit.load (signals_after limit r.past bytes)
is_noise limit false (answered b) bytes r = is_noticed enquiry (signals_after limit r.past bytes) && is_single bytes

abbrev pub damaged_in : ℕ → List ℕ → List Item → TwoWay → TwoWay
damaged_in limit bytes [] t = t
damaged_in limit bytes (front ∷ items) t =
    if is_noise limit (awaits_reply t.near.station.sender.phase) front bytes t.near.station.receiver then
    left_line front (comes limit front bytes (record t { inward = items }))
    else t

abbrev pub lost_in : List Item → TwoWay → TwoWay
lost_in [] t = t
lost_in (front ∷ items) t = left_line front (record t { inward = items })

-- ---- timers

-- the units of a line
abbrev pub units_of : List Item → List Travelling
units_of [] = []
units_of (sent unit ∷ items) = unit ∷ units_of items
units_of (answered b ∷ items) = units_of items

-- no reply to what this end has sent comes any more
abbrev pub forgotten_out : TwoWay → TwoWay
forgotten_out t = record t {
  near = record t.near { to_drop = length (units_of t.outward) };
  inward = map sent (units_of t.inward);
}

-- the texts of the session that goes on
abbrev pub texts_of : End → List (List ℕ)
texts_of e = (session_at e.current e.sessions).texts

-- a sender that waits asks for the line again, in a session anew with the same texts
abbrev pub asks_anew : ℕ → TwoWay → TwoWay
asks_anew limit t = put_out enquiry (record t {
  near = with_session (timed_by {limit = limit} false t.near.station).after (texts_of t.near) t.near;
})

-- a reply does not come in time
abbrev pub waits_no_more : ℕ → TwoWay → TwoWay
waits_no_more limit t = sender_went {limit = limit} (on_sender_timer t.near.station.sender)
    (timed_by {limit = limit} false t.near.station).after (forgotten_out t)

-- the sender's timer, by phases
abbrev pub sender_timed : ℕ → Phase → TwoWay → TwoWay
sender_timed limit Phases.Neutral t = t
sender_timed limit Phases.AwaitLine t = waits_no_more limit t
sender_timed limit Phases.Busy t = asks_anew limit (forgotten_out t)
sender_timed limit Phases.Contention t = asks_anew limit (forgotten_out t)
sender_timed limit Phases.AwaitReply t = waits_no_more limit t

-- the station's timer is the receiver's while its line is open
abbrev pub timed : ℕ → Bool → TwoWay → TwoWay
timed limit true t = record t { near = with_station (timed_by {limit = limit} true t.near.station).after t.near }
timed limit false t = sender_timed limit t.near.station.sender.phase t

-- ---- events

abbrev pub begins_out : ℕ → Option StationFault → List (List ℕ) → TwoWay → TwoWay
begins_out limit (Some fault) texts t = t
begins_out limit None texts t =
    put_out enquiry (record t { near = with_session (station_started limit texts t.near.station) texts t.near })

-- what can happen at this end: its session is started, the front item comes, comes while there is no room, is damaged
-- or lost; the timer runs out; the session is given up; the receiver is restarted, or both are; the receiver is ready
-- or busy from now on; this side asks for its turn
pub data StationEvent : Type 0 where
  start : List (List ℕ) → StationEvent
  arrive : StationEvent
  arrive_without_room : StationEvent
  damage : List ℕ → StationEvent
  lose : StationEvent
  timer : StationEvent
  give_up : StationEvent
  close_line : StationEvent
  restart : StationEvent
  set_ready : Bool → StationEvent
  ask_turn : StationEvent

abbrev pub happens : ℕ → StationEvent → TwoWay → TwoWay
happens limit (start texts) t = begins_out limit (station_fault t.near.station texts) texts t
happens limit arrive t = arrives limit t.inward t
happens limit arrive_without_room t = room_near true (arrives limit t.inward (room_near false t))
happens limit (damage bytes) t = damaged_in limit bytes t.inward t
happens limit lose t = lost_in t.inward t
happens limit timer t = timed limit t.near.station.receiver.is_open t
happens limit give_up t =
    record (forgotten_out t) { near = followed_by (session_given_up t.near.station) (forgotten_out t).near }
happens limit close_line t = record t { near = with_station (line_closed t.near.station) t.near }
happens limit restart t =
    record (forgotten_out t) { near = followed_by (station_restarted t.near.station) (forgotten_out t).near }
happens limit (set_ready ready) t = record t { near = with_station (readied ready t.near.station) t.near }
happens limit ask_turn t = record t { near = with_station (turn_asked_for t.near.station) t.near }

-- at the analyzer, or at the computer
pub data LineEvent : Type 0 where
  at_analyzer : StationEvent → LineEvent
  at_computer : StationEvent → LineEvent

-- the line, seen from the analyzer
abbrev pub after_line_event : ℕ → LineEvent → TwoWay → TwoWay
after_line_event limit (at_analyzer event) t = happens limit event t
after_line_event limit (at_computer event) t = turned (happens limit event (turned t))

abbrev pub new_end : StationState → End
new_end s = record { station = s; to_drop = 0; current = 0; opened = 0; sessions = [] }

abbrev pub new_two_way : TwoWay
new_two_way = record {
  near = new_end (new_station Analyzer);
  far = new_end (new_station Computer);
  outward = [];
  inward = [];
}

abbrev pub two_way : ℕ → List LineEvent → TwoWay
two_way limit events = fold (λ t event. after_line_event limit event t) new_two_way events

-- ---- the law

abbrev pub AreSafe : ℕ → List Session → Type 0
AreSafe limit sessions = All (IsSafe limit) sessions × All DeliversAll sessions

-- in each direction each session is safe, whatever happens
abbrev pub SafeBothWays : ℕ → Type 0
SafeBothWays limit =
    (events : List LineEvent)
    → AreSafe limit (two_way limit events).near.sessions × AreSafe limit (two_way limit events).far.sessions
