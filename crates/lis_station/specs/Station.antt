-- A station: a sender and a receiver on one line, and which of them a byte is for (LIS01-A2, 6.2 to 6.5).
use Rattle.std.specs.Prelude.{ℕ, Bool, true, false, List, [], ◌∷◌, Option, None, Some, if◌then◌else◌, ◌==◌}
use Rattle.std.specs.Option.{option_map}
use Rattle.lis_text.specs.Control.{EOT, ENQ, NAK}
use Rattle.lis_frame.specs.Frame.{FrameContent}
use Rattle.lis_link.specs.Duties.{timer_seconds, receiver_seconds}
use Rattle.lis_link.specs.declared.sender.Phase.{Phase}
use Rattle.lis_link.specs.declared.sender.Phase.TheVariants.{AwaitLine, Contention, AwaitReply}
use Rattle.lis_link.specs.declared.receiver.Note.{Note}
use Rattle.lis_link.specs.declared.receiver.Note.TheVariants.{Quiet, Opened, NotReady, Ended, Accepted, TimedOut}
use Rattle.lis_text.specs.declared.readiness.Readiness.{Readiness}
use Rattle.lis_text.specs.declared.readiness.Readiness.TheVariants as Readinesses
use Rattle.lis_link.specs.Sender.{SenderState, SenderStep, new_sender, on_reply, on_sender_timer, sender_restarted}
use Rattle.lis_link.specs.Sender.{started, start_fault}
use Rattle.lis_link.specs.Receiver.{ReceiverState, ReceiverStep, answers, new_receiver, on_byte, on_bytes}
use Rattle.lis_link.specs.Receiver.{on_receiver_timer, receiver_restarted, with_readiness}
use Rattle.lis_station.specs.declared.station.Role.{Role}
use Rattle.lis_station.specs.declared.station.Role.TheVariants.{Computer}
use Rattle.lis_station.specs.declared.station.Turn.{Turn}
use Rattle.lis_station.specs.declared.station.Turn.TheVariants.{Free, Contended, Requested}
use Rattle.lis_station.specs.declared.station.StationFault.{StationFault}
use Rattle.lis_station.specs.declared.station.StationFault.TheVariants.{LineOpen, Start}

-- a station: its side of the line, its two ends, whether the other side waits for its turn, and whether this side asks
-- the other one for its own, by EOT in place of the next ACK
pub record StationState : Type 0 where
  pub role : Role
  pub sender : SenderState
  pub receiver : ReceiverState
  pub turn : Turn
  pub asks_turn : Bool

-- a byte or the timer is for one of the ends
pub data StationAnswer (limit : ℕ) : Type 0 where
  sends : SenderStep limit → StationAnswer limit
  hears : ReceiverStep → StationAnswer limit

-- a step: the end's answer, and the station after it
pub record StationStep (limit : ℕ) : Type 0 where
  pub answer : StationAnswer limit
  pub after : StationState

abbrev pub new_station : Role → StationState
new_station role =
    record { role = role; sender = new_sender; receiver = new_receiver; turn = Free; asks_turn = false }

-- ---- a byte

-- in these phases a byte that comes is a reply; in the others it is for the receiver, also while the sender waits
-- before it asks for the line again
abbrev pub awaits_reply : Phase → Bool
awaits_reply AwaitLine = true
awaits_reply AwaitReply = true
awaits_reply phase = false

-- EOT in reply to a frame asks the sender to stop (6.5). It may as well be the end of a session that the other side
-- asked for and did not get, which acknowledges nothing. So the frame is sent again, and a receiver that took it
-- acknowledges it.
abbrev pub given_reply : Phase → ℕ → ℕ
given_reply AwaitReply b = if b == EOT then NAK else b
given_reply phase b = b

abbrev pub reply_step : {limit : ℕ} → ℕ → SenderState → SenderStep limit
reply_step b sender = on_reply (given_reply sender.phase b) sender

-- the other side waits for its turn after ENQ in reply to ENQ, and after EOT in reply to a frame
abbrev pub turn_after_reply : Phase → ℕ → Turn → Turn
turn_after_reply AwaitLine b turn = if b == ENQ then Contended else turn
turn_after_reply AwaitReply b turn = if b == EOT then Requested else turn
turn_after_reply phase b turn = turn

abbrev pub replied : {limit : ℕ} → ℕ → StationState → StationStep limit
replied {limit} b s = record {
  answer = sends (reply_step {limit = limit} b s.sender);
  after = record s {
    sender = (reply_step {limit = limit} b s.sender).after;
    turn = turn_after_reply s.sender.phase b s.turn;
  };
}

-- an accepted frame is answered EOT, if this side asks for its turn
abbrev pub turn_reply : Note → Bool → Option ℕ → Option ℕ
turn_reply (Accepted number) true reply = Some EOT
turn_reply (Accepted number) false reply = reply
turn_reply note asks reply = reply

abbrev pub asking : Bool → ReceiverStep → ReceiverStep
asking asks step = record step { reply = turn_reply step.note asks step.reply }

-- the request is over once a frame is answered so, and with the other side's session
abbrev pub asks_after : Note → Bool → Bool
asks_after Opened asks = false
asks_after NotReady asks = false
asks_after Ended asks = false
asks_after (Accepted number) asks = false
asks_after TimedOut asks = false
asks_after note asks = asks

-- the other side has had its turn when its session is over
abbrev pub turn_after_note : Note → Turn → Turn
turn_after_note Ended turn = Free
turn_after_note TimedOut turn = Free
turn_after_note note turn = turn

abbrev pub heard : {limit : ℕ} → ReceiverStep → StationState → StationStep limit
heard step s = record {
  answer = hears (asking s.asks_turn step);
  after = record s {
    receiver = step.after;
    turn = turn_after_note step.note s.turn;
    asks_turn = asks_after step.note s.asks_turn;
  };
}

-- a byte, by whether a reply is awaited
abbrev pub routed : (limit : ℕ) → Bool → ℕ → StationState → StationStep limit
routed limit true b s = replied b s
routed limit false b s = heard (on_byte limit b s.receiver) s

abbrev pub on_station_byte : (limit : ℕ) → ℕ → StationState → StationStep limit
on_station_byte limit b s = routed limit (awaits_reply s.sender.phase) b s

-- bytes that are heard at once: how many they are, and the step of the last one
pub record StationHearing (limit : ℕ) : Type 0 where
  pub count : ℕ
  pub step : StationStep limit

-- one of them while a reply is awaited, else as many as the receiver hears
abbrev pub routed_bytes : (limit : ℕ) → Bool → List ℕ → StationState → StationHearing limit
routed_bytes limit true [] s = record { count = 0; step = heard (answers None Quiet s.receiver) s }
routed_bytes limit true (b ∷ bytes) s = record { count = 1; step = replied b s }
routed_bytes limit false bytes s = record {
  count = (on_bytes limit bytes s.receiver).count;
  step = heard (on_bytes limit bytes s.receiver).step s;
}

abbrev pub on_station_bytes : (limit : ℕ) → List ℕ → StationState → StationHearing limit
on_station_bytes limit bytes s = routed_bytes limit (awaits_reply s.sender.phase) bytes s

-- the frame that a step takes, if it takes one
abbrev pub taken_by : {limit : ℕ} → StationAnswer limit → Option FrameContent
taken_by (sends step) = None
taken_by (hears step) = step.taken

-- ---- the timer

-- it is the receiver's while its line is open, else the sender's
abbrev pub timed_by : {limit : ℕ} → Bool → StationState → StationStep limit
timed_by true s = heard (on_receiver_timer s.receiver) s
timed_by {limit} false s = record {
  answer = sends (on_sender_timer {limit = limit} s.sender);
  after = record s { sender = (on_sender_timer {limit = limit} s.sender).after };
}

abbrev pub on_station_timer : {limit : ℕ} → StationState → StationStep limit
on_station_timer s = timed_by s.receiver.is_open s

-- a computer that met ENQ by ENQ waits so long for the analyzer's session (6.5.2); once that is over it may ask at once
abbrev pub computer_contention_seconds : Turn → ℕ
computer_contention_seconds Free = 0
computer_contention_seconds turn = 20

-- the seconds of the timer that runs
abbrev pub sender_seconds : Role → Phase → Turn → Option ℕ
sender_seconds Computer Contention turn = Some (computer_contention_seconds turn)
sender_seconds role phase turn = timer_seconds phase

abbrev pub seconds_by : Bool → StationState → Option ℕ
seconds_by true s = Some receiver_seconds
seconds_by false s = sender_seconds s.role s.sender.phase s.turn

abbrev pub station_seconds : StationState → Option ℕ
station_seconds s = seconds_by s.receiver.is_open s

-- ---- turns

-- the seconds for which this side leaves the line to the other one, if that waits for its turn
abbrev pub turn_seconds : Turn → Option ℕ
turn_seconds Free = None
turn_seconds turn = Some 15

-- EOT came in reply to a frame
abbrev pub is_requested : Turn → Bool
is_requested Requested = true
is_requested turn = false

-- this side asks for its turn, while the other side has the line
abbrev pub turn_asked_for : StationState → StationState
turn_asked_for s = record s { asks_turn = s.receiver.is_open }

-- ---- sessions

-- why no session is started: the other side has the line, or the sender starts none
abbrev pub station_fault_by : Bool → StationState → List (List ℕ) → Option StationFault
station_fault_by true s texts = Some LineOpen
station_fault_by false s texts = option_map Start (start_fault s.sender texts)

abbrev pub station_fault : StationState → List (List ℕ) → Option StationFault
station_fault s texts = station_fault_by s.receiver.is_open s texts

-- the station after a start that is not rejected; ENQ goes on the line
abbrev pub station_started : ℕ → List (List ℕ) → StationState → StationState
station_started limit texts s = record s { sender = started limit texts; turn = Free }

-- the session is given up; the receiver is restarted, as ready or busy as it was; both are restarted, and the receiver
-- is ready; the receiver is ready or busy from now on
abbrev pub session_given_up : StationState → StationState
session_given_up s = record s { sender = sender_restarted s.sender }

abbrev pub line_closed : StationState → StationState
line_closed s = record s {
  receiver = with_readiness s.receiver.readiness (receiver_restarted s.receiver);
  asks_turn = false;
}

abbrev pub station_restarted : StationState → StationState
station_restarted s = record s {
  sender = sender_restarted s.sender;
  receiver = receiver_restarted s.receiver;
  turn = Free;
  asks_turn = false;
}

abbrev pub readiness_of : Bool → Readiness
readiness_of true = Readinesses.Ready
readiness_of false = Readinesses.Busy

abbrev pub readied : Bool → StationState → StationState
readied ready s = record s { receiver = with_readiness (readiness_of ready) s.receiver }
