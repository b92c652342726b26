-- A station's loop on its line: each event is answered as its table says (LIS01-A2, 6.2 to 6.6), its one timer is
-- started anew by each answer that means something, and a whole text is kept before it is acknowledged.
use Rattle.std.specs.Prelude.{◌≡◌, ◌≢◌, ℕ, ◌+◌, false, List, [], ◌∷◌, ◌++◌, Option, None, Some}
use Rattle.lis_text.specs.Control.{NAK}
use Rattle.lis_frame.specs.Frame.{FrameContent}
use Rattle.lis_link.specs.declared.receiver.Note.{Note}
use Rattle.lis_link.specs.declared.receiver.Note.TheVariants.{OutOfMemory, Quiet}
use Rattle.lis_link.specs.declared.receiver.Step.{Step}
use Rattle.lis_link.specs.declared.sender.EmitOf.{EmitOf}
use Rattle.lis_link.specs.declared.sender.Outcome.{Outcome}
use Rattle.lis_link.specs.declared.sender.Phase.{Phase}
use Rattle.lis_link.specs.declared.sender.Phase.TheVariants.{Neutral}
use Rattle.lis_link.specs.Receiver.{answers, on_byte}
use Rattle.lis_link.specs.Representation.{IsStep}
use Rattle.lis_station.specs.declared.station.AnswerOf.{AnswerOf}
use Rattle.lis_station.specs.declared.station.AnswerOf.TheVariants.{Emits, Hears}
use Rattle.lis_station.specs.Station.{StationState, StationAnswer, StationStep, sends, hears, heard, awaits_reply}
use Rattle.lis_station.specs.Station.{on_station_byte, on_station_timer, station_seconds, line_closed}
use Rattle.lis_station.specs.Representation.{KeptStation, IsStation}
use Rattle.uses.specs.declared.connection.Event.{Event}
use Rattle.uses.specs.declared.connection.Event.TheVariants.{Byte, Timer, Closed}
use Rattle.uses.specs.declared.station.Ran.{Ran}
use Rattle.uses.specs.declared.station.Ran.TheVariants as Rans
use Rattle.uses.specs.Analyzer.{put_out}
use Rattle.uses.specs.Computer.{AcknowledgedIsKept, reply_log}
use Rattle.uses.specs.Connection.{LogEvent, GoesOn, kept, most_events, not_kept, timed, waited}

-- ---- an answer

-- the station's step at an event
abbrev pub station_step_at : Event → StationState → StationStep 240
station_step_at (Byte byte) s = on_station_byte 240 byte s
station_step_at Timer s = on_station_timer s
station_step_at Closed s = heard (answers None Quiet s.receiver) s

-- the program's answer is that of the end that the event is for
abbrev pub IsOfEnd : StationAnswer 240 → AnswerOf 240 → Type 0
IsOfEnd (sends step) (Emits emit) = emit ≡ step.emit
IsOfEnd (sends step) (Hears result) = ⊥
IsOfEnd (hears step) (Emits emit) = ⊥
IsOfEnd (hears step) (Hears result) = IsStep step result

-- The program's answer to an event: the station's step. Or memory runs out for a frame that would be accepted: that is
-- answered NAK, and nothing of it is kept.
pub data IsStationAnswer (event : Event) (s : StationState) (answer : AnswerOf 240) (after : StationState) :
    Type 0 where
  made : IsOfEnd (station_step_at event s).answer answer → after ≡ (station_step_at event s).after
      → IsStationAnswer event s answer after
  refused : (byte : ℕ) (frame : FrameContent) (result : Step) → event ≡ Byte byte
      → awaits_reply s.sender.phase ≡ false
      → (on_byte 240 byte s.receiver).taken ≡ Some frame
      → answer ≡ Hears result
      → after ≡ record s { receiver = record s.receiver { past = byte ∷ s.receiver.past } }
      → IsStep (answers (Some NAK) OutOfMemory after.receiver) result → IsStationAnswer event s answer after

-- ---- what is done at an answer

-- the timer is started anew, if one runs
abbrev pub timer_log : Option ℕ → List LogEvent
timer_log None = []
timer_log (Some seconds) = timed seconds ∷ []

abbrev pub timer_unless_quiet : Note → Option ℕ → List LogEvent
timer_unless_quiet Quiet seconds = []
timer_unless_quiet note seconds = timer_log seconds

-- the receiver's reply, and the timer
abbrev pub step_log : Step → StationState → List LogEvent
step_log step s = reply_log step.reply ++ timer_unless_quiet step.note (station_seconds s)

-- After a step of the receiver: the log, what the loop came to, and the station. A whole text is kept first, and then
-- the reply is sent. If it can't be kept, no reply is sent, and the line is closed.
pub data IsHeard (s : StationState) (step : Step) (event_log : List LogEvent) (ran : Option Ran) (last : StationState) :
    Type 0 where
  no_text : step.message ≡ None → event_log ≡ step_log step s → ran ≡ None → last ≡ s
      → IsHeard s step event_log ran last
  is_kept : (whole : List ℕ) → step.message ≡ Some whole → event_log ≡ kept whole ∷ step_log step s
      → ran ≡ Some (Rans.Text whole) → last ≡ s → IsHeard s step event_log ran last
  is_not_kept : (whole : List ℕ) → step.message ≡ Some whole
      → event_log ≡ not_kept whole ∷ timer_log (station_seconds (line_closed s))
      → ran ≡ None → last ≡ line_closed s → IsHeard s step event_log ran last

-- the own session is over: the sender was in one, and is so no more
abbrev pub over_by : Phase → Phase → Option Outcome → Option Ran
over_by Neutral after outcome = None
over_by before Neutral outcome = Some (Rans.Over outcome)
over_by before after outcome = None

-- One event: the log of what is done at it, what the loop came to, none if it goes on, and the station after it.
pub data IsTurn (event : Event) (s : StationState) (event_log : List LogEvent) (ran : Option Ran)
    (last : StationState) : Type 0 where
  is_closed : event ≡ Closed → event_log ≡ [] → ran ≡ Some Rans.Closed → last ≡ s → IsTurn event s event_log ran last
  is_sent : (emit : EmitOf 240) → event ≢ Closed → IsStationAnswer event s (Emits emit) last
      → event_log ≡ put_out emit ++ timer_log (station_seconds last)
      → ran ≡ over_by s.sender.phase last.sender.phase last.sender.outcome → IsTurn event s event_log ran last
  is_heard : (step : Step) (after : StationState) → event ≢ Closed → IsStationAnswer event s (Hears step) after
      → IsHeard after step event_log ran last → IsTurn event s event_log ran last

-- ---- the loop

-- The logged events on the line until the loop ends, of which so many are waited for at most; what it came to; and the
-- station after them.
pub data IsRun : ℕ → StationState → List LogEvent → Ran → StationState → Type 0 where
  ends : {left : ℕ} {s last : StationState} {event_log : List LogEvent} {ran : Ran} (more : ℕ) (event : Event)
      (turn : List LogEvent)
      → left ≡ more + 1 → IsTurn event s turn (Some ran) last → event_log ≡ waited event ∷ turn
      → IsRun left s event_log ran last
  goes_on : {left : ℕ} {s last : StationState} {event_log : List LogEvent} {ran : Ran} (more : ℕ) (event : Event)
      (turn : List LogEvent) (after : StationState) (rest : List LogEvent)
      → left ≡ more + 1 → IsTurn event s turn None after → event_log ≡ waited event ∷ (turn ++ rest)
      → IsRun more after rest ran last → IsRun left s event_log ran last
  given_up : {left : ℕ} {s last : StationState} {event_log : List LogEvent} {ran : Ran}
      → left ≡ 0 → event_log ≡ [] → ran ≡ Rans.Closed → last ≡ s → IsRun left s event_log ran last

-- a station in this state ran; what is acknowledged is kept
pub record WasRun (s : StationState) (past now : Option (List LogEvent)) (ran : Ran) (new : KeptStation) : Type 0 where
  pub event_log : List LogEvent
  pub done : GoesOn past now event_log
  pub last : StationState
  pub run : IsRun most_events s event_log ran last
  pub acknowledged_is_kept : AcknowledgedIsKept past s.receiver → AcknowledgedIsKept now last.receiver
  pub state : IsStation 240 new last
