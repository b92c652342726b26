-- A session on an analyzer's line: each event is answered as a sender answers it (LIS01-A2, 6.3 to 6.6), and a timer
-- runs while a reply is awaited or the line is left to others. A session starts on a new line if a reply to the last
-- one may still come.
use Rattle.std.specs.Prelude.{◌≡◌, ◌≢◌, ℕ, ◌+◌, false, List, [], ◌∷◌, ◌++◌, Option, None, Some, if◌then◌else◌}
use Rattle.lis_text.specs.Control.{ENQ}
use Rattle.lis_link.specs.declared.sender.EmitOf.{EmitOf}
use Rattle.lis_link.specs.declared.sender.EmitOf.TheVariants as emits
use Rattle.lis_link.specs.declared.sender.Outcome.{Outcome}
use Rattle.lis_link.specs.declared.sender.Phase.{Phase}
use Rattle.lis_link.specs.Duties.{emitted_bytes, timer_seconds}
use Rattle.lis_link.specs.Sender.{SenderState, SenderStep, gives, on_reply, on_sender_timer, sender_restarted, started}
use Rattle.lis_world.specs.declared.event.Event.TheVariants.{Start}
use Rattle.lis_world.specs.declared.event.LateEvent.{LateEvent}
use Rattle.lis_world.specs.declared.event.LateEvent.TheVariants.{Happens, Reconnect}
use Rattle.lis_world.specs.Late.{reply_may_come}
use Rattle.lis_world.specs.LateDiscipline.{StartInTime}
use Rattle.lis_world.specs.World.{World}
use Rattle.uses.specs.declared.connection.Event.{Event}
use Rattle.uses.specs.declared.connection.Event.TheVariants.{Byte, Timer, Closed}
use Rattle.uses.specs.Connection.{LogEvent, GoesOn, most_events, reconnected, sent, timed, waited}

-- bytes are sent, if there are any
abbrev pub sent_if_any : List ℕ → List LogEvent
sent_if_any [] = []
sent_if_any (byte ∷ bytes) = sent (byte ∷ bytes) ∷ []

-- what is sent of what the sender emits
abbrev pub put_out : EmitOf 240 → List LogEvent
put_out emit = sent_if_any (emitted_bytes emit)

-- the sender's step at an event
abbrev pub sender_step_at : Event → SenderState → SenderStep 240
sender_step_at (Byte byte) s = on_reply byte s
sender_step_at Timer s = on_sender_timer s
sender_step_at Closed s = gives emits.Nothing s

-- the event means nothing in this phase: nothing is emitted, and the phase stays
abbrev pub MeansNothing : Phase → SenderStep 240 → Type 0
MeansNothing phase step = (step.emit ≡ emits.Nothing) × (step.after.phase ≡ phase)

-- The rest of a session of a sender, of which so many events are waited for at most: the logged events on the line, how
-- it ended, none if the line was closed before, and the sender after it, which is then restarted. An event that means
-- nothing leaves the timer running; after any other that of the phase is started anew.
pub data IsSession : ℕ → SenderState → List LogEvent → Option Outcome → SenderState → Type 0 where
  closed : {left : ℕ} {s last : SenderState} {event_log : List LogEvent} {outcome : Option Outcome} (more : ℕ)
      → left ≡ more + 1 → event_log ≡ waited Closed ∷ [] → outcome ≡ None → last ≡ sender_restarted s
      → IsSession left s event_log outcome last
  finished : {left : ℕ} {s last : SenderState} {event_log : List LogEvent} {outcome : Option Outcome} (more : ℕ)
      (event : Event)
      → left ≡ more + 1 → event ≢ Closed → timer_seconds (sender_step_at event s).after.phase ≡ None
      → event_log ≡ waited event ∷ put_out (sender_step_at event s).emit → outcome
      ≡ (sender_step_at event s).after.outcome
      → last ≡ (sender_step_at event s).after → IsSession left s event_log outcome last
  quiet : {left : ℕ} {s last : SenderState} {event_log : List LogEvent} {outcome : Option Outcome} (more : ℕ)
      (event : Event)
      (seconds : ℕ) (rest : List LogEvent)
      → left ≡ more + 1 → event ≢ Closed → timer_seconds (sender_step_at event s).after.phase ≡ Some seconds
      → MeansNothing s.phase (sender_step_at event s) → event_log ≡ waited event ∷ rest
      → IsSession more (sender_step_at event s).after rest outcome last → IsSession left s event_log outcome last
  answered : {left : ℕ} {s last : SenderState} {event_log : List LogEvent} {outcome : Option Outcome} (more : ℕ)
      (event : Event) (seconds : ℕ) (rest : List LogEvent)
      → left ≡ more + 1 → event ≢ Closed → timer_seconds (sender_step_at event s).after.phase ≡ Some seconds
      → ¬ (MeansNothing s.phase (sender_step_at event s))
      → event_log ≡ waited event ∷ put_out (sender_step_at event s).emit ++ timed seconds ∷ rest
      → IsSession more (sender_step_at event s).after rest outcome last → IsSession left s event_log outcome last
  given_up : {left : ℕ} {s last : SenderState} {event_log : List LogEvent} {outcome : Option Outcome}
      → left ≡ 0 → event_log ≡ [] → outcome ≡ None → last ≡ sender_restarted s → IsSession left s event_log outcome last

-- Before a session of a sender whose last one ended so, the line is connected anew if a reply to that may still come:
-- after one that timed out or was restarted, and for a new sender, since the line may be older than that.
abbrev pub renewal : Option Outcome → List LogEvent
renewal outcome = if reply_may_come outcome then reconnected ∷ [] else []

-- a session of this sender with these texts: the new line if there is one, ENQ, the timer for its reply, and the rest
pub record WasSession (texts : List (List ℕ)) (s : SenderState) (past now : Option (List LogEvent))
    (outcome : Option Outcome) (last : SenderState) : Type 0 where
  pub event_log : List LogEvent
  pub done : GoesOn past now (renewal s.outcome ++ sent (ENQ ∷ []) ∷ timed 15 ∷ event_log)
  pub session : IsSession most_events (started 240 texts) event_log outcome last

-- the same start, as events on a line that answers late
abbrev pub start_events : Option Outcome → List (List ℕ) → List LateEvent
start_events outcome texts =
    if reply_may_come outcome then Reconnect ∷ Happens (Start texts) ∷ [] else Happens (Start texts) ∷ []

-- The sender's start keeps the rule by which each session is safe on such a line (`SafeOnNewLines`), whatever is on it.
abbrev pub KeepsTheRule : SenderState → List (List ℕ) → Type 0
KeepsTheRule s texts =
    (w : World) → w.sender ≡ s → StartInTime 240 (start_events s.outcome texts) w false
