-- Receiving on a computer's line: each event is answered as a receiver answers it (LIS01-A2, 6.3 to 6.6), a timer runs
-- while the line is open, and a whole text is kept before it is acknowledged.
use Rattle.std.specs.Prelude.{◌≡◌, ◌≢◌, ℕ, ◌+◌, Bool, true, false, List, [], ◌∷◌, ◌++◌, Option, None, Some, ⊤}
use Rattle.lis_text.specs.Control.{NAK}
use Rattle.lis_frame.specs.Frame.{FrameContent}
use Rattle.lis_link.specs.declared.receiver.Note.{Note}
use Rattle.lis_link.specs.declared.receiver.Note.TheVariants.{OutOfMemory, Quiet}
use Rattle.lis_link.specs.declared.receiver.Step.{Step}
use Rattle.lis_link.specs.Kept.{Kept}
use Rattle.lis_link.specs.Representation.{IsIn, IsStep}
use Rattle.lis_link.specs.Joining.{groups}
use Rattle.lis_link.specs.Receiver.{ReceiverState, ReceiverStep, answers, on_byte, on_receiver_timer}
use Rattle.lis_link.specs.Receiver.{receiver_restarted}
use Rattle.uses.specs.declared.connection.Event.{Event}
use Rattle.uses.specs.declared.connection.Event.TheVariants.{Byte, Timer, Closed}
use Rattle.uses.specs.Connection.{LogEvent, GoesOn, kept, kept_texts, most_events, not_kept, sent, timed, waited}

-- the receiver's step at an event
abbrev pub step_at : Event → ReceiverState → ReceiverStep
step_at (Byte byte) r = on_byte 240 byte r
step_at Timer r = on_receiver_timer r
step_at Closed r = answers None Quiet r

-- The program's answer to an event: the receiver's step. Or memory runs out for a frame that would be accepted:
-- that is answered NAK, and nothing of it is kept.
pub data IsAnswer (event : Event) (r : ReceiverState) (answer : Step) (after : ReceiverState) : Type 0 where
  made : IsStep (step_at event r) answer → after ≡ (step_at event r).after → IsAnswer event r answer after
  refused : (byte : ℕ) (frame : FrameContent) → event ≡ Byte byte → (on_byte 240 byte r).taken ≡ Some frame
      → after ≡ record r { past = byte ∷ r.past } → IsStep (answers (Some NAK) OutOfMemory after) answer
      → IsAnswer event r answer after

-- the reply goes out
abbrev pub reply_log : Option ℕ → List LogEvent
reply_log None = []
reply_log (Some byte) = sent (byte ∷ []) ∷ []

-- the timer for the next frame or EOT (LIS01-A2, 6.2 to 6.5) is started anew by each step that isn't quiet and
-- leaves the line open
abbrev pub timer_after : Note → Bool → List LogEvent
timer_after note false = []
timer_after Quiet true = []
timer_after note true = timed 30 ∷ []

-- the reply, and the timer
abbrev pub answer_log : Step → Bool → List LogEvent
answer_log answer is_open = reply_log answer.reply ++ timer_after answer.note is_open

-- The logged events on the line until a text is whole and kept, of which so many events are waited for at most, the
-- text, none if the line was closed before, and the receiver after them. A whole text is kept first, and then the reply
-- to its last frame is sent. If it can't be kept, no reply is sent, and the receiver restarts.
pub data IsReception : ℕ → ReceiverState → List LogEvent → Option (List ℕ) → ReceiverState → Type 0 where
  closed : {left : ℕ} {r last : ReceiverState} {event_log : List LogEvent} {text : Option (List ℕ)} (more : ℕ)
      → left ≡ more + 1 → event_log ≡ waited Closed ∷ [] → text ≡ None → last ≡ r → IsReception left r event_log text
      last
  acknowledged : {left : ℕ} {r last : ReceiverState} {event_log : List LogEvent} {text : Option (List ℕ)} (more : ℕ)
      (event : Event) (answer : Step) (whole : List ℕ)
      → left ≡ more + 1 → event ≢ Closed → IsAnswer event r answer last → answer.message ≡ Some whole
      → text ≡ Some whole → event_log ≡ waited event ∷ kept whole ∷ answer_log answer last.is_open
      → IsReception left r event_log text last
  unanswered : {left : ℕ} {r last : ReceiverState} {event_log : List LogEvent} {text : Option (List ℕ)} (more : ℕ)
      (event : Event) (answer : Step) (whole : List ℕ) (after : ReceiverState) (rest : List LogEvent)
      → left ≡ more + 1 → event ≢ Closed → IsAnswer event r answer after → answer.message ≡ Some whole
      → event_log ≡ waited event ∷ not_kept whole ∷ rest
      → IsReception more (receiver_restarted after) rest text last → IsReception left r event_log text last
  goes_on : {left : ℕ} {r last : ReceiverState} {event_log : List LogEvent} {text : Option (List ℕ)} (more : ℕ)
      (event : Event)
      (answer : Step) (after : ReceiverState) (rest : List LogEvent)
      → left ≡ more + 1 → event ≢ Closed → IsAnswer event r answer after → answer.message ≡ None
      → event_log ≡ waited event ∷ answer_log answer after.is_open ++ rest
      → IsReception more after rest text last → IsReception left r event_log text last
  given_up : {left : ℕ} {r last : ReceiverState} {event_log : List LogEvent} {text : Option (List ℕ)}
      → left ≡ 0 → event_log ≡ [] → text ≡ None → last ≡ r → IsReception left r event_log text last

-- What is acknowledged is kept: while the line is open, the whole texts of the frames that were acknowledged since it
-- was opened are the last ones that were kept, in order. Nothing is said if the log isn't known.
abbrev pub AcknowledgedIsKept : Option (List LogEvent) → ReceiverState → Type 0
AcknowledgedIsKept None r = ⊤
AcknowledgedIsKept (Some log) r =
    r.is_open ≡ true → (earlier : List (List ℕ)) × (kept_texts log ≡ earlier ++ groups [] r.accepted)

-- a receiver in this state waited for a text
pub record WasReception (r : ReceiverState) (past now : Option (List LogEvent)) (text : Option (List ℕ)) (new : Kept) :
    Type 0 where
  pub event_log : List LogEvent
  pub done : GoesOn past now event_log
  pub last : ReceiverState
  pub reception : IsReception most_events r event_log text last
  pub acknowledged_is_kept : AcknowledgedIsKept past r → AcknowledgedIsKept now last
  pub state : IsIn 240 new last
