-- A session: what it had to send, and what came of it.
use Rattle.std.specs.Prelude.{ℕ, List, [], ◌∷◌, ◌++◌, Option, None, Some, length, slice_index_or, slice_set}
use Rattle.std.specs.Prelude.{if◌then◌else◌, nat_lt}
use Rattle.lis_frame.specs.Frame.{FrameContent}
use Rattle.lis_link.specs.declared.sender.Outcome.{Outcome}
use Rattle.lis_link.specs.Sender.{SenderState}
use Rattle.lis_link.specs.Receiver.{ReceiverStep}

-- its texts; the frames sent, each once and in order; the frames accepted; how many are acknowledged;
-- the texts delivered; and its outcome, none while it goes on
pub record Session : Type 0 where
  pub texts : List (List ℕ)
  pub sent : List FrameContent
  pub accepted : List FrameContent
  pub acknowledged : ℕ
  pub handed : List (List ℕ)
  pub outcome : Option Outcome

abbrev pub new_session : List (List ℕ) → Session
new_session texts = record { texts = texts; sent = []; accepted = []; acknowledged = 0; handed = []; outcome = None }

-- the session at a place; one with no text where none is there
abbrev pub session_at : ℕ → List Session → Session
session_at k sessions = slice_index_or sessions k (new_session [])

-- the sessions with the one at a place changed
abbrev pub changed : ℕ → (Session → Session) → List Session → List Session
changed k change sessions = slice_set sessions k (change (session_at k sessions))

-- a list with one more at its end, if there is one more
abbrev pub with_more : {A : Type 0} → List A → Option A → List A
with_more xs None = xs
with_more xs (Some x) = xs ++ x ∷ []

-- what a step of the receiver took and delivered
abbrev pub takes : ReceiverStep → Session → Session
takes step x = record x { accepted = with_more x.accepted step.taken; handed = with_more x.handed step.message }

-- the sender's count and outcome
abbrev pub follows : SenderState → Session → Session
follows sender x = record x { acknowledged = sender.acknowledged; outcome = sender.outcome }

-- a frame put on the link; one that is sent again is there already
abbrev pub sends_frame : FrameContent → Session → Session
sends_frame frame x = record x { sent = if nat_lt x.acknowledged (length x.sent) then x.sent else x.sent ++ frame ∷ [] }

-- the same by a name that a proof unfolds only where it asks for it
unfoldable pub sends : FrameContent → Session → Session
sends frame x = sends_frame frame x
