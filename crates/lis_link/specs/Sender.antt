-- The sending end: its state, and the table of its steps (LIS01-A2, 6.3 to 6.6).
use Rattle.std.specs.Prelude.{ℕ, ◌+◌, List, [], ◌∷◌, drop, Option, None, Some, if◌then◌else◌, nat_lt, ◌==◌, ◌||◌}
use Rattle.std.specs.Option.{option_map, option_or}
use Rattle.lis_text.specs.Control.{EOT, ENQ, ACK}
use Rattle.lis_text.specs.LinkText.{longest_text}
use Rattle.lis_text.specs.Text.{text_fault}
use Rattle.lis_frame.specs.Frame.{FrameContent}
use Rattle.lis_frame.specs.Pieces.{session_frames}
use Rattle.lis_link.specs.declared.sender.Phase.{Phase}
use Rattle.lis_link.specs.declared.sender.Phase.TheVariants.{Neutral, AwaitLine, Busy, Contention, AwaitReply}
use Rattle.lis_link.specs.declared.sender.Outcome.{Outcome}
use Rattle.lis_link.specs.declared.sender.Outcome.TheVariants.{Done, TimedOut, SixTries, Restarted}
use Rattle.lis_link.specs.declared.sender.StartFault.{StartFault}
use Rattle.lis_link.specs.declared.sender.StartFault.TheVariants.{InSession, NoText, BadText}
use Rattle.lis_link.specs.declared.sender.EmitOf.{EmitOf}
use Rattle.lis_link.specs.declared.sender.EmitOf.TheVariants.{Nothing, Enq, Eot, Nak, Frame}

-- a sender: the frames of its session, none once it is finished; how many of them are, or were, acknowledged; the
-- phase; how often the present frame was sent, and how the last session ended
pub record SenderState : Type 0 where
  pub frames : List FrameContent
  pub acknowledged : ℕ
  pub phase : Phase
  pub tries : ℕ
  pub outcome : Option Outcome

-- a step: what goes on the link, and the state after it
pub record SenderStep (limit : ℕ) : Type 0 where
  pub emit : EmitOf limit
  pub after : SenderState

abbrev pub gives : {limit : ℕ} → EmitOf limit → SenderState → SenderStep limit
gives emit after = record { emit = emit; after = after }

-- a sender that was never started
abbrev pub new_sender : SenderState
new_sender = record { frames = []; acknowledged = 0; phase = Neutral; tries = 0; outcome = None }

-- the times that a frame is sent before its session is given up
abbrev pub most_tries : ℕ
most_tries = 6

-- the first frame of a list, if there is one
abbrev pub first_frame : List FrameContent → Option FrameContent
first_frame [] = None
first_frame (frame ∷ frames) = Some frame

-- the frame that was sent and awaits its reply
abbrev pub awaited_in : Phase → SenderState → Option FrameContent
awaited_in AwaitReply s = first_frame (drop s.acknowledged s.frames)
awaited_in phase s = None

abbrev pub awaited : SenderState → Option FrameContent
awaited s = awaited_in s.phase s

-- the session is finished: nothing of its texts is kept
abbrev pub finished_with : Outcome → SenderState → SenderState
finished_with outcome s = record s { frames = []; phase = Neutral; outcome = Some outcome }

-- it ends with EOT
abbrev pub ends : {limit : ℕ} → Outcome → SenderState → SenderStep limit
ends outcome s = gives Eot (finished_with outcome s)

-- the first of the frames that are left is sent for the first time; where none is left, the session is done
abbrev pub sends_first : {limit : ℕ} → List FrameContent → SenderState → SenderStep limit
sends_first [] s = ends Done s
sends_first (frame ∷ frames) s = gives (Frame frame) (record s { phase = AwaitReply; tries = 1 })

-- the same frame is sent again, or given up
abbrev pub sends_again : {limit : ℕ} → List FrameContent → SenderState → SenderStep limit
sends_again [] s = gives Nothing s
sends_again (frame ∷ frames) s =
    if nat_lt s.tries most_tries then gives (Frame frame) (record s { tries = s.tries + 1 }) else ends SixTries s

-- the present frame is accepted
abbrev pub on_accepted : {limit : ℕ} → SenderState → SenderStep limit
on_accepted s = sends_first (drop (s.acknowledged + 1) s.frames) (record s { acknowledged = s.acknowledged + 1 })

-- a reply byte, by phases
abbrev pub reply_in : {limit : ℕ} → Phase → ℕ → SenderState → SenderStep limit
reply_in Neutral b s = if b == ENQ then gives Nak s else gives Nothing s
reply_in AwaitLine b s =
    if b == ACK then sends_first s.frames s
    else if b == ENQ then gives Nothing (record s { phase = Contention })
    else gives Nothing (record s { phase = Busy })
reply_in AwaitReply b s =
    if b == ACK || b == EOT then on_accepted s else sends_again (drop s.acknowledged s.frames) s
reply_in phase b s = gives Nothing s

abbrev pub on_reply : {limit : ℕ} → ℕ → SenderState → SenderStep limit
on_reply b s = reply_in s.phase b s

-- the timer runs out, by phases
abbrev pub timer_in : {limit : ℕ} → Phase → SenderState → SenderStep limit
timer_in Neutral s = gives Nothing s
timer_in AwaitLine s = ends TimedOut s
timer_in AwaitReply s = ends TimedOut s
timer_in phase s = gives Enq (record s { phase = AwaitLine })

abbrev pub on_sender_timer : {limit : ℕ} → SenderState → SenderStep limit
on_sender_timer s = timer_in s.phase s

-- the sender is restarted: a session that goes on is finished
abbrev pub restart_in : Phase → SenderState → SenderState
restart_in Neutral s = s
restart_in phase s = finished_with Restarted s

abbrev pub sender_restarted : SenderState → SenderState
sender_restarted s = restart_in s.phase s

-- the first text that is no link text, counted from a place on
abbrev pub bad_text : ℕ → List (List ℕ) → Option StartFault
bad_text index [] = None
bad_text index (text ∷ texts) =
    option_or (option_map (BadText index) (text_fault longest_text text)) (bad_text (index + 1) texts)

abbrev pub bad_texts : List (List ℕ) → Option StartFault
bad_texts [] = Some NoText
bad_texts (text ∷ texts) = bad_text 0 (text ∷ texts)

abbrev pub start_fault_in : Phase → List (List ℕ) → Option StartFault
start_fault_in Neutral texts = bad_texts texts
start_fault_in phase texts = Some InSession

-- why a start is rejected, if it is
abbrev pub start_fault : SenderState → List (List ℕ) → Option StartFault
start_fault s texts = start_fault_in s.phase texts

-- the sender after a start that is not rejected; ENQ goes on the link
abbrev pub started : ℕ → List (List ℕ) → SenderState
started limit texts =
    record { frames = session_frames limit texts; acknowledged = 0; phase = AwaitLine; tries = 0; outcome = None }
