-- The receiving end: its state, and the table of its steps (LIS01-A2, 6.3 to 6.6).
use Rattle.std.specs.Prelude.{ℕ, ◌+◌, ◌%◌, Bool, true, false, not, List, [], ◌∷◌, ◌++◌, length, Option, None, Some}
use Rattle.std.specs.Prelude.{if◌then◌else◌, nat_lt, ◌==◌, ◌&&◌}
use Rattle.lis_text.specs.Control.{ENQ, ACK, NAK}
use Rattle.lis_frame.specs.declared.scanner.SignalOf.{SignalOf}
use Rattle.lis_frame.specs.declared.scanner.SignalOf.TheVariants.{Enq, Eot, Good, Bad}
use Rattle.lis_frame.specs.Frame.{FrameContent}
use Rattle.lis_frame.specs.Stream.{signal_after, stream_with}
use Rattle.lis_text.specs.declared.readiness.Readiness.{Readiness}
use Rattle.lis_text.specs.declared.readiness.Readiness.TheVariants.{Ready, Busy, Contending}
use Rattle.lis_link.specs.declared.receiver.Note.{Note}
use Rattle.lis_link.specs.declared.receiver.Note.TheVariants.{Quiet, Opened, NotReady, Ended, Accepted, Duplicate}
use Rattle.lis_link.specs.declared.receiver.Note.TheVariants.{OutOfTurn, Refused, NoRoom, TooLong, TooMany, TimedOut}
use Rattle.lis_text.specs.LinkText.{longest_text}
use Rattle.lis_link.specs.Joining.{completed, rest}

-- a receiver: whether the line is open, the frames accepted since it was last opened, how it answers ENQ,
-- whether it has room, and the stream of its bytes since it was made or restarted, newest first
pub record ReceiverState : Type 0 where
  pub is_open : Bool
  pub accepted : List FrameContent
  pub readiness : Readiness
  pub room : Bool
  pub past : List ℕ

-- a step: the reply, the text delivered, the note, the frame taken, and the state after it
pub record ReceiverStep : Type 0 where
  pub reply : Option ℕ
  pub message : Option (List ℕ)
  pub note : Note
  pub taken : Option FrameContent
  pub after : ReceiverState

-- a step that delivers nothing
abbrev pub answers : Option ℕ → Note → ReceiverState → ReceiverStep
answers reply note after = record { reply = reply; message = None; note = note; taken = None; after = after }

-- a new receiver: neutral, ready, with room
abbrev pub new_receiver : ReceiverState
new_receiver = record { is_open = false; accepted = []; readiness = Ready; room = true; past = [] }

-- the text held while the line is open
abbrev pub held_text : ReceiverState → List ℕ
held_text r = rest [] r.accepted

-- a receiver whose line isn't open holds none
abbrev pub held_while : Bool → List ℕ → List ℕ
held_while true text = text
held_while false text = []

-- the greatest number of frames that a receiver counts in a session
abbrev pub most_frames : ℕ
most_frames = 4294967295

-- an ENQ is answered by the readiness, in whatever state
abbrev pub answered_request : Readiness → ReceiverState → ReceiverStep
answered_request Ready r = answers (Some ACK) Opened (record r { is_open = true; accepted = [] })
answered_request Busy r = answers (Some NAK) NotReady (record r { is_open = false })
answered_request Contending r = answers (Some ENQ) NotReady (record r { is_open = false; readiness = Ready })

-- what is found of a good frame while the line is open, by the numbers of accepted frames and held bytes,
-- the room, and the frame's number and length: the first line of the table that fits
abbrev pub classified_by : ℕ → ℕ → Bool → ℕ → ℕ → Note
classified_by accepted held room number bytes =
    if nat_lt 0 accepted && number == accepted % 8 then Duplicate number
    else if not (number == (accepted + 1) % 8) then OutOfTurn number
    else if not room then NoRoom
    else if accepted == most_frames then TooMany
    else if nat_lt longest_text (held + bytes) then TooLong
    else Accepted number

abbrev pub classified : ReceiverState → FrameContent → Note
classified r frame = classified_by (length r.accepted) (length (held_text r)) r.room frame.number (length frame.text)

-- the step by what was found: an accepted frame is taken, a repeated one acknowledged, any other rejected
abbrev pub on_classified : ReceiverState → FrameContent → Note → ReceiverStep
on_classified r frame (Accepted number) =
    record {
      reply = Some ACK;
      message = completed (held_text r) frame;
      note = Accepted number;
      taken = Some frame;
      after = record r { accepted = r.accepted ++ frame ∷ [] };
    }
on_classified r frame (Duplicate number) = answers (Some ACK) (Duplicate number) r
on_classified r frame note = answers (Some NAK) note r

-- a signal, by whether the line is open: while it isn't, only ENQ is answered
abbrev pub heard_by : {limit : ℕ} → Bool → SignalOf limit → ReceiverState → ReceiverStep
heard_by is_open Enq r = answered_request r.readiness r
heard_by true Eot r = answers None Ended (record r { is_open = false })
heard_by true (Good frame) r = on_classified r frame (classified r frame)
heard_by true (Bad fault) r = answers (Some NAK) (Refused fault) r
heard_by false signal r = answers None Quiet r

-- a byte by the signal that it gives, if it gives one
abbrev pub heard : {limit : ℕ} → Option (SignalOf limit) → ReceiverState → ReceiverStep
heard None r = answers None Quiet r
heard (Some signal) r = heard_by r.is_open signal r

abbrev pub on_byte : ℕ → ℕ → ReceiverState → ReceiverStep
on_byte limit b r = heard (signal_after limit r.past b) (record r { past = b ∷ r.past })

-- the state with more bytes heard that changed nothing else
abbrev pub with_heard : List ℕ → ReceiverState → ReceiverState
with_heard bytes r = record r { past = stream_with r.past bytes }

-- bytes that are heard at once: how many they are, and the step of the last one
pub record ReceiverHearing : Type 0 where
  pub count : ℕ
  pub step : ReceiverStep

-- so many bytes were heard, the last of them with this step: where it is quiet it goes on with those after them
abbrev pub heard_on : ℕ → Note → ReceiverStep → ReceiverHearing → ReceiverHearing
heard_on count Quiet step following = record { count = count + following.count; step = following.step }
heard_on count note step following = record { count = count; step = step }

-- bytes are heard up to the first that is not quiet, and all of them where each is quiet
abbrev pub on_bytes : ℕ → List ℕ → ReceiverState → ReceiverHearing
on_bytes limit [] r = record { count = 0; step = answers None Quiet r }
on_bytes limit (b ∷ bytes) r =
    heard_on 1 (on_byte limit b r).note (on_byte limit b r) (on_bytes limit bytes (with_heard (b ∷ []) r))

-- the receiver's timer runs out
abbrev pub timer_by : Bool → ReceiverState → ReceiverStep
timer_by true r = answers None TimedOut (record r { is_open = false })
timer_by false r = answers None Quiet r

abbrev pub on_receiver_timer : ReceiverState → ReceiverStep
on_receiver_timer r = timer_by r.is_open r

-- how ENQ will be answered, and whether there is room for another frame
abbrev pub with_readiness : Readiness → ReceiverState → ReceiverState
with_readiness readiness r = record r { readiness = readiness }

abbrev pub with_room : Bool → ReceiverState → ReceiverState
with_room room r = record r { room = room }

-- a restart: neutral, ready, with room, and no byte heard yet
abbrev pub receiver_restarted : ReceiverState → ReceiverState
receiver_restarted r = record r { is_open = false; readiness = Ready; room = true; past = [] }

-- how many bytes are held
abbrev pub held_length : ReceiverState → ℕ
held_length r = length (held_while r.is_open (held_text r))
