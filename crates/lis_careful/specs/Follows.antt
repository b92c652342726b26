-- What follows one damaged byte of a frame, at the receiver and at the sender (LIS01-A2, 6.4 and 6.5).
use Rattle.std.specs.Prelude.{◌≡◌, ◌≢◌, ℕ, ◌≤◌, true, List, [], ◌∷◌, ◌++◌, None, Some}
use Rattle.lis_text.specs.Control.{ACK, NAK}
use Rattle.lis_frame.specs.Frame.{FrameContent, IsFrame}
use Rattle.lis_frame.specs.Stream.{open_body}
use Rattle.lis_link.specs.declared.receiver.Note.TheVariants.{Accepted}
use Rattle.lis_link.specs.declared.sender.Outcome.TheVariants.{TimedOut}
use Rattle.lis_link.specs.declared.sender.Phase.TheVariants.{AwaitReply}
use Rattle.lis_link.specs.Receiver.{ReceiverState, classified}
use Rattle.lis_link.specs.Sender.{SenderState, on_sender_timer}
use Rattle.lis_careful.specs.Careful.{on_byte_carefully}
use Rattle.lis_careful.specs.OneByte.{replies_of, taken_of}

-- the state after bytes
abbrev pub after_bytes : ℕ → List ℕ → ReceiverState → ReceiverState
after_bytes limit [] r = r
after_bytes limit (b ∷ bytes) r = after_bytes limit bytes (on_byte_carefully limit b r).after

-- bytes are answered by these replies, and these frames are taken of them
pub record AreAnswered (limit : ℕ) (bytes replies : List ℕ) (frames : List FrameContent) (r : ReceiverState) :
    Type 0 where
  pub replies_are : replies_of (on_byte_carefully limit) bytes r ≡ replies
  pub frames_are : taken_of (on_byte_carefully limit) bytes r ≡ frames

-- the frame was taken; or it was rejected, and is taken when it is sent again as it is; or nothing is replied
pub data Follows (limit : ℕ) (frame : FrameContent) (bytes damaged : List ℕ) (r : ReceiverState) : Type 0 where
  is_taken : AreAnswered limit damaged (ACK ∷ []) (frame ∷ []) r → Follows limit frame bytes damaged r
  is_sent_again : AreAnswered limit damaged (NAK ∷ []) [] r
      → AreAnswered limit bytes (ACK ∷ []) (frame ∷ []) (after_bytes limit damaged r)
      → Follows limit frame bytes damaged r
  is_silent : AreAnswered limit damaged [] [] r → Follows limit frame bytes damaged r

-- so it is of each frame that is due, with one byte changed, on an open line between frames; and where nothing is
-- replied the sender's timer ends its session as timed out, with no more frames acknowledged
pub record FollowsOneByte (limit : ℕ) : Type 0 where
  pub receiver :
      (r : ReceiverState) (frame : FrameContent) (before after : List ℕ) (was is number : ℕ)
      → r.is_open ≡ true → open_body r.past ≡ None → classified r frame ≡ Accepted number
      → IsFrame limit (before ++ was ∷ after) frame
      → was ≢ is → was ≤ 255 → is ≤ 255
      → Follows limit frame (before ++ was ∷ after) (before ++ is ∷ after) r
  pub sender :
      (s : SenderState) → s.phase ≡ AwaitReply
      → ((on_sender_timer {limit = limit} s).after.outcome ≡ Some TimedOut)
      × ((on_sender_timer {limit = limit} s).after.acknowledged ≡ s.acknowledged)
