-- One damaged byte of a frame, as a careful receiver hears it on an open line between frames (LIS01-A2, 6.3 to 6.6).
use Rattle.std.specs.Prelude.{◌≡◌, ◌≢◌, ℕ, ◌≤◌, Bool, true, false, List, [], ◌∷◌, ◌++◌, Option, None, Some}
use Rattle.lis_frame.specs.declared.frame.FrameFault.{FrameFault}
use Rattle.lis_frame.specs.declared.scanner.SignalOf.TheVariants.{Good, Bad}
use Rattle.lis_frame.specs.Frame.{FrameContent, IsFrame}
use Rattle.lis_frame.specs.Stream.{open_body}
use Rattle.lis_text.specs.Control.{STX, ENQ, ACK}
use Rattle.lis_link.specs.Receiver.{ReceiverState, ReceiverStep, new_receiver, on_byte}
use Rattle.lis_careful.specs.Careful.{ends_session, heard_as, session_ended}
use Rattle.lis_careful.specs.World.{CarefulSignal, ends, gives, careful_signals}

-- nothing, the end of the session, one bad frame, or that very frame
pub data IsHeardAs {limit : ℕ} (frame : FrameContent) (signals : List (CarefulSignal limit)) : Type 0 where
  nothing : signals ≡ [] → IsHeardAs frame signals
  session_end : signals ≡ ends ∷ [] → IsHeardAs frame signals
  bad_frame : (fault : FrameFault) → signals ≡ gives (Bad fault) ∷ [] → IsHeardAs frame signals
  itself : signals ≡ gives (Good frame) ∷ [] → IsHeardAs frame signals

-- a byte of a frame came as another one: no other frame is heard, and no ENQ
abbrev pub OneByteIsNoticed : ℕ → Type 0
OneByteIsNoticed limit =
    (r : ReceiverState) (frame : FrameContent) (before after : List ℕ) (was is : ℕ)
    → r.is_open ≡ true → open_body r.past ≡ None
    → IsFrame limit (before ++ was ∷ after) frame
    → was ≢ is → was ≤ 255 → is ≤ 255
    → IsHeardAs frame (careful_signals limit (before ++ is ∷ after) r)

-- ---- why both rules are needed

-- a receiver that begins a frame at each STX, and one that answers each ENQ
abbrev pub started_by : Bool → ℕ → ReceiverState → ReceiverStep
started_by true b r = session_ended r
started_by false b r = on_byte 240 b r

abbrev pub takes_each_start : ℕ → ReceiverState → ReceiverStep
takes_each_start b r = started_by (ends_session r b) b r

abbrev pub answers_each_enquiry : ℕ → ReceiverState → ReceiverStep
answers_each_enquiry b r = on_byte 240 (heard_as (open_body r.past) b) r

-- the replies to bytes, and the frames that are taken of them
abbrev pub with_first : {A : Type 0} → Option A → List A → List A
with_first None xs = xs
with_first (Some x) xs = x ∷ xs

abbrev pub replies_of : (ℕ → ReceiverState → ReceiverStep) → List ℕ → ReceiverState → List ℕ
replies_of hear [] r = []
replies_of hear (b ∷ bytes) r = with_first (hear b r).reply (replies_of hear bytes (hear b r).after)

abbrev pub taken_of : (ℕ → ReceiverState → ReceiverStep) → List ℕ → ReceiverState → List FrameContent
taken_of hear [] r = []
taken_of hear (b ∷ bytes) r = with_first (hear b r).taken (taken_of hear bytes (hear b r).after)

-- an open line that awaits frame 1
abbrev pub opened : ReceiverState
opened = record new_receiver { is_open = true }

-- a frame with one byte changed is acknowledged, and it is not the frame that is taken
pub record Mistakes (hear : ℕ → ReceiverState → ReceiverStep) : Type 0 where
  pub frame : FrameContent
  pub before : List ℕ
  pub after : List ℕ
  pub was : ℕ
  pub is : ℕ
  pub is_frame : IsFrame 240 (before ++ was ∷ after) frame
  pub differ : was ≢ is
  pub acknowledged : replies_of hear (before ++ is ∷ after) opened ≡ ACK ∷ []
  pub not_taken : taken_of hear (before ++ is ∷ after) opened ≢ frame ∷ []

-- so does the receiver as the profile has it, at an ENQ and at an STX with a sum that fits
pub record OneByteMayMatter : Type 0 where
  pub enquiry : Mistakes (on_byte 240)
  pub is_enquiry : enquiry.is ≡ ENQ
  pub start : Mistakes (on_byte 240)
  pub is_start : start.is ≡ STX
  pub without_enquiry_rule : Mistakes answers_each_enquiry
  pub without_start_rule : Mistakes takes_each_start
