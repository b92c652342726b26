-- A receiver that hears more carefully than the standard's profile asks: a damaged byte of a frame acknowledges
-- nothing, also where it became ENQ or STX (LIS01-A2, 6.3 to 6.6).
use Rattle.std.specs.Prelude.{ℕ, ◌+◌, Bool, true, false, List, [], ◌∷◌, Option, None, Some, if◌then◌else◌}
use Rattle.std.specs.Prelude.{◌==◌, ◌&&◌, ◌||◌}
use Rattle.lis_text.specs.Control.{STX, EOT, ENQ}
use Rattle.lis_frame.specs.Stream.{open_body}
use Rattle.lis_link.specs.declared.receiver.Note.{Note}
use Rattle.lis_link.specs.declared.receiver.Note.TheVariants.{Quiet, Ended}
use Rattle.lis_link.specs.Receiver.{ReceiverState, ReceiverStep, ReceiverHearing, answers, on_byte, heard_on}

-- while the line is open ENQ ends the session as EOT does, with no reply: who begins anew is answered at the next ENQ
abbrev pub ends_session : ReceiverState → ℕ → Bool
ends_session r b = r.is_open && (b == ENQ || b == EOT)

abbrev pub session_ended : ReceiverState → ReceiverStep
session_ended r = answers None Ended (record r { is_open = false; past = [] })

-- data link escape: no frame may hold it
abbrev pub DLE : ℕ
DLE = 16

-- an STX inside an unfinished frame begins none: it is heard as DLE, so that the frame is rejected
abbrev pub heard_as : Option (List ℕ) → ℕ → ℕ
heard_as None b = b
heard_as (Some body) b = if b == STX then DLE else b

-- a byte is an STX within a frame
abbrev pub begins_within : Option (List ℕ) → ℕ → Bool
begins_within None b = false
begins_within (Some body) b = b == STX

-- noise: on an open line an ENQ, or an STX inside an unfinished frame
abbrev pub is_noise : ReceiverState → ℕ → Bool
is_noise r b = r.is_open && (b == ENQ || begins_within (open_body r.past) b)

-- all else is as the profile has it
abbrev pub careful_by : Bool → ℕ → ℕ → ReceiverState → ReceiverStep
careful_by true limit b r = session_ended r
careful_by false limit b r = on_byte limit (heard_as (open_body r.past) b) r

abbrev pub on_byte_carefully : ℕ → ℕ → ReceiverState → ReceiverStep
on_byte_carefully limit b r = careful_by (ends_session r b) limit b r

-- bytes are heard up to the first that is not quiet, and all of them where each is quiet
abbrev pub on_bytes_by : (ℕ → ReceiverState → ReceiverStep) → List ℕ → ReceiverState → ReceiverHearing
on_bytes_by hear [] r = record { count = 0; step = answers None Quiet r }
on_bytes_by hear (b ∷ bytes) r = heard_on 1 (hear b r).note (hear b r) (on_bytes_by hear bytes (hear b r).after)

abbrev pub on_bytes_carefully : ℕ → List ℕ → ReceiverState → ReceiverHearing
on_bytes_carefully limit bytes r = on_bytes_by (on_byte_carefully limit) bytes r

-- how much of them is noise
abbrev pub noise_of : Bool → ℕ
noise_of true = 1
noise_of false = 0

abbrev pub counted_on : ℕ → Note → ℕ → ℕ
counted_on noise Quiet following = noise + following
counted_on noise note following = noise

abbrev pub noise_by : (ℕ → ReceiverState → ReceiverStep) → List ℕ → ReceiverState → ℕ
noise_by hear [] r = 0
noise_by hear (b ∷ bytes) r =
    counted_on (noise_of (is_noise r b)) (hear b r).note (noise_by hear bytes (hear b r).after)

abbrev pub noise_in : ℕ → List ℕ → ReceiverState → ℕ
noise_in limit bytes r = noise_by (on_byte_carefully limit) bytes r

-- the state in which a byte was heard, and nothing else has changed
abbrev pub heard_only : ReceiverStep → ReceiverState → ReceiverState
heard_only step r = record r { past = step.after.past }

-- ---- bytes that are heard at once

-- a byte is heard as another one, or leaves less of the stream
abbrev pub is_altered : ReceiverState → ℕ → Bool
is_altered r b = ends_session r b || begins_within (open_body r.past) b
