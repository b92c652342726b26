-- The signals of a stream of link bytes (LIS01-A2, 6.2 to 6.5). A stream is kept newest byte first.
use Rattle.std.specs.Prelude.{ℕ, Bool, List, [], ◌∷◌, Option, None, Some, if◌then◌else◌, ◌==◌, ◌||◌}
use Rattle.lis_text.specs.Control.{STX, EOT, ENQ, LF}
use Rattle.lis_frame.specs.declared.frame.FrameFault.{FrameFault}
use Rattle.lis_frame.specs.declared.scanner.SignalOf.{SignalOf}
use Rattle.lis_frame.specs.declared.scanner.SignalOf.TheVariants.{Enq, Eot, Good, Bad}
use Rattle.lis_frame.specs.FrameBody.{body_fault, content_of}

-- the bytes that are read wherever they are
abbrev pub is_mark : ℕ → Bool
is_mark b = b == STX || b == LF || (b == EOT || b == ENQ)

-- the bytes since the nearest STX, oldest first, where none of EOT, ENQ and LF is nearer; `since` is after
-- them
abbrev pub look_back : List ℕ → List ℕ → Option (List ℕ)
look_back [] since = None
look_back (b ∷ past) since =
    if b == STX then Some since else if b == EOT || b == ENQ || b == LF then None else look_back past (b ∷ since)

-- the frame body that the end of a stream leaves open
unfoldable pub open_body : List ℕ → Option (List ℕ)
open_body past = look_back past []

-- a frame body is a good frame or a bad one
abbrev pub signal_of_fault : {limit : ℕ} → List ℕ → Option FrameFault → SignalOf limit
signal_of_fault body None = Good (content_of body)
signal_of_fault body (Some fault) = Bad fault

abbrev pub read_body : (limit : ℕ) → List ℕ → SignalOf limit
read_body limit body = signal_of_fault body (body_fault limit body)

-- LF ends the frame body that is open, and reports nothing where none is
abbrev pub ended_body : (limit : ℕ) → Option (List ℕ) → Option (SignalOf limit)
ended_body limit None = None
ended_body limit (Some body) = Some (read_body limit body)

-- what a byte reports after what came before it: ENQ and EOT wherever they are, LF by the frame body that it ends, no
-- other byte anything
unfoldable pub signal_after : (limit : ℕ) → List ℕ → ℕ → Option (SignalOf limit)
signal_after limit past b =
    if b == ENQ then Some Enq else if b == EOT then Some Eot else if b == LF then ended_body limit
    (open_body past) else None

-- the signals of further bytes, in the order of their places
abbrev pub with_signal : {limit : ℕ} → Option (SignalOf limit) → List (SignalOf limit) → List (SignalOf limit)
with_signal None rest = rest
with_signal (Some signal) rest = signal ∷ rest

abbrev pub signals_after : (limit : ℕ) → List ℕ → List ℕ → List (SignalOf limit)
signals_after limit past [] = []
signals_after limit past (b ∷ bytes) = with_signal (signal_after limit past b) (signals_after limit (b ∷ past) bytes)

-- the signals of a stream from its first byte on, oldest byte first
abbrev pub signals : (limit : ℕ) → List ℕ → List (SignalOf limit)
signals limit bytes = signals_after limit [] bytes

-- a stream with further bytes, newest first
abbrev pub stream_with : List ℕ → List ℕ → List ℕ
stream_with past [] = past
stream_with past (b ∷ bytes) = stream_with (b ∷ past) bytes
