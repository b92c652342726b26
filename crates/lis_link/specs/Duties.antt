-- What a sender's program does on its line: the bytes that it writes, and how long it waits (LIS01-A2, 6.2 to 6.5).
use Rattle.std.specs.Prelude.{ℕ, List, [], ◌∷◌, Option, None, Some}
use Rattle.lis_text.specs.Control.{EOT, ENQ, NAK}
use Rattle.lis_frame.specs.Frame.{frame_bytes}
use Rattle.lis_link.specs.declared.sender.Phase.{Phase}
use Rattle.lis_link.specs.declared.sender.Phase.TheVariants.{Neutral, AwaitLine, Busy, Contention, AwaitReply}
use Rattle.lis_link.specs.declared.sender.EmitOf.{EmitOf}
use Rattle.lis_link.specs.declared.sender.EmitOf.TheVariants.{Nothing, Enq, Eot, Nak, Frame}

-- the bytes of what the sender emits
abbrev pub emitted_bytes : {limit : ℕ} → EmitOf limit → List ℕ
emitted_bytes Nothing = []
emitted_bytes Enq = ENQ ∷ []
emitted_bytes Eot = EOT ∷ []
emitted_bytes Nak = NAK ∷ []
emitted_bytes (Frame frame) = frame_bytes frame

-- the seconds of the timer in a phase: for a reply, after NAK to ENQ, after ENQ to ENQ
abbrev pub timer_seconds : Phase → Option ℕ
timer_seconds Neutral = None
timer_seconds AwaitLine = Some 15
timer_seconds AwaitReply = Some 15
timer_seconds Busy = Some 10
timer_seconds Contention = Some 1

-- the seconds that a receiver whose line is open waits for a frame or EOT
abbrev pub receiver_seconds : ℕ
receiver_seconds = 30
