-- What a scanner answers to a byte, and holds after it, by what it held before.
use Rattle.std.specs.Prelude.{ℕ, List, [], ◌∷◌, ◌++◌, Option, None, Some, if◌then◌else◌, ◌==◌, ◌||◌}
use Rattle.lis_text.specs.Control.{STX, EOT, ENQ, LF}
use Rattle.lis_frame.specs.declared.frame.FrameFault.TheVariants.{TooLong}
use Rattle.lis_frame.specs.declared.scanner.SignalOf.{SignalOf}
use Rattle.lis_frame.specs.declared.scanner.SignalOf.TheVariants.{Enq, Eot, Bad}
use Rattle.lis_frame.specs.Stream.{read_body}
use Rattle.lis_frame.specs.Scanner.{Held, kept, outside, within, beyond}

-- what is held after a byte that is no mark
abbrev pub with_byte : ℕ → Held → ℕ → Held
with_byte limit outside b = outside
with_byte limit (within body) b = kept limit (body ++ b ∷ [])
with_byte limit beyond b = beyond

-- and after several such bytes
abbrev pub with_bytes : ℕ → Held → List ℕ → Held
with_bytes limit held [] = held
with_bytes limit held (b ∷ bytes) = with_bytes limit (with_byte limit held b) bytes

-- what an LF reports
abbrev pub ended_held : (limit : ℕ) → Held → Option (SignalOf limit)
ended_held limit outside = None
ended_held limit (within body) = Some (read_body limit body)
ended_held limit beyond = Some (Bad TooLong)

-- what a byte reports, by what is held
abbrev pub held_signal : (limit : ℕ) → Held → ℕ → Option (SignalOf limit)
held_signal limit held b =
    if b == ENQ then Some Enq else if b == EOT then Some Eot else if b == LF then ended_held limit held else None

-- what is held after a byte
abbrev pub held_after : ℕ → Held → ℕ → Held
held_after limit held b =
    if b == STX then within [] else if b == EOT || b == ENQ || b == LF then outside else with_byte limit held b
