-- The front of bytes: what a receiver hears of them at once.
use Rattle.std.specs.Prelude.{◌≡◌, ℕ, List, max, take}
use Rattle.lis_frame.specs.Frame.{FrameContent, BeginsWith, IsFrame}
use Rattle.lis_frame.specs.Scanner.{quiet_length}

-- a whole frame; or, where none begins, all up to the next mark with an STX that is first, and one byte at least
pub data IsFront (limit : ℕ) (bytes : List ℕ) (count : ℕ) : Type 0 where
  whole : (frame : FrameContent) → IsFrame limit (take count bytes) frame → IsFront limit bytes count
  run : ((frame : FrameContent) → BeginsWith limit bytes frame → ⊥) → count ≡ max 1 (quiet_length bytes)
      → IsFront limit bytes count
