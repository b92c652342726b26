-- What is kept of a scanner for long frames.
use Rattle.std.specs.Prelude.{ℕ, List}
use Rattle.lis_frame.specs.Scanner.{Held}

-- what the scanner holds, and the text of the frame that was read last, if a signal has no room for it
pub record LongHeld : Type 0 where
  pub scanner : Held
  pub text : List ℕ
