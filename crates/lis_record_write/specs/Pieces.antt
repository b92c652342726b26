-- An encoding, piece by piece.
use Rattle.std.specs.Prelude.{ℕ, List}

-- a piece of it, and what comes after
pub record Pieces : Type 0 where
  pub piece : List ℕ
  pub following : List ℕ
