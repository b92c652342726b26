-- The limit on the text bytes of one frame, a parameter of the whole link.
use Rattle.std.specs.Prelude.{ℕ, ◌≤◌}

-- from the 240 bytes of LIS01-A2, 6.3, to what a frame of 64,000 bytes can hold
pub record IsLimit (limit : ℕ) : Type 0 where
  pub at_least : 240 ≤ limit
  pub at_most : limit ≤ 63993
