-- What the fields of a frame body in fixed buffers represent, and what is true of them.
use Rattle.std.specs.Prelude.{ℕ, ◌+◌, ◌≤◌, List, ◌∷◌, take, if◌then◌else◌, nat_lt}
use Rattle.lis_frame.specs.Limit.{IsLimit}
use Rattle.lis_frame.specs.Scanner.{Held, within, beyond}

-- so many bytes since STX: the number, and those of the buffers
abbrev pub kept_held : ℕ → ℕ → ℕ → List ℕ → Held
kept_held limit count number following =
    if nat_lt (limit + 5) count then beyond else within (take count (number ∷ following))

pub record IsKept (limit count : ℕ) : Type 0 where
  pub is_limit : IsLimit limit
  pub counted : count ≤ limit + 6
