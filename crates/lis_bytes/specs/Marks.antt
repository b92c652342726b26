-- What is known of the places of a byte in a text.
use Rattle.std.specs.Prelude.{◌≡◌, ◌≤◌, ◌==◌, ℕ, List, length, map, take}
use Rattle.std.specs.Simd.Lanes.{mask_l}

-- the places among the first bytes of a text that hold this one, as bits; none may be known
pub record AreMarks (mark : ℕ) (text : List ℕ) (bits : ℕ) : Type 0 where
  pub count : ℕ
  pub few : count ≤ 64
  pub within : count ≤ length text
  pub are : bits ≡ mask_l (map (λ b. b == mark) (take count text))
