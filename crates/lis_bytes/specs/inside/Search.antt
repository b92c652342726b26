-- How far a search has come.
use Rattle.std.specs.Prelude.{◌≡◌, ◌≤◌, ℕ, ◌+◌, ◌%◌, ◌↔◌, Bool, List, count_by, length, map, nat_le, take, drop}
use Rattle.std.specs.List.{position_from, sum}
use Rattle.std.specs.Simd.Lanes.{mask_l, sum_l}

-- each byte is over this one
abbrev pub AreOver : ℕ → List ℕ → Type 0
AreOver limit bytes = mask_l (map (λ b. nat_le b limit) bytes) ≡ 0

-- the lesser of two bytes in each of sixteen lanes: all are over a limit if both are in each lane
pub record IsLesser (result one other : List ℕ) : Type 0 where
  pub over : (limit : ℕ) → AreOver limit result ↔ (AreOver limit one × AreOver limit other)
  pub long : length result ≡ 16

-- what was passed holds no byte of the set
pub record Passed (f : ℕ → Bool) (place : ℕ) (rest bytes : List ℕ) : Type 0 where
  pub following : rest ≡ drop place bytes
  pub fits : place + length rest ≡ length bytes
  pub same : position_from f 0 bytes ≡ position_from f place rest

-- and the lanes its sum
pub record Summed (f : ℕ → Bool) (place : ℕ) (rest bytes sums : List ℕ) : Type 0 where
  pub passed : Passed f place rest bytes
  pub total : sum_l sums % 256 ≡ sum (take place bytes) % 256

-- of what was passed, up to a place, so many bytes are in the set
pub record Counted (f : ℕ → Bool) (count : ℕ) (rest text : List ℕ) : Type 0 where
  pub place : ℕ
  pub fits : place + length rest ≡ length text
  pub following : rest ≡ drop place text
  pub sum : count + count_by f rest ≡ count_by f text
  pub within : count ≤ place
