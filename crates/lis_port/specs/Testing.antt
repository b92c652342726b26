-- Devices for tests: what a cut source and a slow sink hold, and what one call of each does.
use Rattle.std.specs.Prelude.{ℕ, ◌-◌, Bool, false, List, [], ◌∷◌, Option, None, Some, Ok, Err, length, min, take}
use Rattle.std.specs.declared.result.Result.{Result}
use Rattle.lis_port.specs.declared.testing.cut.Then.{Then}
use Rattle.lis_port.specs.declared.testing.cut.Then.TheVariants.{End, Fail, Again}
use Rattle.lis_port.specs.declared.port.Failed.{Failed}

-- a cut source: the bytes left, the most that a read gives, what comes after them, and its last answers
pub record CutState : Type 0 where
  pub rest : List ℕ
  pub step : ℕ
  pub following : Then
  pub made : ℕ
  pub failed : Bool
  pub ended : Bool

-- the bytes left, where they come to an end
abbrev pub known_left : Then → List ℕ → Option (List ℕ)
known_left End rest = Some rest
known_left Fail rest = Some rest
known_left (Again byte) rest = None

-- a source that was never read
abbrev pub new_cut : List ℕ → ℕ → Then → CutState
new_cut bytes step following = record {
  rest = bytes;
  step = step;
  following = following;
  made = 0;
  failed = false;
  ended = false;
}

-- a read after the last byte
abbrev pub answer_after : Then → Result ℕ Failed
answer_after End = Ok 0
answer_after Fail = Err (record {})
answer_after (Again byte) = Ok 1

-- what a read with so much room answers
abbrev pub cut_answer : Then → List ℕ → ℕ → ℕ → Result ℕ Failed
cut_answer following [] step room = answer_after following
cut_answer following (b ∷ rest) step room = Ok (min (min step (length (b ∷ rest))) room)

-- the bytes that a read with so much room gives
abbrev pub given_after : Then → List ℕ
given_after End = []
given_after Fail = []
given_after (Again byte) = byte ∷ []

abbrev pub cut_given : Then → List ℕ → ℕ → ℕ → List ℕ
cut_given following [] step room = given_after following
cut_given following (b ∷ rest) step room = take (min step room) (b ∷ rest)

-- a slow sink: what it took, the most that it takes in all and at a write, and whether the last write failed
pub record SlowState : Type 0 where
  pub taken : List ℕ
  pub room : ℕ
  pub step : ℕ
  pub failed : Bool

-- the count that a write of so many bytes takes; it fails where there is no count
abbrev pub slow_count : SlowState → ℕ → ℕ
slow_count sink offered = min (min sink.step (sink.room - length sink.taken)) offered
