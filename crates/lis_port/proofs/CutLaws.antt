-- The byte that a cut source repeats.
use Rattle.std.proofs.Common.{◌≡◌, ◌<◌, ℕ, List, [], ◌∷◌, length, arith, refl, take}
use Rattle.std.specs.Prelude.{slice_set}

pub first_is_set : (buffer : List ℕ) (byte : ℕ) → 0 < length buffer → take 1 (slice_set buffer 0 byte) ≡ byte ∷ []
first_is_set [] byte some = absurd (none some)
  where
    none : 0 < 0 → ⊥
    none some = omega (arith, some)
first_is_set (b ∷ buffer) byte some = refl
