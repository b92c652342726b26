-- What a call that writes answers, and what the sink has then taken.
use Rattle.std.specs.Prelude.{◌≡◌, ℕ, ◌-◌, ◌^◌, ◌<◌, ◌≤◌, min, Bool, true, false, List, length, take, drop, Option}
use Rattle.std.specs.Prelude.{Some, None, Result, Ok, Err}
use Rattle.std.specs.Io.KnownBytes.{Appends, Keeps}
use Rattle.lis_record_write.specs.declared.faults.WriteFault.{WriteFault}
use Rattle.lis_record_write.specs.declared.faults.WriteFault.TheVariants as write_faults

-- Of these bytes all but the first `skip` are written, or, where the sink fails, those of the first `count`
-- that were not skipped. Where there is a rejection it is answered, and nothing is written.
abbrev pub Wrote : Option WriteFault → ℕ → List ℕ → Option (List ℕ) → Option (List ℕ) → Result Unit WriteFault → Type 0
Wrote refusal skip bytes old new (Ok done) = (refusal ≡ None) × Appends old new (drop skip bytes)
Wrote refusal skip bytes old new (Err (write_faults.Io count)) =
    (refusal ≡ None) × (skip ≤ count) × (count < length bytes) × Appends old new (drop skip (take count bytes))
Wrote refusal skip bytes old new (Err fault) = (refusal ≡ Some fault) × Keeps old new

-- The same of bytes of any number: the count stops at the greatest that a u64 holds.
abbrev pub WroteAny : Option WriteFault → List ℕ → Option (List ℕ) → Option (List ℕ) → Result Unit WriteFault → Type 0
WroteAny refusal bytes old new (Ok done) = (refusal ≡ None) × Appends old new bytes
WroteAny refusal bytes old new (Err (write_faults.Io reported)) =
    (refusal ≡ None) × (count : ℕ) × (reported ≡ min count (2 ^ 64 - 1)) × (count < length bytes)
    × Appends old new (take count bytes)
WroteAny refusal bytes old new (Err fault) = (refusal ≡ Some fault) × Keeps old new

-- whether the sink failed
abbrev pub is_io : Result Unit WriteFault → Bool
is_io (Err (write_faults.Io count)) = true
is_io _ = false
