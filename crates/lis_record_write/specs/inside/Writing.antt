-- What the engine that writes answers, and what the sink has then taken.
use Rattle.std.specs.Prelude.{◌≡◌, ℕ, ◌+◌, ◌-◌, ◌^◌, ◌<◌, min, List, length, take, Option, Result, Ok, Err}
use Rattle.std.specs.Io.KnownBytes.{Appends}
use Rattle.lis_record_write.specs.declared.faults.WriteFault.{WriteFault}
use Rattle.lis_record_write.specs.declared.faults.WriteFault.TheVariants as write_faults

-- What the engine answers: all of the bytes went out, or so many of them; `passed` went before.
abbrev pub SentOn : ℕ → List ℕ → Option (List ℕ) → Option (List ℕ) → Result Unit WriteFault → Type 0
SentOn passed bytes old new (Ok done) = Appends old new bytes
SentOn passed bytes old new (Err (write_faults.Io reported)) =
    (count : ℕ) × (reported ≡ min (passed + count) (2 ^ 64 - 1)) × (count < length bytes)
    × Appends old new (take count bytes)
SentOn passed bytes old new (Err fault) = ⊥
