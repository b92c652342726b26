-- A count that stays at the greatest number of 64 bits: of places, lines, records and results.
use Rattle.std.specs.Prelude.{ℕ, min}

abbrev pub capped : ℕ → ℕ
capped n = min n 18446744073709551615
