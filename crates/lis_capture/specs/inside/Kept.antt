-- How many digits there are for what is kept of a line.
use Rattle.std.specs.Prelude.{ℕ}
use Rattle.lis_capture.specs.declared.line.Keeping.{Keeping}
use Rattle.lis_capture.specs.declared.line.Keeping.TheVariants.{Bytes, Digits}

-- how many digits there are for each byte of what is kept
abbrev pub kept_room : Keeping → ℕ
kept_room Bytes = 2
kept_room Digits = 1
