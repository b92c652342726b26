-- How a run reads.
use Rattle.std.specs.Prelude.{ℕ}

-- the bytes that each read has room for
abbrev pub read_room : ℕ
read_room = 4096
