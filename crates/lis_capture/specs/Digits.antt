-- Pairs of hexadecimal digits: the high digit first, letters in either case.
use Rattle.std.specs.Prelude.{ℕ, List, [], ◌∷◌, Option, None}
use Rattle.std.specs.Result.{result_ok}
use Rattle.hex.specs.Hex.{decode_of}

-- the bytes that one or more pairs of digits encode; none where a text isn't that
abbrev pub bytes_of : List ℕ → Option (List ℕ)
bytes_of [] = None
bytes_of (digit ∷ digits) = result_ok (decode_of (digit ∷ digits))
