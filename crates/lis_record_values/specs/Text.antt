-- The bytes of a record's text (LIS02-A2, Character Codes).
use Rattle.std.specs.Prelude.{ℕ, ◌==◌, nat_le, Bool, not, ◌&&◌, ◌||◌, if◌then◌else◌, List, [], ◌∷◌, Option, Some, None}
use Rattle.std.specs.Prelude.{position}
use Rattle.std.specs.List.{AllPass}

-- whether a byte may be in a record: 7, 9, 11, 12, 32 to 126 and 128 to 254
unfoldable pub is_text_byte : ℕ → Bool
is_text_byte b =
    b == 7 || b == 9 || b == 11 || b == 12 || (nat_le 32 b && nat_le b 126) || (nat_le 128 b && nat_le b 254)

-- the most bytes that a record has, without its CR
abbrev pub record_limit : ℕ
record_limit = 65536

-- text bytes alone
abbrev pub IsRecordText : List ℕ → Type 0
IsRecordText bytes = AllPass is_text_byte bytes

-- the place of the first byte that is no text byte
abbrev pub bad_byte_place : List ℕ → Option ℕ
bad_byte_place bytes = position (λ b. not (is_text_byte b)) bytes

-- a first byte other than the field delimiter
abbrev pub trailing_byte : ℕ → List ℕ → Option ℕ
trailing_byte field [] = None
trailing_byte field (byte ∷ bytes) = if byte == field then None else Some byte
