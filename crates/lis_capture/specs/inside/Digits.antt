-- What the numbers mean that code makes of hexadecimal digits.
use Rattle.std.specs.Prelude.{ℕ, Bool, ◌==◌, bit_or, nat_lt, Option, None, Some, if◌then◌else◌}

-- what a number says about a digit: its value; none where it is no value of a digit
abbrev pub digit_meant : ℕ → Option ℕ
digit_meant value = if nat_lt value 16 then Some value else None

-- whether it reports a value
abbrev pub is_digit_value : ℕ → Bool
is_digit_value value = nat_lt value 16

-- a digit in lower case: those of numbers have that bit too
abbrev pub lower_case : ℕ → ℕ
lower_case digit = bit_or digit 32

-- what a number says about a byte: whether it is no step from a digit
abbrev pub is_none_far : ℕ → Bool
is_none_far steps = steps == 0
