-- The letters of the nine kinds of record (LIS02-A2, Data Record Usage Overview).
use Rattle.std.specs.Prelude.{ℕ, ◌+◌, ◌==◌, Bool, ◌||◌, cond, Option, Some, None}
use Rattle.lis_record_values.specs.declared.kinds.Kind.{Kind}
use Rattle.lis_record_values.specs.declared.kinds.Kind.TheVariants as kinds

-- the letter that is written
abbrev pub letter_of : Kind → ℕ
letter_of kinds.H = 72
letter_of kinds.P = 80
letter_of kinds.O = 79
letter_of kinds.R = 82
letter_of kinds.C = 67
letter_of kinds.Q = 81
letter_of kinds.M = 77
letter_of kinds.S = 83
letter_of kinds.L = 76

-- whether a byte is the kind's letter, in either case: a lower-case letter is 32 above
abbrev pub is_letter_of : Kind → ℕ → Bool
is_letter_of kind byte = byte == letter_of kind || byte == letter_of kind + 32

-- the kind whose letter a byte is
unfoldable pub kind_of : ℕ → Option Kind
kind_of byte =
    cond (is_letter_of kinds.H byte) (Some kinds.H)
    (cond (is_letter_of kinds.P byte) (Some kinds.P)
    (cond (is_letter_of kinds.O byte) (Some kinds.O)
    (cond (is_letter_of kinds.R byte) (Some kinds.R)
    (cond (is_letter_of kinds.C byte) (Some kinds.C)
    (cond (is_letter_of kinds.Q byte) (Some kinds.Q)
    (cond (is_letter_of kinds.M byte) (Some kinds.M)
    (cond (is_letter_of kinds.S byte) (Some kinds.S)
    (cond (is_letter_of kinds.L byte) (Some kinds.L) None))))))))
