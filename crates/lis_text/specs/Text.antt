-- The bytes of a text, be it a frame's or a whole link text (LIS01-A2, 6.3 and 6.5).
use Rattle.std.specs.Prelude.{◌≡◌, ℕ, ◌≤◌, Bool, List, Option, None, Some, length, if◌then◌else◌, nat_lt, nat_le, ◌==◌}
use Rattle.std.specs.Prelude.{◌&&◌, ◌||◌}
use Rattle.std.specs.Option.{option_map}
use Rattle.std.specs.List.{position_from}
use Rattle.lis_text.specs.declared.text.TextFault.{TextFault}
use Rattle.lis_text.specs.declared.text.TextFault.TheVariants.{TooLong, Forbidden}

-- a byte that no text may hold: SOH, STX, ETX, EOT, ENQ, ACK (1 to 6), LF (10), and DLE to ETB (16 to 23)
abbrev pub is_forbidden : ℕ → Bool
is_forbidden b = nat_le 1 b && nat_le b 6 || b == 10 || nat_le 16 b && nat_le b 23

-- the place of the first forbidden byte, from 0
abbrev pub first_forbidden : List ℕ → Option ℕ
first_forbidden bytes = position_from is_forbidden 0 bytes

-- at most `limit` bytes, none of them forbidden
pub record IsText (limit : ℕ) (bytes : List ℕ) : Type 0 where
  pub short : length bytes ≤ limit
  pub clean : first_forbidden bytes ≡ None

-- what is wrong with a text: its length is reported before a byte of it
abbrev pub text_fault : ℕ → List ℕ → Option TextFault
text_fault limit bytes = if nat_lt limit (length bytes) then Some TooLong else option_map Forbidden
    (first_forbidden bytes)
