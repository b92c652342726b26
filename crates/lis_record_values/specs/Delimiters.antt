-- The four delimiters of a message (LIS02-A2, Delimiters).
use Rattle.std.specs.Prelude.{◌≢◌, ℕ, ◌==◌, ◌+◌, nat_le, Bool, ◌&&◌, ◌||◌, not, cond, List, [], ◌∷◌, Option, Some, None}
use Rattle.std.specs.Prelude.{option_map, IsTrue, position}
use Rattle.std.specs.List.{list_any}
use Rattle.std.specs.Option.{option_or}
use Rattle.lis_record_values.specs.declared.delimiting.DelimiterFault.{DelimiterFault}
use Rattle.lis_record_values.specs.declared.delimiting.DelimiterFault.TheVariants.{NotPunctuation, Repeated}

-- the bytes that separate fields, repeats and components, and the one that begins and ends an escape
pub record DelimiterBytes : Type 0 where
  pub field : ℕ
  pub repeat : ℕ
  pub component : ℕ
  pub escape : ℕ

-- whether a byte is one of ! to /, : to @, [ to ` and { to ~
unfoldable pub is_punctuation : ℕ → Bool
is_punctuation b =
    (nat_le 33 b && nat_le b 47) || (nat_le 58 b && nat_le b 64) || (nat_le 91 b && nat_le b 96)
    || (nat_le 123 b && nat_le b 126)

-- four distinct punctuation bytes
pub record IsDelimiters (d : DelimiterBytes) : Type 0 where
  pub field_is : IsTrue (is_punctuation d.field)
  pub repeat_is : IsTrue (is_punctuation d.repeat)
  pub component_is : IsTrue (is_punctuation d.component)
  pub escape_is : IsTrue (is_punctuation d.escape)
  pub field_repeat : d.field ≢ d.repeat
  pub field_component : d.field ≢ d.component
  pub field_escape : d.field ≢ d.escape
  pub repeat_component : d.repeat ≢ d.component
  pub repeat_escape : d.repeat ≢ d.escape
  pub component_escape : d.component ≢ d.escape

-- four bytes, in the order of a header
abbrev pub delimiters_of : ℕ → ℕ → ℕ → ℕ → DelimiterBytes
delimiters_of f r c e = record { field = f; repeat = r; component = c; escape = e }

-- as a header declares them
abbrev pub delimiter_list : DelimiterBytes → List ℕ
delimiter_list d = d.field ∷ d.repeat ∷ d.component ∷ d.escape ∷ []

-- |, \, ^ and &
abbrev pub usual : DelimiterBytes
usual = record { field = 124; repeat = 92; component = 94; escape = 38 }

-- the place of the first byte that is among the earlier ones, which end before this place
abbrev pub repeated_from : List ℕ → ℕ → List ℕ → Option ℕ
repeated_from earlier place [] = None
repeated_from earlier place (b ∷ bytes) =
    cond (list_any (λ e. e == b) earlier) (Some place) (repeated_from (b ∷ earlier) (place + 1) bytes)

-- Why bytes are no delimiters: the first that is no punctuation, else the first that is earlier too.
unfoldable pub delimiter_fault : List ℕ → Option DelimiterFault
delimiter_fault bytes =
    option_or (option_map NotPunctuation (position (λ b. not (is_punctuation b)) bytes))
    (option_map Repeated (repeated_from [] 0 bytes))
