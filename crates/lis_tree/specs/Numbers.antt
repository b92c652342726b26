-- Sequence numbers (LIS02-A2): the second field of a record is its position among the records of its kind under its
-- parent.
use Rattle.std.specs.Prelude.{◌≡◌, ℕ, ◌+◌, ◌*◌, ◌-◌, ◌==◌, nat_le, Bool, true, false, ◌&&◌, if◌then◌else◌, List, []}
use Rattle.std.specs.Prelude.{◌∷◌, length, Option, Some, None}
use Rattle.lis_record_values.specs.declared.kinds.Kind.{Kind}
use Rattle.lis_record_values.specs.declared.kinds.Kind.TheVariants as kinds
use Rattle.lis_record_values.specs.declared.symbols.Sym.{Sym}
use Rattle.lis_record_values.specs.declared.symbols.Sym.TheVariants.{Char}
use Rattle.lis_record_values.specs.Shape.{Repeats, Symbols}
use Rattle.lis_tree.specs.declared.numbering.KindCounts.{KindCounts}
use Rattle.lis_bytes.specs.Capped.{capped}

-- whether records of this kind carry a number that is examined: not headers, manufacturer and scientific records
abbrev pub is_numbered : Kind → Bool
is_numbered kinds.H = false
is_numbered kinds.M = false
is_numbered kinds.S = false
is_numbered k = true

-- whether a record of the first kind belongs to one of the second, the nearest such record before it
abbrev pub belongs_to : Kind → Kind → Bool
belongs_to kinds.P kinds.H = true
belongs_to kinds.Q kinds.H = true
belongs_to kinds.O kinds.P = true
belongs_to kinds.R kinds.O = true
belongs_to kinds.C kinds.C = false
belongs_to kinds.C kinds.M = false
belongs_to kinds.C kinds.S = false
belongs_to kinds.C k = true
belongs_to k j = false

-- whether two kinds are one, for those that are counted
abbrev pub same_kind : Kind → Kind → Bool
same_kind kinds.P kinds.P = true
same_kind kinds.Q kinds.Q = true
same_kind kinds.O kinds.O = true
same_kind kinds.R kinds.R = true
same_kind kinds.C kinds.C = true
same_kind k j = false

-- how many records of a kind are after its parent, going back from here: the kinds before, the nearest first
abbrev pub siblings : Kind → List Kind → ℕ
siblings k [] = 0
siblings k (j ∷ earlier) = if belongs_to k j then 0 else if same_kind k j then siblings k earlier + 1
    else siblings k earlier

-- the number that a record should have; that of the closing record is 1
abbrev pub expected_number : Kind → List Kind → ℕ
expected_number kinds.L earlier = 1
expected_number k earlier = siblings k earlier + 1

-- the value of a symbol that is a digit
abbrev pub symbol_digit : Sym → Option ℕ
symbol_digit (Char b) = if nat_le 48 b && nat_le b 57 then Some (b - 48) else None
symbol_digit s = None

-- the number that digits make after a number
abbrev pub digits_from : ℕ → Symbols → Option ℕ
digits_from number [] = Some number
digits_from number (s ∷ symbols) = elim (symbol_digit s)
    [ None ↦ None | Some digit ↦ digits_from (number * 10 + digit) symbols ]

-- the number that one to nine digits are
abbrev pub digits_number : Symbols → Option ℕ
digits_number symbols = if nat_le 1 (length symbols) && nat_le (length symbols) 9 then digits_from 0 symbols else None

-- the number that a field is: one repeat of one component
abbrev pub field_number : Option Repeats → Option ℕ
field_number (Some ((symbols ∷ []) ∷ [])) = digits_number symbols
field_number f = None

-- whether a number is the expected one
abbrev pub is_number : Option ℕ → ℕ → Bool
is_number None n = false
is_number (Some m) n = m == n

-- ---- counting while the records pass

-- the counts of each kind after its parent
pub record CountsOf (earlier : List Kind) (counts : KindCounts) : Type 0 where
  pub patients_are : counts.patients ≡ capped (siblings kinds.P earlier)
  pub queries_are : counts.queries ≡ capped (siblings kinds.Q earlier)
  pub orders_are : counts.orders ≡ capped (siblings kinds.O earlier)
  pub results_are : counts.results ≡ capped (siblings kinds.R earlier)
  pub comments_are : counts.comments ≡ capped (siblings kinds.C earlier)
