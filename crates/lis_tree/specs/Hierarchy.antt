-- The hierarchy of LIS02-A2's records in the standard's words.
use Rattle.std.specs.Prelude.{◌≡◌, ◌≢◌, Bool, true, false, if◌then◌else◌, List, [], ◌∷◌, ◌++◌, Option, Some, None, ⊤}
use Rattle.std.specs.List.{AllByRecursion}
use Rattle.std.specs.Option.{option_or}
use Rattle.lis_record_values.specs.declared.kinds.Kind.{Kind}
use Rattle.lis_record_values.specs.declared.kinds.Kind.TheVariants as kinds

-- the last of these kinds that passes a test
abbrev pub last_of : (Kind → Bool) → List Kind → Option Kind
last_of test [] = None
last_of test (k ∷ ks) = option_or (last_of test ks) (if test k then Some k else None)

-- a patient or a query
abbrev pub is_group : Kind → Bool
is_group kinds.P = true
is_group kinds.Q = true
is_group k = false

-- a patient, a query or an order
abbrev pub is_group_or_order : Kind → Bool
is_group_or_order kinds.O = true
is_group_or_order k = is_group k

-- An order needs a patient: the last patient or query before it is a patient. A result needs an order, since the last
-- patient or query before it.
abbrev pub HasParent : List Kind → Kind → Type 0
HasParent before kinds.O = last_of is_group before ≡ Some kinds.P
HasParent before kinds.R = last_of is_group_or_order before ≡ Some kinds.O
HasParent before k = ⊤

-- a header first, and only there
abbrev pub HasHeaderFirst : List Kind → Type 0
HasHeaderFirst [] = ⊤
HasHeaderFirst (k ∷ ks) = (k ≡ kinds.H) × AllByRecursion (λ j. j ≢ kinds.H) ks

-- the records of a message, or the first of them
pub record IsViable (ks : List Kind) : Type 0 where
  pub header : HasHeaderFirst ks
  pub closing : (before following : List Kind) → ks ≡ before ++ kinds.L ∷ following → following ≡ []
  pub parents : (before following : List Kind) (k : Kind) → ks ≡ before ++ k ∷ following → HasParent before k
