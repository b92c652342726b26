-- Why a record can't follow others in a message, in the standard's words (LIS02-A2).
use Rattle.std.specs.Prelude.{◌≡◌, ◌≢◌, ◌⊎◌, List, [], ◌∷◌, ◌++◌}
use Rattle.lis_record_values.specs.declared.kinds.Kind.{Kind}
use Rattle.lis_record_values.specs.declared.kinds.Kind.TheVariants as kinds
use Rattle.lis_record_values.specs.declared.faults.Reason.{Reason}
use Rattle.lis_record_values.specs.declared.faults.Reason.TheVariants as reasons
use Rattle.lis_tree.specs.Hierarchy.{HasParent}

-- the closing record is the last of these
abbrev pub IsClosed : List Kind → Type 0
IsClosed before = (front : List Kind) × (before ≡ front ++ kinds.L ∷ [])

-- Outside a message, before the header or after the closing record, a record that is no header. After the first
-- record a header. Inside a message an order without a patient, or a result without an order.
abbrev pub IsRefusedFor : List Kind → Kind → Reason → Type 0
IsRefusedFor before k reasons.NotHeader = (k ≢ kinds.H) × ((before ≡ []) ⊎ IsClosed before)
IsRefusedFor before k reasons.SecondHeader = (k ≡ kinds.H) × (before ≢ [])
IsRefusedFor before k (reasons.NoParent kind) =
    (kind ≡ k) × (before ≢ []) × (IsClosed before → ⊥) × (HasParent before k → ⊥)
IsRefusedFor before k reason = ⊥
