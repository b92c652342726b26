-- The hierarchy of LIS02-A2's records as a machine that goes over their kinds.
use Rattle.std.specs.Prelude.{◌≡◌, List, [], ◌∷◌, map, Option, Some, None, ⊤}
use Rattle.lis_record_values.specs.declared.kinds.Kind.{Kind}
use Rattle.lis_record_values.specs.declared.kinds.Kind.TheVariants as kinds
use Rattle.lis_record_values.specs.Shape.{RecordContent}
use Rattle.lis_record_values.specs.declared.faults.Reason.{Reason}
use Rattle.lis_record_values.specs.declared.faults.Reason.TheVariants as reasons

-- the kinds of records
abbrev pub kinds_of : List RecordContent → List Kind
kinds_of records = map (λ r. r.kind) records

-- where in a message the next record will be: before the header, right under it, under a patient, an order or a
-- query, or after the closing record
pub data Level : Type 0 where
  outside : Level
  in_header : Level
  in_patient : Level
  in_order : Level
  in_query : Level
  closed : Level

-- the place after a record of this kind; a result and a note leave it as it is
abbrev pub next_level : Level → Kind → Level
next_level level kinds.H = in_header
next_level level kinds.P = in_patient
next_level level kinds.O = in_order
next_level level kinds.R = level
next_level level kinds.C = level
next_level level kinds.Q = in_query
next_level level kinds.M = level
next_level level kinds.S = level
next_level level kinds.L = closed

-- the place after records of these kinds
abbrev pub level_after : Level → List Kind → Level
level_after level [] = level
level_after level (k ∷ ks) = level_after (next_level level k) ks

-- outside a message and after its end only a header may come, and inside it none; an order is under a patient, a
-- result under an order
abbrev pub misplaced : Level → Kind → Option Reason
misplaced outside kinds.H = None
misplaced outside k = Some reasons.NotHeader
misplaced closed kinds.H = Some reasons.SecondHeader
misplaced closed k = Some reasons.NotHeader
misplaced level kinds.H = Some reasons.SecondHeader
misplaced in_header kinds.O = Some (reasons.NoParent kinds.O)
misplaced in_query kinds.O = Some (reasons.NoParent kinds.O)
misplaced in_header kinds.R = Some (reasons.NoParent kinds.R)
misplaced in_query kinds.R = Some (reasons.NoParent kinds.R)
misplaced in_patient kinds.R = Some (reasons.NoParent kinds.R)
misplaced level k = None

-- each record of these kinds is where it may, from this place on
abbrev pub AllowedFrom : Level → List Kind → Type 0
AllowedFrom level [] = ⊤
AllowedFrom level (k ∷ ks) = (misplaced level k ≡ None) × AllowedFrom (next_level level k) ks
