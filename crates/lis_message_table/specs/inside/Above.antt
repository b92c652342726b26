-- The record that the next one is under, while the records of a message pass.
use Rattle.std.specs.Prelude.{ℕ, ◌+◌, List, [], ◌∷◌}
use Rattle.lis_record_values.specs.Shape.{RecordContent}
use Rattle.lis_record_values.specs.declared.kinds.Kind.{Kind}
use Rattle.lis_record_values.specs.declared.kinds.Kind.TheVariants as kinds
use Rattle.lis_message_table.specs.declared.above.Above.{Above}

-- before the header
abbrev pub nothing_above : Above
nothing_above = record { head = 0; patient = 0; order = 0 }

-- the index of the record that the next one is under, by its kind
abbrev pub parent_of : Above → Kind → ℕ
parent_of above kinds.H = 0
parent_of above kinds.P = 0
parent_of above kinds.O = above.patient
parent_of above kinds.R = above.order
parent_of above kinds.C = above.head
parent_of above kinds.Q = 0
parent_of above kinds.M = above.head
parent_of above kinds.S = above.head
parent_of above kinds.L = 0

-- the same after a record of this kind at this index; a note leaves it as it is
abbrev pub above_after : Above → ℕ → Kind → Above
above_after above index kinds.H = record above { head = index }
above_after above index kinds.P = record above { head = index; patient = index }
above_after above index kinds.O = record above { head = index; order = index }
above_after above index kinds.R = record above { head = index }
above_after above index kinds.C = above
above_after above index kinds.Q = record above { head = index }
above_after above index kinds.M = above
above_after above index kinds.S = above
above_after above index kinds.L = record above { head = index }

-- after these records, the first of which has this index
abbrev pub above_all : Above → ℕ → List RecordContent → Above
above_all above index [] = above
above_all above index (r ∷ records) = above_all (above_after above index r.kind) (index + 1) records

-- what these records are under
abbrev pub parents_from : Above → ℕ → List RecordContent → List ℕ
parents_from above index [] = []
parents_from above index (r ∷ records) =
    parent_of above r.kind ∷ parents_from (above_after above index r.kind) (index + 1) records
