-- The results of a message, read off its table: a result is under its order, and that under its patient.
use Rattle.std.specs.Prelude.{ℕ, List, [], ◌∷◌, Option, None, Some, map, slice_get, slice_index}
use Rattle.std.specs.List.{flat_map}
use Rattle.lis_record_values.specs.declared.kinds.Kind.{Kind}
use Rattle.lis_record_values.specs.declared.kinds.Kind.TheVariants as kinds
use Rattle.lis_tree.specs.Results.{ResultRecord}
use Rattle.lis_message_table.specs.Table.{Table, contents_of, record_at}
use Rattle.lis_message_table.specs.declared.places.RecordPlace.{RecordPlace}
use Rattle.lis_message_table.specs.declared.places.ResultIndexes.{ResultIndexes}

-- the index of the record that the record of an index is under
abbrev pub parent_at : List RecordPlace → ℕ → ℕ
parent_at places index = slice_index (map (λ p. p.parent) places) index

-- the indexes of a result, its order and its patient, if a result is at the place of this index
abbrev pub indexes_at : List RecordPlace → ℕ → RecordPlace → Kind → Option ResultIndexes
indexes_at places index p kinds.R =
    Some (record { patient = parent_at places p.parent; order = p.parent; entry = index })
indexes_at places index p kind = None

-- the same of an index
abbrev pub result_indexes : List RecordPlace → ℕ → Option ResultIndexes
result_indexes places index = elim (slice_get places index) [ None ↦ None | Some p ↦ indexes_at places index p p.kind ]

-- the records of a result
abbrev pub listed_at : Table → RecordPlace → Kind → List ResultRecord
listed_at t p kinds.R = record {
  patient = slice_get (contents_of t) (parent_at t.places p.parent);
  order = slice_get (contents_of t) p.parent;
  entry = (record_at t p).content;
} ∷ []
listed_at t p kind = []

-- those of all results, in order
abbrev pub results_in : Table → List ResultRecord
results_in t = flat_map (λ p. listed_at t p p.kind) t.places
