-- What `results` keeps while the records of a message come.
use Rattle.std.specs.Prelude.{◌≡◌, ℕ, List, [], ◌∷◌, Option, None, Some}
use Rattle.lis_record_values.specs.Shape.{RecordContent, Repeats}
use Rattle.lis_tree.specs.Begun.{Begun}
use Rattle.lis_record_commands.specs.Results.{field_text, sample_after, result_lines}

-- the sample after records
abbrev pub sample_following : Option Repeats → List RecordContent → Option Repeats
sample_following sample [] = sample
sample_following sample (r ∷ records) = sample_following (sample_after sample r r.kind) records

-- What waits of a message that isn't closed yet: the lines of its results, and the sample of its last order.
abbrev pub HoldsResults : (lines sample : List ℕ) → Option Begun → Type 0
HoldsResults lines sample None = (lines ≡ []) × (sample ≡ [])
HoldsResults lines sample (Some begun) =
    (lines ≡ result_lines begun.delimiters None begun.records)
    × (sample ≡ field_text begun.delimiters (sample_following None begun.records))
