-- What `results` writes: a line for each result record, with the sample that its order names.
use Rattle.std.specs.Prelude.{ℕ, List, [], ◌∷◌, ◌++◌, codes, Option, None, Some}
use Rattle.std.specs.List.{flat_map}
use Rattle.lis_record_values.specs.declared.kinds.Kind.{Kind}
use Rattle.lis_record_values.specs.declared.kinds.Kind.TheVariants as kinds
use Rattle.lis_record_values.specs.Delimiters.{DelimiterBytes}
use Rattle.lis_record_values.specs.Shape.{RecordContent, Repeats, field_at}
use Rattle.lis_record_write.specs.Encoding.{encoded_field}
use Rattle.lis_record_commands.specs.Messages.{MessageWrites}
use Rattle.lis_tree.specs.Tree.{flatten}

-- a field by its encoding, empty where it is absent
abbrev pub field_text : DelimiterBytes → Option Repeats → List ℕ
field_text d None = []
field_text d (Some field) = encoded_field d field

-- the fields of these numbers, each after a field delimiter
abbrev pub fields_following : DelimiterBytes → RecordContent → List ℕ → List ℕ
fields_following d r numbers = flat_map (λ number. d.field ∷ field_text d (field_at r number)) numbers

-- the fields of a result that are reported: its test, its value, units, range and flags, and its status
abbrev pub printed_fields : List ℕ
printed_fields = 3 ∷ 4 ∷ 5 ∷ 6 ∷ 7 ∷ 9 ∷ []

-- the sample, and then those fields of the result, with field delimiters between them
abbrev pub result_line : DelimiterBytes → (sample : Option Repeats) → RecordContent → List ℕ
result_line d sample r = field_text d sample ++ fields_following d r printed_fields ++ codes "\n"

-- the sample after a record: an order names it in field 3
abbrev pub sample_after : Option Repeats → RecordContent → Kind → Option Repeats
sample_after sample r kinds.O = field_at r 3
sample_after sample r kind = sample

-- a result has a line, and no other record has
abbrev pub result_line_of : DelimiterBytes → Option Repeats → RecordContent → Kind → List ℕ
result_line_of d sample r kinds.R = result_line d sample r
result_line_of d sample r kind = []

-- the lines of records after an order with this sample
abbrev pub result_lines : DelimiterBytes → Option Repeats → List RecordContent → List ℕ
result_lines d sample [] = []
result_lines d sample (r ∷ records) =
    result_line_of d sample r r.kind ++ result_lines d (sample_after sample r r.kind) records

-- nothing is written after the messages; the status is 1 only where a record is rejected
abbrev pub results_writes : MessageWrites
results_writes =
    record {
      message = λ before m. result_lines m.delimiters None (flatten m);
      last = λ messages fault. [];
      status = λ messages. 0;
    }
