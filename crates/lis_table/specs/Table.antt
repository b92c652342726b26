-- The places of a record's components, in the order of its text (LIS02-A2, Delimiters). They follow the fields, repeats
-- and components that the text is read as: a component is where its part of the text is.
use Rattle.std.specs.Prelude.{ℕ, ◌+◌, ◌==◌, List, [], ◌∷◌, ◌++◌, drop, if◌then◌else◌, length}
use Rattle.std.specs.List.{list_any}
use Rattle.lis_record_values.specs.declared.kinds.Kind.{Kind}
use Rattle.lis_record_values.specs.Delimiters.{DelimiterBytes}
use Rattle.lis_record_values.specs.Shape.{first_number}
use Rattle.lis_record_read.specs.FrontReading.{parts_following, parts_of}
use Rattle.lis_record.specs.Borrowed.{front_length}
use Rattle.lis_table.specs.declared.table.LisPart.{LisPart}

-- a component of these bytes
abbrev pub place_of : DelimiterBytes → (field repeat component offset : ℕ) → List ℕ → LisPart
place_of d field repeat component offset text = record {
  offset = offset;
  len = length text;
  field = field;
  repeat = repeat;
  component = component;
  flags = if list_any (λ b. b == d.escape) text then 1 else 0;
}

-- the components of a repeat, of which these are left: one delimiter comes between two of them
abbrev pub component_places : DelimiterBytes → (field repeat component offset : ℕ) → List (List ℕ) → List LisPart
component_places d field repeat component offset [] = []
component_places d field repeat component offset (text ∷ texts) =
    place_of d field repeat component offset text
    ∷ component_places d field repeat (component + 1) (offset + length text + 1) texts

-- the repeats of a field
abbrev pub repeat_places : DelimiterBytes → (field repeat offset : ℕ) → List (List ℕ) → List LisPart
repeat_places d field repeat offset [] = []
repeat_places d field repeat offset (text ∷ texts) =
    component_places d field repeat 0 offset (parts_of d.component text)
    ++ repeat_places d field (repeat + 1) (offset + length text + 1) texts

-- the fields of a record
abbrev pub field_places : DelimiterBytes → (field offset : ℕ) → List (List ℕ) → List LisPart
field_places d field offset [] = []
field_places d field offset (text ∷ texts) =
    repeat_places d field 0 offset (parts_of d.repeat text)
    ++ field_places d (field + 1) (offset + length text + 1) texts

-- The fields come after a record's letter, or a header's letter and delimiters, each with a delimiter before it.
abbrev pub table_of : DelimiterBytes → Kind → List ℕ → List LisPart
table_of d kind text =
    field_places d (first_number kind) (front_length kind + 1)
    (parts_following d.field (drop (front_length kind) text))
