-- The components of a record in order, by the number of their field and the places of their repeat and component, and
-- what an entry of a table says of a text.
use Rattle.std.specs.Prelude.{ℕ, ◌+◌, List, [], ◌∷◌, ◌++◌, drop, take}
use Rattle.lis_record_values.specs.Delimiters.{DelimiterBytes}
use Rattle.lis_record_values.specs.Shape.{Components, Fields, RecordContent, Repeats, Symbols, first_number}
use Rattle.lis_record_read.specs.FrontReading.{symbols_of}
use Rattle.lis_table.specs.declared.table.LisPart.{LisPart}

-- a component of a record, and which it is
pub record Entry : Type 0 where
  pub field : ℕ
  pub repeat : ℕ
  pub component : ℕ
  pub symbols : Symbols

-- the components of a repeat, from this place on
abbrev pub component_entries : (field repeat component : ℕ) → Components → List Entry
component_entries field repeat component [] = []
component_entries field repeat component (symbols ∷ others) =
    record { field = field; repeat = repeat; component = component; symbols = symbols }
    ∷ component_entries field repeat (component + 1) others

-- those of a field's repeats
abbrev pub repeat_entries : (field repeat : ℕ) → Repeats → List Entry
repeat_entries field repeat [] = []
repeat_entries field repeat (components ∷ others) =
    component_entries field repeat 0 components ++ repeat_entries field (repeat + 1) others

-- those of a list of fields
abbrev pub field_entries : (field : ℕ) → Fields → List Entry
field_entries field [] = []
field_entries field (repeats ∷ others) = repeat_entries field 0 repeats ++ field_entries (field + 1) others

abbrev pub entries_of : RecordContent → List Entry
entries_of content = field_entries (first_number content.kind) content.fields

-- the bytes that an entry of a table names, read as a component
abbrev pub bytes_at : List ℕ → LisPart → List ℕ
bytes_at text p = take p.len (drop p.offset text)

abbrev pub entry_at : DelimiterBytes → List ℕ → LisPart → Entry
entry_at d text p = record {
  field = p.field;
  repeat = p.repeat;
  component = p.component;
  symbols = symbols_of d (bytes_at text p);
}
