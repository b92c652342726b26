-- Parts of a record that are in a text, and the delimiters that they are under.
use Rattle.std.specs.Prelude.{ℕ, List, drop}
use Rattle.lis_record_values.specs.declared.kinds.Kind.{Kind}
use Rattle.lis_record_values.specs.declared.kinds.Kind.TheVariants as kinds
use Rattle.lis_record_values.specs.Delimiters.{DelimiterBytes}
use Rattle.lis_record_values.specs.Shape.{RecordContent}
use Rattle.lis_record_read.specs.FrontReading.{fields_of}

-- what is in a text, as it is read under the delimiters of its message
pub record Borrowed (A : Type 0) : Type 0 where
  pub delimiters : DelimiterBytes
  pub content : A

abbrev pub borrowed : {A : Type 0} → DelimiterBytes → A → Borrowed A
borrowed d content = record { delimiters = d; content = content }

-- how many bytes are before a record's fields: its letter, or a header's letter and delimiters
abbrev pub front_length : Kind → ℕ
front_length kinds.H = 5
front_length kind = 1

-- the record of this kind whose text this is
abbrev pub record_in : DelimiterBytes → Kind → List ℕ → Borrowed RecordContent
record_in d kind text = borrowed d (record { kind = kind; fields = fields_of d (drop (front_length kind) text) })
