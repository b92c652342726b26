-- A text that is a record, whichever it is.
use Rattle.std.specs.Prelude.{◌≡◌, ◌≢◌, ℕ, List}
use Rattle.lis_record_values.specs.declared.kinds.Kind.TheVariants as kinds
use Rattle.lis_record_values.specs.Delimiters.{DelimiterBytes, IsDelimiters}
use Rattle.lis_record_values.specs.Shape.{RecordContent}
use Rattle.lis_record_values.specs.Relation.{IsRecord}

-- one other than a header, under these delimiters
pub record IsSomeRecord (d : DelimiterBytes) (text : List ℕ) : Type 0 where
  pub content : RecordContent
  pub other : content.kind ≢ kinds.H
  pub is_record : IsRecord d text content

-- a header, under the delimiters that it declares
pub record IsSomeHeader (text : List ℕ) : Type 0 where
  pub delimiters : DelimiterBytes
  pub content : RecordContent
  pub marks : IsDelimiters delimiters
  pub is_header : content.kind ≡ kinds.H
  pub is_record : IsRecord delimiters text content
