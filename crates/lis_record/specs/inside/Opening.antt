-- What a text opens with that is a record.
use Rattle.lis_record_values.specs.declared.kinds.Kind.{Kind}
use Rattle.std.specs.Prelude.{◌≡◌, ◌≢◌, ℕ, List, ◌∷◌, ◌++◌, Some, None}
use Rattle.lis_record_values.specs.Delimiters.{DelimiterBytes, IsDelimiters, delimiter_list}
use Rattle.lis_record_values.specs.declared.kinds.Kind.TheVariants as kinds
use Rattle.lis_record.specs.Faults.{record_text_fault}
use Rattle.lis_record_values.specs.Text.{trailing_byte}
use Rattle.lis_record_values.specs.Kinds.{kind_of}

-- A text without fault opens with the letter of a record other than a header, and its fields follow.
pub record OpensRecord (d : DelimiterBytes) (text : List ℕ) (kind : Kind) (rest : List ℕ) : Type 0 where
  pub letter : ℕ
  pub whole : text ≡ letter ∷ rest
  pub kind_is : kind_of letter ≡ Some kind
  pub other : kind ≢ kinds.H
  pub second : trailing_byte d.field rest ≡ None
  pub texts : record_text_fault text ≡ None

-- After a header's letter are delimiters, and then nothing or the field delimiter.
pub record DeclaresDelimiters (text : List ℕ) (d : DelimiterBytes) (rest : List ℕ) : Type 0 where
  pub whole : text ≡ delimiter_list d ++ rest
  pub marks : IsDelimiters d
  pub trailing : trailing_byte d.field rest ≡ None

-- A text without fault opens with a header's letter and delimiters, and its fields follow.
pub record OpensHeader (text : List ℕ) (d : DelimiterBytes) (rest : List ℕ) : Type 0 where
  pub letter : ℕ
  pub part : List ℕ
  pub whole : text ≡ letter ∷ part
  pub kind_is : kind_of letter ≡ Some kinds.H
  pub declares : DeclaresDelimiters part d rest
  pub texts : record_text_fault text ≡ None
