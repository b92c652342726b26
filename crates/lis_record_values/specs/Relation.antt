-- Which text is which record (LIS02-A2, Delimiters, and Data Record Usage Overview).
use Rattle.std.specs.Prelude.{◌≡◌, ◌≢◌, ℕ, ◌<◌, ◌≤◌, List, [], ◌∷◌, ◌++◌, length, Some}
use Rattle.std.specs.List.{All, AllZip, flat_map, join_with_byte}
use Rattle.lis_record_values.specs.declared.kinds.Kind.{Kind}
use Rattle.lis_record_values.specs.declared.kinds.Kind.TheVariants as kinds
use Rattle.lis_record_values.specs.Delimiters.{DelimiterBytes, delimiter_list}
use Rattle.lis_record_values.specs.Escapes.{IsComponent}
use Rattle.lis_record_values.specs.Kinds.{kind_of}
use Rattle.lis_record_values.specs.Shape.{Components, Repeats, Fields, RecordContent}
use Rattle.lis_record_values.specs.Text.{IsRecordText, record_limit}

-- the byte is nowhere in the text
abbrev pub Lacks : ℕ → List ℕ → Type 0
Lacks byte text = All (λ b. b ≢ byte) text

-- no delimiter is in the text
pub record LacksDelimiters (d : DelimiterBytes) (text : List ℕ) : Type 0 where
  pub field : Lacks d.field text
  pub repeat : Lacks d.repeat text
  pub component : Lacks d.component text
  pub escape : Lacks d.escape text

-- The text is one or more parts joined by the byte, which is in none of them, a part for each item.
pub record IsJoined {A : Type 0} (byte : ℕ) (IsItem : List ℕ → A → Type 0) (text : List ℕ) (items : List A) : Type 0
  where
    pub parts : List (List ℕ)
    pub some : 0 < length parts
    pub joined : text ≡ join_with_byte byte parts
    pub apart : All (Lacks byte) parts
    pub each : AllZip IsItem parts items

-- a repeat's text: its components' texts, joined by the component delimiter
abbrev pub IsRepeat : DelimiterBytes → List ℕ → Components → Type 0
IsRepeat d text components = IsJoined d.component (IsComponent d) text components

-- a field's text: its repeats' texts, joined by the repeat delimiter
abbrev pub IsField : DelimiterBytes → List ℕ → Repeats → Type 0
IsField d text repeats = IsJoined d.repeat (IsRepeat d) text repeats

-- The text is a field delimiter and a field's text, which holds no field delimiter, for each field.
pub record AreFieldTexts (d : DelimiterBytes) (text : List ℕ) (fields : Fields) : Type 0 where
  pub parts : List (List ℕ)
  pub joined : text ≡ flat_map (λ part. d.field ∷ part) parts
  pub apart : All (Lacks d.field) parts
  pub each : AllZip (IsField d) parts fields

-- what is between a record's letter and its fields: a header declares its delimiters there
abbrev pub declared_part : DelimiterBytes → Kind → List ℕ
declared_part d kinds.H = delimiter_list d
declared_part d _ = []

-- The text, without its CR, is the record under these delimiters. They are a header's own.
pub record IsRecord (d : DelimiterBytes) (text : List ℕ) (content : RecordContent) : Type 0 where
  pub letter : ℕ
  pub fields_text : List ℕ
  pub whole : text ≡ letter ∷ declared_part d content.kind ++ fields_text
  pub kind_is : kind_of letter ≡ Some content.kind
  pub fields_are : AreFieldTexts d fields_text content.fields
  pub is_text : IsRecordText text
  pub short : length text ≤ record_limit
