-- What contracts see of components, repeats, fields and records, and what each value of those types keeps.
use Rattle.std.specs.Prelude.{◌<◌, List, [], ◌∷◌, length, map, ℕ, ◌-◌, nat_lt, if◌then◌else◌, slice_get, Option, None}
use Rattle.std.specs.List.{All}
use Rattle.lis_record_values.specs.declared.symbols.Sym.{Sym}
use Rattle.lis_record_values.specs.declared.symbols.Sym.TheVariants.{Char, Raw, On, Off}
use Rattle.lis_record_values.specs.declared.kinds.Kind.{Kind}
use Rattle.lis_record_values.specs.declared.kinds.Kind.TheVariants as kinds

-- a component: its symbols
abbrev pub Symbols : Type 0
Symbols = List Sym

-- a repeat: its components
abbrev pub Components : Type 0
Components = List Symbols

-- a field: its repeats
abbrev pub Repeats : Type 0
Repeats = List Components

-- these bytes, each a character
abbrev pub plain_component : List ℕ → Symbols
plain_component bytes = map Char bytes

-- one component of these bytes
abbrev pub plain_field : List ℕ → Repeats
plain_field bytes = (plain_component bytes ∷ []) ∷ []

-- the fields of a record
abbrev pub Fields : Type 0
Fields = List Repeats

-- a record: its kind, and the fields after its letter or after a header's delimiters
pub record RecordContent : Type 0 where
  pub kind : Kind
  pub fields : Fields

-- what a symbol carries is a byte
abbrev pub IsSymbol : Sym → Type 0
IsSymbol (Char b) = b < 256
IsSymbol (Raw b) = b < 256
IsSymbol On = Unit {0}
IsSymbol Off = Unit {0}

abbrev pub AreSymbols : Symbols → Type 0
AreSymbols symbols = All IsSymbol symbols

-- one item or more, each of them as it is to be
pub record AreSome {A : Type 0} (IsItem : A → Type 0) (items : List A) : Type 0 where
  pub some : 0 < length items
  pub each : All IsItem items

-- a repeat has a component
abbrev pub IsRepeatShape : Components → Type 0
IsRepeatShape components = AreSome AreSymbols components

-- a field has a repeat
abbrev pub IsFieldShape : Repeats → Type 0
IsFieldShape repeats = AreSome IsRepeatShape repeats

abbrev pub AreFields : Fields → Type 0
AreFields fields = All IsFieldShape fields

-- each part of a record is as its type allows
abbrev pub IsRecordShape : RecordContent → Type 0
IsRecordShape content = AreFields content.fields

-- The letter is field 1, so the first field after it has number 2. In a header the delimiters are field 2.
abbrev pub first_number : Kind → ℕ
first_number kinds.H = 3
first_number _ = 2

-- the field of a number
abbrev pub field_at : RecordContent → ℕ → Option Repeats
field_at content number =
    if nat_lt number (first_number content.kind) then None else slice_get content.fields
    (number - first_number content.kind)
