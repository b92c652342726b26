-- How far a part of a text reaches, and what follows it, for those that read it from its front.
use Rattle.std.specs.Prelude.{◌≡◌, ◌≤◌, ℕ, ◌==◌, List, ◌∷◌, ◌++◌, Bool, ◌||◌, map, take, drop, replicate, length, None}
use Rattle.std.specs.Prelude.{IsTrue}
use Rattle.lis_record_values.specs.Delimiters.{DelimiterBytes}
use Rattle.lis_record_values.specs.Text.{trailing_byte}
use Rattle.lis_record_values.specs.Shape.{RecordContent, plain_component}
use Rattle.lis_record_values.specs.Relation.{Lacks}
use Rattle.lis_record_read.specs.FrontReading.{parts_of, symbols_of, repeats_of, parts_following, fields_of}

-- whether a byte is one at which a component ends, or the other byte that a search stops at
abbrev pub stops : DelimiterBytes → ℕ → ℕ → Bool
stops d other b = (b == d.field || b == d.repeat) || (b == d.component || b == other)

-- a text ends with another
abbrev pub EndsWith : List ℕ → List ℕ → Type 0
EndsWith text last = (front : List ℕ) × (text ≡ front ++ last)

-- a text begins with another
abbrev pub BeginsWith : List ℕ → List ℕ → Type 0
BeginsWith text front = (more : List ℕ) × (text ≡ front ++ more)

-- a text with so many of a byte after it, or none
abbrev pub IsPaddedBy : ℕ → List ℕ → List ℕ → Type 0
IsPaddedBy byte text padded = (count : ℕ) × (padded ≡ text ++ replicate count byte)

-- A record takes the field that a text begins with, and the rest of the text follows.
pub record TakesField (d : DelimiterBytes) (before after : RecordContent) (text rest : List ℕ) : Type 0 where
  pub kind_is : after.kind ≡ before.kind
  pub fields : after.fields ++ fields_of d rest ≡ before.fields ++ map (repeats_of d) (parts_of d.field text)
  pub ends : EndsWith text rest
  pub shorter : length rest ≤ length text

-- The first component of a field's text ends there, where no repeat ends; its bytes may be known to be its symbols.
pub record ComponentFront (d : DelimiterBytes) (text : List ℕ) (end : ℕ) (plain : Bool) : Type 0 where
  pub within : end ≤ length text
  pub parts : parts_of d.component text ≡ take end text ∷ parts_following d.component (drop end text)
  pub symbols : IsTrue plain → symbols_of d (take end text) ≡ plain_component (take end text)
  pub single : Lacks d.repeat (take end text)
  pub next : trailing_byte d.component (drop end text) ≡ None
