-- A message as a table of places in its text.
use Rattle.std.specs.Prelude.{◌≡◌, ℕ, ◌+◌, ◌≤◌, ◌⊎◌, List, [], ◌∷◌, ◌++◌, drop, length, map, take}
use Rattle.lis_record_values.specs.Delimiters.{DelimiterBytes}
use Rattle.lis_record_values.specs.Shape.{RecordContent}
use Rattle.lis_table.specs.Entries.{Entry, entry_at}
use Rattle.lis_record_values.specs.Text.{record_limit}
use Rattle.lis_record_values.specs.declared.faults.MessageFault.{MessageFault}
use Rattle.lis_record.specs.Borrowed.{Borrowed, record_in}
use Rattle.lis_table.specs.Table.{table_of}
use Rattle.lis_table.specs.declared.table.LisPart.{LisPart}
use Rattle.lis_tree.specs.Level.{kinds_of}
use Rattle.lis_tree.specs.Tree.{MessageTree, flatten}
use Rattle.lis_message.specs.Feeding.{EndsEarly}
use Rattle.lis_message.specs.Stream.{AreMessage, IsRefused, ended}
use Rattle.lis_message_table.specs.Parents.{tree_parents}
use Rattle.lis_message_table.specs.declared.places.RecordPlace.{RecordPlace}

-- the text of a message, where its records are in it, the delimiters that they are read under, and for how many records
-- there is memory
pub record Table : Type 0 where
  pub delimiters : DelimiterBytes
  pub text : List ℕ
  pub places : List RecordPlace
  pub room : ℕ

-- the bytes at a place
abbrev pub text_at : List ℕ → RecordPlace → List ℕ
text_at text p = take p.len (drop p.start text)

-- where texts begin that follow each other from a place on, a CR after each
abbrev pub starts_from : ℕ → List (List ℕ) → List ℕ
starts_from place [] = []
starts_from place (text ∷ texts) = place ∷ starts_from (place + length text + 1) texts

-- the texts of the records
abbrev pub texts_of : Table → List (List ℕ)
texts_of t = map (text_at t.text) t.places

-- The table is that of the message: the texts at its places, with a CR after each, are the whole text, and they are the
-- message's records in order; each place is where its text begins, and has the kind of its record and the index of the
-- record that it is under.
pub record IsTableOf (t : Table) (m : MessageTree) : Type 0 where
  pub whole : t.text ≡ ended (texts_of t)
  pub starts : map (λ p. p.start) t.places ≡ starts_from 0 (texts_of t)
  pub message : AreMessage (texts_of t) m
  pub delimiters : t.delimiters ≡ m.delimiters
  pub kinds : map (λ p. p.kind) t.places ≡ kinds_of (flatten m)
  pub parents : map (λ p. p.parent) t.places ≡ tree_parents m

-- A text begins with a message, of which this is the table, and goes on with these bytes.
abbrev pub BeginsWith : List ℕ → Table → List ℕ → Type 0
BeginsWith text t following = (text ≡ t.text ++ following) × ((m : MessageTree) × IsTableOf t m)

-- A record of the text can't come next, or its end comes too early, before any message is whole.
abbrev pub IsTextFault : List ℕ → MessageFault → Type 0
IsTextFault text fault = IsRefused text [] fault ⊎ EndsEarly text [] fault

-- no message
abbrev pub IsClear : Table → Type 0
IsClear t = (t.text ≡ []) × (t.places ≡ [])

-- the record at a place
abbrev pub record_at : Table → RecordPlace → Borrowed RecordContent
record_at t p = record_in t.delimiters p.kind (text_at t.text p)

-- a place within so many bytes, of a record that is not too long
pub record IsWithin (size : ℕ) (p : RecordPlace) : Type 0 where
  pub inside : p.start + p.len ≤ size
  pub short : p.len ≤ record_limit

-- the places of its components in its text
abbrev pub parts_at : Table → RecordPlace → List LisPart
parts_at t p = table_of t.delimiters p.kind (text_at t.text p)

-- what the table says of all records
abbrev pub contents_of : Table → List RecordContent
contents_of t = map (λ p. (record_at t p).content) t.places

-- and of their components
abbrev pub entries_in : Table → List (List Entry)
entries_in t = map (λ p. map (entry_at t.delimiters (text_at t.text p)) (parts_at t p)) t.places
