-- The table of a message, some of whose records are read.
use Rattle.std.specs.Prelude.{◌≡◌, ◌≤◌, ◌-◌, ◌⊎◌, ℕ, List, [], ◌++◌, length, map, Option, None}
use Rattle.std.specs.List.{AllByRecursion}
use Rattle.lis_record_values.specs.Delimiters.{DelimiterBytes}
use Rattle.lis_record_values.specs.Text.{record_limit}
use Rattle.lis_record_values.specs.declared.faults.MessageFault.{MessageFault}
use Rattle.lis_record_values.specs.declared.faults.Reason.TheVariants as reasons
use Rattle.lis_tree.specs.Begun.{Begun}
use Rattle.lis_tree.specs.Level.{kinds_of}
use Rattle.lis_tree.specs.Tree.{MessageTree, flatten}
use Rattle.lis_message.specs.Kept.{RecordsState}
use Rattle.lis_message.specs.Feeding.{next_place}
use Rattle.lis_message.specs.Records.{CantCome, HasLeft}
use Rattle.lis_message.specs.Stream.{AreLeft, AreMessage, LacksReturn, ended}
use Rattle.lis_message.specs.Taking.{records_of}
use Rattle.lis_message_table.specs.Parents.{tree_parents}
use Rattle.lis_message_table.specs.Table.{IsWithin, starts_from, text_at}
use Rattle.lis_message_table.specs.declared.above.Above.{Above}
use Rattle.lis_message_table.specs.declared.places.RecordPlace.{RecordPlace}
use Rattle.lis_message_table.specs.inside.Above.{above_all, nothing_above, parents_from}

-- A reader of records has read the message's first records, which have these places; these bytes follow.
pub record IsReading (reader : RecordsState) (text : List ℕ) (places : List RecordPlace) (above : Above)
    (following : List ℕ) : Type 0 where
  pub left : Option Begun
  pub has : HasLeft reader left
  pub empty : reader.held ≡ []
  pub uncut : reader.split ≡ None
  pub whole : text ≡ ended (map (text_at text) places) ++ following
  pub are : AreLeft (map (text_at text) places) left
  pub starts : map (λ p. p.start) places ≡ starts_from 0 (map (text_at text) places)
  pub kinds : map (λ p. p.kind) places ≡ kinds_of (records_of left)
  pub parents : map (λ p. p.parent) places ≡ parents_from nothing_above 0 (records_of left)
  pub next : above ≡ above_all nothing_above 0 (records_of left)
  pub within : AllByRecursion (IsWithin (length text - length following)) places

-- All records of a message have these places; these bytes follow.
pub record HasRead (d : DelimiterBytes) (text : List ℕ) (places : List RecordPlace) (following : List ℕ) : Type 0 where
  pub message : MessageTree
  pub whole : text ≡ ended (map (text_at text) places) ++ following
  pub are : AreMessage (map (text_at text) places) message
  pub starts : map (λ p. p.start) places ≡ starts_from 0 (map (text_at text) places)
  pub delimiters : d ≡ message.delimiters
  pub kinds : map (λ p. p.kind) places ≡ kinds_of (flatten message)
  pub parents : map (λ p. p.parent) places ≡ tree_parents message
  pub within : AllByRecursion (IsWithin (length text - length following)) places

-- Why no record comes next at the front of these bytes: one can't, or the end comes too early.
abbrev pub StopsAt : Option Begun → List ℕ → MessageFault → Type 0
StopsAt left bytes fault =
    (fault.place ≡ next_place left)
    × (CantCome left [] bytes fault.reason
    ⊎ ((fault.reason ≡ reasons.Unfinished) × LacksReturn bytes × (length bytes ≤ record_limit)))
