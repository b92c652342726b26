-- The places of a message's records, put to the front of an array.
use Rattle.std.specs.Prelude.{◌≡◌, ℕ, ◌+◌, List, [], ◌++◌, Option, drop, length, map, take}
use Rattle.lis_bytes.specs.Capped.{capped}
use Rattle.lis_record_values.specs.Delimiters.{DelimiterBytes}
use Rattle.lis_record_values.specs.Kinds.{letter_of}
use Rattle.lis_record_values.specs.declared.faults.MessageFault.{MessageFault}
use Rattle.lis_tree.specs.Begun.{Begun}
use Rattle.lis_tree.specs.Level.{kinds_of}
use Rattle.lis_message.specs.Stream.{AreLeft, ended}
use Rattle.lis_message.specs.Taking.{records_of}
use Rattle.lis_message_table.specs.Parents.{parents_after}
use Rattle.lis_message_table.specs.Table.{BeginsWith, IsTextFault, Table, starts_from, text_at}
use Rattle.lis_message_table.specs.declared.places.LisRecordPlace.{LisRecordPlace}
use Rattle.lis_message_table.specs.declared.places.RecordPlace.{RecordPlace}

abbrev pub placed_record : RecordPlace → LisRecordPlace
placed_record p = record { start = p.start; parent = p.parent; len = p.len; letter = letter_of p.kind }

-- an array with these items at its front, as many as it has room for; what follows them stays
abbrev pub over : {A : Type 0} → List A → List A → List A
over before items = take (length before) items ++ drop (length items) before

-- A text begins with a message, which has so many records, is read under these delimiters, and is followed by these
-- bytes; its places are put.
pub record PutsMessage (text : List ℕ) (count : ℕ) (d : DelimiterBytes) (following : List ℕ)
    (before after : List LisRecordPlace) : Type 0 where
  pub table : Table
  pub begins : BeginsWith text table following
  pub count_is : count ≡ length table.places
  pub delimiters_are : d ≡ table.delimiters
  pub put : after ≡ over before (map placed_record table.places)

-- A text begins with no whole message, since it has this fault; the places of the records before it are put, each with
-- where it begins, its kind and the index of the record that it is under.
pub record PutsFront (text : List ℕ) (fault : MessageFault) (before after : List LisRecordPlace) : Type 0 where
  pub has : IsTextFault text fault
  pub places : List RecordPlace
  pub rest : List ℕ
  pub left : Option Begun
  pub front : text ≡ ended (map (text_at text) places) ++ rest
  pub are : AreLeft (map (text_at text) places) left
  pub starts : map (λ p. p.start) places ≡ starts_from 0 (map (text_at text) places)
  pub kinds : map (λ p. p.kind) places ≡ kinds_of (records_of left)
  pub parents : map (λ p. p.parent) places ≡ parents_after [] (map (λ p. p.kind) places)
  pub number : fault.place ≡ capped (length places + 1)
  pub put : after ≡ over before (map placed_record places)
