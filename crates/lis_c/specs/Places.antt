-- What C gets of the message that a text begins with.
use Rattle.std.specs.Prelude.{◌≡◌, ℕ, List, [], ◌⊎◌, length, map}
use Rattle.lis_record_values.specs.declared.faults.MessageFault.{MessageFault}
use Rattle.lis_message_table.specs.Put.{PutsFront, placed_record}
use Rattle.lis_message_table.specs.Table.{BeginsWith, Table}
use Rattle.lis_message_table.specs.declared.places.LisRecordPlace.{LisRecordPlace}
use Rattle.lis_c.specs.Parts.{IsDelivered}
use Rattle.lis_c.specs.Reading.{nothing, reported_fault}
use Rattle.lis_c.specs.Records.{delimiters_in}
use Rattle.lis_c.specs.Status.{NO_RECORD, UNFINISHED}
use Rattle.lis_c.specs.declared.places.LisMessage.{LisMessage}
use Rattle.lis_c.specs.declared.reader.LisFound.{LisFound}

abbrev pub no_message : LisMessage
no_message = record { count = 0; len = 0; delimiters = record { field = 0; repeat = 0; component = 0; escape = 0 } }

-- the text begins with a message: its places, how many bytes it has, and its delimiters
pub record IsMessagePlaced (text : List ℕ) (status : ℕ) (before after : List LisRecordPlace) (message : LisMessage)
    : Type 0 where
  pub table : Table
  pub following : List ℕ
  pub begins : BeginsWith text table following
  pub delivered : IsDelivered (map placed_record table.places) status before after message.count
  pub len_is : message.len ≡ length table.text
  pub delimiters_are : delimiters_in message.delimiters ≡ table.delimiters

-- the text has a fault before it has a whole message
pub record IsFaultPlaced (text : List ℕ) (status : ℕ) (before after : List LisRecordPlace) (found : LisFound)
    : Type 0 where
  pub fault : MessageFault
  pub front : PutsFront text fault before after
  pub status_is : status ≡ UNFINISHED
  pub found_is : found ≡ reported_fault fault

abbrev pub IsPlaced : (text : List ℕ) (status : ℕ) (before after : List LisRecordPlace) (message : LisMessage)
    (found : LisFound) → Type 0
IsPlaced text status before after message found =
    (IsMessagePlaced text status before after message × (found ≡ nothing))
    ⊎ (IsFaultPlaced text status before after found × (message ≡ no_message))
    ⊎ ((text ≡ []) × (status ≡ NO_RECORD) × (after ≡ before) × (message ≡ no_message) × (found ≡ nothing))
