-- What a reader of records keeps.
use Rattle.std.specs.Prelude.{ℕ, List, length, Option, None, Some}
use Rattle.lis_record_values.specs.Delimiters.{DelimiterBytes}
use Rattle.lis_record_values.specs.Shape.{RecordContent}
use Rattle.lis_record.specs.Borrowed.{Borrowed}
use Rattle.lis_record_values.specs.declared.faults.MessageFault.{MessageFault}
use Rattle.lis_tree.specs.Begun.{Begun, level_of}
use Rattle.lis_tree.specs.Level.{Level}
use Rattle.lis_bytes.specs.Capped.{capped}

-- of an open message: its delimiters, where the next record will be, and how many there are
pub record Opened : Type 0 where
  pub delimiters : DelimiterBytes
  pub level : Level
  pub count : ℕ

abbrev pub opened_with : Begun → Opened
opened_with begun = record {
  delimiters = begun.delimiters;
  level = level_of (Some begun);
  count = capped (length begun.records);
}

abbrev pub opened_of : Option Begun → Option Opened
opened_of None = None
opened_of (Some begun) = Some (opened_with begun)

-- next to it, bytes of a record that isn't ended, the last record where it was split, its text, and the fault that was
-- met
pub record RecordsState : Type 0 where
  pub opened : Option Opened
  pub held : List ℕ
  pub split : Option (Borrowed RecordContent)
  pub split_text : List ℕ
  pub fault : Option MessageFault
