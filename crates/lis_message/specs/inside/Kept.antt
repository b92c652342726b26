-- What the bytes are that a reader of records keeps.
use Rattle.std.specs.Prelude.{ℕ, List, [], Option, None, Some}
use Rattle.lis_record_values.specs.Shape.{RecordContent}
use Rattle.lis_message.specs.declared.records.Known.{Known}
use Rattle.lis_record.specs.Borrowed.{Borrowed, record_in}

-- what is held of records: bytes of one that isn't ended, and the last record where it was split, with its text
pub record Holding : Type 0 where
  pub held : List ℕ
  pub split : Option (Borrowed RecordContent)
  pub split_text : List ℕ

-- bytes that are kept are those of a record that isn't ended, or of the last record
abbrev pub holding : Option Known → List ℕ → Holding
holding None bytes = record { held = bytes; split = None; split_text = [] }
holding (Some known) bytes =
    record { held = []; split = Some (record_in known.delimiters known.kind bytes); split_text = bytes }
