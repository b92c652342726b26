-- What C gets of all parts of a record of a stream: of the next one, which is whole in the bytes, and of the last one.
use Rattle.std.specs.Prelude.{◌≡◌, ℕ, ◌++◌, ◌-◌, List, Option, None, Some, drop, length, take}
use Rattle.lis_record_values.specs.declared.kinds.Kind.{Kind}
use Rattle.lis_record_values.specs.Delimiters.{DelimiterBytes}
use Rattle.lis_record_values.specs.Shape.{RecordContent}
use Rattle.lis_record.specs.Borrowed.{Borrowed, record_in}
use Rattle.lis_tree.specs.Begun.{Begun}
use Rattle.lis_message.specs.declared.records.RecordFound.TheVariants as founds
use Rattle.lis_message.specs.Kept.{RecordsState}
use Rattle.lis_message.specs.Records.{Reads}
use Rattle.lis_table.specs.declared.table.LisPart.{LisPart}
use Rattle.lis_table.specs.Table.{table_of}
use Rattle.lis_c.specs.Reading.{reported_record}
use Rattle.lis_c.specs.Records.{delimiters_in}
use Rattle.lis_c.specs.Status.{NO_RECORD, copy_status}
use Rattle.lis_c.specs.declared.next.LisTable.{LisTable}
use Rattle.lis_c.specs.declared.reader.LisFound.{LisFound}

abbrev pub no_table : LisTable
no_table = record { count = 0; len = 0; delimiters = record { field = 0; repeat = 0; component = 0; escape = 0 } }

-- the table of a record's text is put to the front of an array, as far as that has room
pub record ReportsTable (d : DelimiterBytes) (kind : Kind) (text : List ℕ) (before after : List LisPart)
    (table : LisTable) : Type 0 where
  pub count_is : table.count ≡ length (table_of d kind text)
  pub len_is : table.len ≡ length text
  pub delimiters_are : delimiters_in table.delimiters ≡ d
  pub put : after ≡ take (length before) (table_of d kind text) ++ drop (length (table_of d kind text)) before

-- all parts of the record that was read last, which is in this text
abbrev pub IsSplitTable : Option (Borrowed RecordContent) → (text : List ℕ) → (status : ℕ)
    (before after : List LisPart) (table : LisTable) → Type 0
IsSplitTable None text status before after table = (status ≡ NO_RECORD) × (after ≡ before) × (table ≡ no_table)
IsSplitTable (Some entry) text status before after table =
    (status ≡ copy_status (length before) table.count)
    × (entry ≡ record_in entry.delimiters entry.content.kind text)
    × ReportsTable entry.delimiters entry.content.kind text before after table

-- a record was read, so many bytes with its CR, and it is reported with its parts
pub record ReadsNext (before after : RecordsState) (left : Option Begun) (bytes : List ℕ) (count : ℕ) (out : LisFound)
    (parts_before parts : List LisPart) (table : LisTable) : Type 0 where
  pub following : List ℕ
  pub entry : Borrowed RecordContent
  pub reads : Reads before after left bytes following (founds.Record entry)
  pub count_is : count ≡ length bytes - length following
  pub reported : out ≡ reported_record entry.content
  pub parts_are : ReportsTable entry.delimiters entry.content.kind (take (count - 1) bytes) parts_before parts table
