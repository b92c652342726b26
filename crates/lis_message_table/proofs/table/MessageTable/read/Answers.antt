-- The text's front is the message whose records were read (text_is, table_is).
use Rattle.lis_message_table.proofs.TableLaws.{table_is, text_is}
use Rattle.lis_message_table.proofs.table.MessageTable.read.Goals as goal

pub returns-in-Ok-clause-some : goal.returns-in-Ok-clause-some
returns-in-Ok-clause-some c =
    let r = c.in-Ok.ensures.ok in
    let front = c.split_at.ensures.front in
    let places = c.read_records.new.places.items in (
      text_is _ c.args.text.now places _ r c.split_at.result.0.now 0 front,
      (r.message, table_is _ c.args.text.now places _ r c.split_at.result.0.now _ front),
    )
