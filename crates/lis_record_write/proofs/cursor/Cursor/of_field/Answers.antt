use Rattle.lis_record_write.proofs.Steps.{field_alone}
use Rattle.lis_record_write.proofs.cursor.Cursor.of_field.Goals as goal

pub returns : goal.returns
returns c =
    let d = c.args.delimiters in
    field_alone d c.args.field.now c.open_field.result.0.now c.open_field.result.1.now c.open_field.result.2.now
    (c.open_field.ensures d)
