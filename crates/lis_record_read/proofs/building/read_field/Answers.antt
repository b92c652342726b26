use Rattle.lis_record_read.proofs.FieldTexts.{plain_read}
use Rattle.lis_record_read.proofs.building.read_field.Goals as goal

pub returns-then-is_plain : goal.returns-then-is_plain
returns-then-is_plain c =
    let plain = c.is_plain.ensures.0 c.if-is_plain.true in
    rw (plain_read c.args.delimiters c.args.text.now plain.repeat plain.component plain.escape) c.from_text.ensures
