use Rattle.std.proofs.Common.{sym, ◌∙◌}
use Rattle.lis_record_write.proofs.WriteLaws.{field_fault-other, too_long_reported}
use Rattle.lis_record_write.proofs.writing.is_too_long.Goals as goal

pub returns-then-not-is_text_field : goal.returns-then-not-is_text_field
returns-then-not-is_text_field c =
    let other = field_fault-other c.args.delimiters c.args.field.now
    (sym c.is_text_field.ensures ∙ c.if-not-is_text_field.true) in
    (λ long. cc, λ long. cc (long, other))

pub returns : goal.returns
returns c =
    too_long_reported c.is_within.result c.args.delimiters c.args.field.now _
    (sym c.is_text_field.ensures ∙ c.if-not-is_text_field.false) c.is_within.ensures
    c.begin_field-cursor.ensures.whole
