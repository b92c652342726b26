use Rattle.std.proofs.Common.{◌∙◌, sym}
use Rattle.lis_record_write.proofs.Sinks.{Keeps-same}
use Rattle.lis_record_write.proofs.WriteLaws.{field_char_fault-other, field_char_fault-text}
use Rattle.lis_record_write.proofs.writing.put_field.Goals as goal

pub returns-then-not-is_text_field-clause-wrote : goal.returns-then-not-is_text_field-clause-wrote
returns-then-not-is_text_field-clause-wrote g c = (
  field_char_fault-other c.args.field.now (sym c.is_text_field.ensures ∙ c.if-not-is_text_field.true),
  Keeps-same
      (g.W.Sink.taken c.args.sink.now),
)

pub returns-clause-wrote : goal.returns-clause-wrote
returns-clause-wrote g c =
    let none = field_char_fault-text c.args.field.now (sym c.is_text_field.ensures ∙ c.if-not-is_text_field.false) in
    rw (none, ← c.of_field.ensures) c.put_encoding.ensures.wrote
