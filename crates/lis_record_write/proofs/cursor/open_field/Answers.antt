use Rattle.std.proofs.Common.{sym, ◌∙◌}
use Rattle.lis_record_write.proofs.Steps.{encoded_field-first}
use Rattle.lis_record_write.proofs.cursor.open_field.Goals as goal

pub returns-in-Some : goal.returns-in-Some
returns-in-Some c = λ d. encoded_field-first d c.args.field.now c.in-Some.repeat.now c.in-Some.repeats.now
    c.open_repeat.result.0.now c.open_repeat.result.1.now
    (sym c.repeats.ensures.value ∙ c.in-Some.ensures.cases.0) (c.open_repeat.ensures d)
