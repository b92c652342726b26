use Rattle.std.proofs.Common.{sym, ◌∙◌, ap, ◌∷◌}
use Rattle.lis_record_write.proofs.Steps.{encoded_repeat-first}
use Rattle.lis_record_write.proofs.cursor.open_repeat.Goals as goal

pub returns-in-Some : goal.returns-in-Some
returns-in-Some c = λ d. encoded_repeat-first d c.args.repeat.now _ c.in-Some.components.now
    (sym c.components.ensures.value ∙ c.in-Some.ensures.cases.0
    ∙ ap (λ l. l ∷ c.in-Some.components.now) (sym c.symbols.ensures.value))
