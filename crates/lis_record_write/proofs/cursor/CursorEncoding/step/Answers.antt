-- The bytes that are left are the same before and after a step, by the cases of Steps.
use Rattle.std.proofs.Common.{sym, ◌∙◌, length, refl}
use Rattle.std.proofs.lemmas.Bool.{eqb-true}
use Rattle.lis_record_write.proofs.Steps.{component_case, end_case, field_case, nothing_left, repeat_case, symbols_case}
use Rattle.lis_record_write.proofs.cursor.CursorEncoding.step.Goals as goal

pub returns-then-not-is_empty-clause-same : goal.returns-then-not-is_empty-clause-same
returns-then-not-is_empty-clause-same c =
    let i = c.self.inside in
    symbols_case i.delimiters c.args.chunk.now c.push_symbols-self-inside.new.self c.args.self.now i.symbols.now
    c.push_symbols-self-inside.result.now i.components.now i.repeats.now i.fields.now i.end.now
    c.self.view_is c.push_symbols-self-inside.ensures.same

pub returns-in-Some-clause-same : goal.returns-in-Some-clause-same
returns-in-Some-clause-same c =
    let i = c.self.inside in
    component_case i.delimiters c.args.chunk.now c.push.new.self c.args.self.now i.symbols.now
    c.symbols-self-inside.result.now c.in-Some.component.now i.components.now c.in-Some.components.now
    i.repeats.now i.fields.now i.end.now
    c.self.view_is (eqb-true (length i.symbols.now) 0 (sym c.is_empty.ensures ∙ c.if-not-is_empty.false))
    c.in-Some.ensures.cases.0 c.symbols-self-inside.ensures.value (cc)

pub returns-in-Some-split_first-clause-same : goal.returns-in-Some-split_first-clause-same
returns-in-Some-split_first-clause-same c =
    let i = c.self.inside in
    repeat_case i.delimiters c.args.chunk.now c.push-in-Some-split_first.new.self c.args.self.now i.symbols.now
    c.open_repeat.result.0.now i.components.now c.open_repeat.result.1.now c.in-Some-split_first.repeat.now
    i.repeats.now c.in-Some-split_first.repeats.now i.fields.now i.end.now
    c.self.view_is (eqb-true (length i.symbols.now) 0 (sym c.is_empty.ensures ∙ c.if-not-is_empty.false))
    c.in_default.ensures.cases c.in-Some-split_first.ensures.cases.0 (c.open_repeat.ensures i.delimiters)
    (cc)

pub returns-in-Some-split_first-2-clause-same : goal.returns-in-Some-split_first-2-clause-same
returns-in-Some-split_first-2-clause-same c =
    let i = c.self.inside in
    field_case i.delimiters c.args.chunk.now c.push-in-Some-split_first-2.new.self c.args.self.now i.symbols.now
    c.open_field.result.0.now i.components.now c.open_field.result.1.now i.repeats.now c.open_field.result.2.now
    c.in-Some-split_first-2.field.now i.fields.now c.in-Some-split_first-2.fields.now i.end.now
    c.self.view_is (eqb-true (length i.symbols.now) 0 (sym c.is_empty.ensures ∙ c.if-not-is_empty.false))
    c.in_default.ensures.cases c.in_default-split_first.ensures.cases c.in-Some-split_first-2.ensures.cases.0
    (c.open_field.ensures i.delimiters) (cc)

pub returns-in-Some-split_first-3-clause-same : goal.returns-in-Some-split_first-3-clause-same
returns-in-Some-split_first-3-clause-same c =
    let i = c.self.inside in
    end_case i.delimiters c.args.chunk.now c.push-in-Some-split_first-3.new.self c.args.self.now i.symbols.now
    i.components.now i.repeats.now i.fields.now i.end.now c.in-Some-split_first-3.end.now
    c.in-Some-split_first-3.byte.now
    c.self.view_is (eqb-true (length i.symbols.now) 0 (sym c.is_empty.ensures ∙ c.if-not-is_empty.false))
    c.in_default.ensures.cases c.in_default-split_first.ensures.cases c.in_default-split_first-2.ensures.cases
    c.in-Some-split_first-3.ensures.cases.0 c.push-in-Some-split_first-3.ensures

pub returns-clause-done : goal.returns-clause-done
returns-clause-done c = λ _.
    let i = c.self.inside in (
      sym c.self.view_is ∙ nothing_left i.delimiters i.symbols.now i.components.now i.repeats.now i.fields.now i.end.now
          (eqb-true (length i.symbols.now) 0 (sym c.is_empty.ensures ∙ c.if-not-is_empty.false))
          c.in_default.ensures.cases c.in_default-split_first.ensures.cases
          c.in_default-split_first-2.ensures.cases c.in_default-split_first-3.ensures.cases,
      refl,
    )
