use Rattle.std.proofs.Common.{◌++◌, ◌∷◌, [], ap, sym, ◌∙◌}
use Rattle.lis_record_values.specs.Shape.{Symbols}
use Rattle.lis_record_read.proofs.FieldTexts.{plain_symbols}
use Rattle.lis_record_read.proofs.Places.{Lacks-position, is_some_none}
use Rattle.std.proofs.lemmas.Bool.{eqb-true}
use Rattle.lis_record_read.proofs.Places.{symbols_of-nil}
use Rattle.lis_record_read.proofs.building.push_component.Goals as goal

pub returns-in_ok-push-2 : goal.returns-in_ok-push-2
returns-in_ok-push-2 c =
    c.in_ok-push-2.ensures.ok
    ∙ ap (λ (s : Symbols). c.args.repeat.now ++ s ∷ [])
    (c.new.ensures ∙ sym (symbols_of-nil c.args.delimiters c.args.text.now (eqb-true _ _ (sym c.if-is_empty.ensures))))

pub returns-in_ok-push-3 : goal.returns-in_ok-push-3
returns-in_ok-push-3 c =
    let text = c.args.text.now in
    let none = is_some_none c.place_of.result (sym c.is_some.ensures ∙ c.if-is_some.false) in
    let free = rw c.escape.ensures at (Lacks-position c.escape.result text (sym c.place_of.ensures ∙ none)) in
    c.in_ok-push-3.ensures.ok
    ∙ ap (λ (s : Symbols). c.args.repeat.now ++ s ∷ [])
    (c.in_ok-from_text.ensures ∙ sym (plain_symbols c.args.delimiters text free))
