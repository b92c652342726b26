use Rattle.std.proofs.Common.{sym, ◌∙◌}
use Rattle.std.proofs.lemmas.Bool.{eqb-true}
use Rattle.lis_record_read.proofs.FieldTexts.{plain_symbols}
use Rattle.lis_record_read.proofs.Places.{Lacks-position, is_some_none}
use Rattle.lis_record_read.proofs.Places.{symbols_of-nil}
use Rattle.lis_record_read.proofs.building.first_component.Goals as goal

pub returns-then-is_empty : goal.returns-then-is_empty
returns-then-is_empty c =
    rw (symbols_of-nil c.args.delimiters c.args.text.now (eqb-true _ _ (sym c.if-is_empty.ensures)))
    (rw c.new.ensures at c.with_capacity-then-is_empty.ensures)

pub returns : goal.returns
returns c =
    let text = c.args.text.now in
    let none = is_some_none c.place_of.result (sym c.is_some.ensures ∙ c.if-is_some.false) in
    let free = rw c.escape.ensures at (Lacks-position c.escape.result text (sym c.place_of.ensures ∙ none)) in
    rw (plain_symbols c.args.delimiters text free) (rw c.in_ok-from_text.ensures at c.with_capacity-2.ensures)
