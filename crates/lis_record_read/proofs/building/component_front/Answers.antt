use Rattle.std.proofs.Common.{◌∙◌}
use Rattle.std.proofs.lemmas.List.{drop_more}
use Rattle.lis_record_read.proofs.Fronts.{front-marked, front-whole}
use Rattle.lis_record_read.proofs.building.component_front.Goals as goal

pub returns-then-stop-text-clause-front : goal.returns-then-stop-text-clause-front
returns-then-stop-text-clause-front c =
    front-whole c.args.delimiters c.args.given.text.now c.args.given.padded.now c.requires _
    (rw c.component.ensures at c.in-Some.ensures.found) c.is_free.result c.if-stop-text.true
    (rw c.escape.ensures at c.is_free.ensures)

pub returns-clause-front : goal.returns-clause-front
returns-clause-front c =
    let text = c.args.given.text.now in
    front-marked c.args.delimiters text c.args.given.padded.now c.requires _
    (rw c.component.ensures at c.in-Some.ensures.found) c.is_free-2.result c.if-stop-text.false _ _
    (drop_more text _ 0 c.if-stop-text.false) (c.if-text-stop.false ∙ c.component-2.ensures)
    (rw c.escape-2.ensures at c.is_free-2.ensures)
