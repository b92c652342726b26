use Rattle.std.proofs.Common.{◌<◌, arith, length, ◌∙◌}
use Rattle.std.proofs.lemmas.List.{drop_more}
use Rattle.lis_record_read.proofs.Stops.{stop-first}
use Rattle.lis_record_read.proofs.search.field_end.Goals as goal

pub returns-then-text-end-clause-first : goal.returns-then-text-end-clause-first
returns-then-text-end-clause-first c =
    let text = c.args.text.now in
    let end = c.in-Some.end in
    let bound : end < length text = omega (arith, c.in-Some.ensures.near, c.in-Some.ensures.room) in
    stop-first c.args.delimiters c.args.other text end c.in-Some.ensures.found _ _ (drop_more text end 0 bound)
    (c.if-text-end.true ∙ c.field.ensures.byte)
