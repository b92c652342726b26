use Rattle.std.proofs.Common.{sym, ◌∙◌}
use Rattle.lis_record.proofs.AsIs.{fronted_more, fronted_next, fronted_part, fronted_whole}
use Rattle.lis_record.proofs.reencoding.front_as_is.Goals as goal

pub returns-then-not-begins_letter-clause-same : goal.returns-then-not-begins_letter-clause-same
returns-then-not-begins_letter-clause-same c =
    fronted_part c.args.delimiters c.args.text.now c.loop-place.rest.now c.loop-place.passed c.loop-place.invariant
    c.in-Some.place (rw c.escape.ensures at (sym c.place_of.ensures ∙ c.in-Some.is))

pub returns-then-not-begins_letter-clause-next : goal.returns-then-not-begins_letter-clause-next
returns-then-not-begins_letter-clause-next c =
    fronted_next c.args.delimiters c.args.text.now c.loop-place.rest.now c.loop-place.passed c.loop-place.invariant
    c.in-Some.place (rw c.escape.ensures at (sym c.place_of.ensures ∙ c.in-Some.is))

pub loop-place-preserved : goal.loop-place-preserved
loop-place-preserved c =
    let inside = c.in-Some-split_first.inside.now in
    let begins = c.begins_letter.ensures c.if-not-begins_letter.false in
    fronted_more c.args.delimiters c.args.text.now c.loop-place.rest.now c.loop-place.passed c.loop-place.invariant
    c.in-Some.place (rw c.escape.ensures at (sym c.place_of.ensures ∙ c.in-Some.is))
    c.in-Some-split_first._escape.now inside c.split_at-in-Some.result.1.now
    (sym c.split_at.ensures.back ∙ c.in-Some-split_first.ensures.cases.0)
    begins.0 c.split_at-in-Some.ensures.back begins.1

pub returns-clause-same : goal.returns-clause-same
returns-clause-same c =
    fronted_whole c.args.delimiters c.args.text.now c.loop-place.rest.now c.loop-place.passed c.loop-place.invariant
    (rw c.escape.ensures at (sym c.place_of.ensures ∙ c.in_default.is))
