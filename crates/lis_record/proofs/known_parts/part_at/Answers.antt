use Rattle.std.proofs.Common.{sym, ◌∙◌, ap, ◌≡◌, arith}
use Rattle.std.specs.Prelude.{slice_get}
use Rattle.lis_record_read.specs.FrontReading.{parts_following, parts_of}
use Rattle.lis_record_read.proofs.Places.{part_first, part_past, part_step}
use Rattle.lis_record.proofs.known_parts.part_at.Goals as goal

pub returns-in_default : goal.returns-in_default
returns-in_default c =
    let mark = c.args.delimiter in
    sym (part_past mark (parts_of mark c.loop-left.rest.now) c.first_part.result.0.now c.first_part.result.1.now
    c.loop-left.left c.first_part.ensures.parts c.in_default.ensures.cases (omega arith))
    ∙ c.loop-left.invariant

pub loop-left-preserved : goal.loop-left-preserved
loop-left-preserved c =
    let mark = c.args.delimiter in
    sym (part_step mark (parts_of mark c.loop-left.rest.now) c.first_part.result.0.now c.first_part.result.1.now
    c.in-Some.more.now c.in-Some._mark.now c.loop-left.left c.first_part.ensures.parts c.in-Some.ensures.cases.0
    (omega arith))
    ∙ c.loop-left.invariant

pub returns : goal.returns
returns c =
    let mark = c.args.delimiter in
    let none : c.loop-left.left ≡ 0 = omega arith in
    part_first (parts_of mark c.loop-left.rest.now) (parts_following mark c.first_part-2.result.1.now)
    c.first_part-2.result.0.now c.first_part-2.ensures.parts
    ∙ ap (slice_get (parts_of mark c.loop-left.rest.now)) (sym none) ∙ c.loop-left.invariant
