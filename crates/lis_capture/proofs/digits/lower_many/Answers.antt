use Rattle.std.proofs.Common.{◌<◌, arith, length}
use Rattle.std.proofs.lemmas.Bool.Decides.{nat_tests}
use Rattle.lis_capture.proofs.LowerLemmas.{last_lowered, more_lowered, lowered_encoding}
use Rattle.lis_capture.proofs.digits.lower_many.Goals as goal

pub returns-then-digits-lt16 : goal.returns-then-digits-lt16
returns-then-digits-lt16 c =
    let some : 0 < length c.args.digits.now = grind (arith, nat_tests, c.if-is_empty.false, c.is_empty.ensures) in
    lowered_encoding c.args.digits.now c.lower_few.new.lowered c.lower_few.result (omega arith) some
    c.lower_few.ensures.all
    c.lower_few.ensures.lowered

pub loop-place-preserved : goal.loop-place-preserved
loop-place-preserved c =
    more_lowered c.args.digits.now c.loop-place.lowered c.lower_sixteen.new.lowered c.loop-place.far
    c.lower_sixteen.result c.loop-place.place _
    (omega (arith, c.loop-place.auto.lowered, c.requires)) (omega (arith, c.loop-place-test.true))
    c.loop-place.invariant
    c.lower_sixteen.ensures.far c.lower_sixteen.ensures.lowered

pub returns : goal.returns
returns c =
    last_lowered c.args.digits.now c.loop-place.lowered c.lower_sixteen-2.new.lowered c.loop-place.far
    c.lower_sixteen-2.result c.loop-place.place _ _
    (omega (arith, c.loop-place.auto.lowered, c.requires)) (omega (arith, c.if-digits-lt16.false))
    c.loop-place-test.false
    (omega (arith, c.loop-place.auto.lowered, c.requires, c.if-digits-lt16.false)) (omega arith)
    c.loop-place.invariant c.lower_sixteen-2.ensures.far c.lower_sixteen-2.ensures.lowered
