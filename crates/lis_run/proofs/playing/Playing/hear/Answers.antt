use Rattle.std.proofs.Common.{◌<◌, length, refl, arith, rules}
use Rattle.std.proofs.lemmas.Bool.Decides.{nat_tests}
use Rattle.std.proofs.lemmas.Result.{err_from_is_err_and}
use Rattle.lis_run.proofs.HearingLaws.{all_heard, hears_first, hears_on, hears_stops}
use Rattle.lis_run.proofs.playing.Playing.hear.Goals as goal

pub loop-rest-init : goal.loop-rest-init
loop-rest-init g c = record {
  working = c.requires.working;
  same = refl;
  goes_on = λ lines playing number few. hears_first c.args.number c.args.bytes.now c.requires.working playing;
}

pub loop-rest-preserved : goal.loop-rest-preserved
loop-rest-preserved g c = record {
  working = search rules;
  same = search rules;
  goes_on = λ lines playing number few.
      let at = c.loop-rest.invariant.goes_on lines playing number few in
      let heard = c.bytes-count.ensures in
      let some : 0 < length c.loop-rest.rest.now = grind
      (arith, nat_tests, c.loop-rest-test.true, c.is_empty.ensures) in
      rw c.split_at.ensures.back
      (hears_on at number c.bytes-count.new.self c.bytes-count.result.count c.bytes-count.result.step
      (heard.count at.here.receiver at.receiver_is) (heard.step at.here.receiver at.receiver_is) c.take.new.self
      c.take.new.out c.in_ok-take.ensures.step_taken c.in_ok-take.ensures.receiver c.in_ok-take.ensures.differences
      (heard.some some) heard.bound (omega (arith, playing.few, number, few, c.requires.short)));
}

pub returns-in_err-take-clause-steps : goal.returns-in_err-take-clause-steps
returns-in_err-take-clause-steps g c = λ lines playing number few.
    let at = c.loop-rest.invariant.goes_on lines playing number few in
    let heard = c.bytes-count.ensures in
    let e = err_from_is_err_and c.from_residual.result c.from_residual.ensures.1 in
    rw (e.1, e.2)
    (hears_stops at number c.bytes-count.new.self c.bytes-count.result.count c.bytes-count.result.step
    (heard.count at.here.receiver at.receiver_is) (heard.step at.here.receiver at.receiver_is) c.take.new.self
    c.take.new.out c.in_err-take.field-0.0 c.in_err-take.ensures.step_taken)

pub returns-clause-steps : goal.returns-clause-steps
returns-clause-steps g c = λ lines playing number few.
    all_heard (c.loop-rest.invariant.goes_on lines playing number few) number
    (grind (arith, nat_tests, c.loop-rest-test.false, c.is_empty.ensures)) c.requires.short playing.few
