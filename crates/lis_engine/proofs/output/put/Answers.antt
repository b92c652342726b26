use Rattle.std.proofs.Common.{◌≡◌, ◌<◌, Ok, Err, ℕ, List, take, drop, length, arith, subst, length-take}
use Rattle.std.proofs.lemmas.List.{take-append-drop}
use Rattle.std.proofs.lemmas.Bool.Decides.{nat_tests}
use Rattle.lis_engine.specs.declared.fault.ToolFault.TheVariants.{Write}
use Rattle.lis_engine.specs.inside.Output.{Put}
use Rattle.lis_engine.proofs.PutLaws.{put_taken, put_then, put_failed, put_none}
use Rattle.lis_engine.proofs.output.put.Goals as goal

pub loop-rest-init : goal.loop-rest-init
loop-rest-init g c = record {
  fits = c.requires.counted;
  working = c.requires.working;
  goes_on = λ new after r p. p;
}

pub loop-rest-preserved : goal.loop-rest-preserved
loop-rest-preserved g c = record {
  fits = omega (arith, c.saturating_add.ensures);
  working = c.in-Ok.ensures.failed;
  goes_on = λ new after r p.
      c.loop-rest.invariant.goes_on new after r
      (subst (λ (text : List ℕ). Put (g.W.Sink.taken c.loop-rest.sink) new c.loop-rest.written after r text)
      (take-append-drop c.in-Ok.count c.loop-rest.rest.now)
      (put_then _ _ _ _ c.saturating_add.result after r (take c.in-Ok.count c.loop-rest.rest.now)
      (drop c.in-Ok.count c.loop-rest.rest.now)
      (put_taken _ _ _ _ _ c.in-Ok.ensures.bytes
      (let e : length (take c.in-Ok.count c.loop-rest.rest.now) ≡ c.in-Ok.count =
      omega (arith, length-take c.in-Ok.count c.loop-rest.rest.now, c.in-Ok.ensures.bound) in
      omega (arith, e, c.saturating_add.ensures)))
      (rw c.split_at.ensures.back at p)));
}

pub returns-in-Err-clause-put : goal.returns-in-Err-clause-put
returns-in-Err-clause-put g c =
    let some : 0 < length c.loop-rest.rest.now = grind (arith, nat_tests, c.loop-rest-test.true, c.is_empty.ensures) in
    c.loop-rest.invariant.goes_on (g.W.Sink.taken c.write.new.self) c.loop-rest.written
    (Err (Write c.loop-rest.written))
    (put_failed _ _ c.loop-rest.written c.loop-rest.rest.now c.loop-rest.invariant.fits some c.in-Err.ensures.bytes)

pub returns-clause-put : goal.returns-clause-put
returns-clause-put g c =
    let none : length c.loop-rest.rest.now ≡ 0 = grind (arith, nat_tests, c.loop-rest-test.false, c.is_empty.ensures) in
    c.loop-rest.invariant.goes_on (g.W.Sink.taken c.loop-rest.sink) c.loop-rest.written (Ok tt)
    (put_none _ c.loop-rest.written c.loop-rest.rest.now c.loop-rest.invariant.fits none)
