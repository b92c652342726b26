use Rattle.std.proofs.Common.{arith}
use Rattle.lis_engine.proofs.EncodeLemmas.{sixteen_last, sixteen_more}
use Rattle.lis_engine.proofs.digits.encode.Goals as goal

pub loop-place-preserved : goal.loop-place-preserved
loop-place-preserved c = record {
  fits = omega arith;
  written =
      sixteen_more c.args.bytes.now c.loop-place.digits c.encode_sixteen.new.digits c.loop-place.place _
      (omega (arith, c.loop-place.auto.digits, c.requires)) (omega (arith, c.loop-place-test.true))
      c.loop-place.invariant.written c.encode_sixteen.ensures;
}

pub returns : goal.returns
returns c =
    sixteen_last c.args.bytes.now c.loop-place.digits c.encode_sixteen-2.new.digits c.loop-place.place _ _
    (omega (arith, c.loop-place.auto.digits, c.requires)) (omega (arith, c.if-bytes-lt16.false)) c.loop-place-test.false
    (omega arith) c.loop-place.invariant.written c.encode_sixteen-2.ensures
