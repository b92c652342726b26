use Rattle.std.proofs.Common.{arith, length}
use Rattle.lis_capture.proofs.DecodeLemmas.{last_read_by, more_read_by, none_read_by}
use Rattle.lis_capture.proofs.digits.decode_many.Goals as goal

pub loop-place-init : goal.loop-place-init
loop-place-init c = none_read_by c.args.digits.now c.args.bytes.now

pub loop-place-preserved : goal.loop-place-preserved
loop-place-preserved c =
    more_read_by c.args.digits.now c.loop-place.bytes c.decode_sixteen.new.bytes c.loop-place.most
    c.decode_sixteen.result (length c.args.bytes.now) c.loop-place.place _
    c.requires c.loop-place.auto.bytes (omega (arith, c.loop-place-test.true)) c.loop-place.invariant
    c.decode_sixteen.ensures.0 c.decode_sixteen.ensures.1

pub returns : goal.returns
returns c =
    last_read_by c.args.digits.now c.loop-place.bytes c.decode_sixteen-2.new.bytes c.loop-place.most
    c.decode_sixteen-2.result (length c.args.bytes.now) c.loop-place.place
    _ _ c.requires c.loop-place.auto.bytes (omega (arith, c.if-bytes-lt16.false)) c.loop-place-test.false
    (omega (arith, c.loop-place.auto.bytes, c.if-bytes-lt16.false))
    c.loop-place.invariant c.decode_sixteen-2.ensures.0 c.decode_sixteen-2.ensures.1
