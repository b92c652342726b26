use Rattle.std.proofs.Common.{◌*◌, ◌+◌, arith, drop, false, length, sym, true, ◌∙◌}
use Rattle.std.proofs.lemmas.List.{length-drop}
use Rattle.lis_record_read.specs.inside.FrontReading.{stops}
use Rattle.lis_table.proofs.StopLaws.{one-more, small}
use Rattle.lis_table.proofs.stops.stops_by_one.Goals as goal

pub overflow_mul-bits : goal.overflow_mul-bits
overflow_mul-bits c =
    let few = length-drop (length c.loop-byte.rest.now) c.args.text.now in
    omega (
      arith,
      c.loop-byte.invariant.2,
      small c.args.delimiters (drop (length c.loop-byte.rest.now) c.args.text.now) (omega (arith, few)),
    )

pub overflow_add-bits : goal.overflow_add-bits
overflow_add-bits c =
    let few = length-drop (length c.loop-byte.rest.now) c.args.text.now in
    omega (
      arith,
      c.loop-byte.invariant.2,
      small c.args.delimiters (drop (length c.loop-byte.rest.now) c.args.text.now) (omega (arith, few)),
    )

pub loop-byte-preserved-then-is_stop : goal.loop-byte-preserved-then-is_stop
loop-byte-preserved-then-is_stop c =
    one-more (stops c.args.delimiters c.args.delimiters.escape) c.args.text.now c.loop-byte.rest.now
    c.in-Some.before.now c.in-Some.byte.now c.loop-byte.bits (c.loop-byte.bits * 2 + 1) true c.loop-byte.invariant
    c.in-Some.ensures.cases.0 (sym c.is_stop.ensures ∙ c.if-is_stop.true) (omega arith)

pub loop-byte-preserved : goal.loop-byte-preserved
loop-byte-preserved c =
    one-more (stops c.args.delimiters c.args.delimiters.escape) c.args.text.now c.loop-byte.rest.now
    c.in-Some.before.now c.in-Some.byte.now c.loop-byte.bits (c.loop-byte.bits * 2) false c.loop-byte.invariant
    c.in-Some.ensures.cases.0 (sym c.is_stop.ensures ∙ c.if-is_stop.false) (omega arith)
