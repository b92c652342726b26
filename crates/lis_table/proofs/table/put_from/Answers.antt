-- The places are taken one after another, as the pass over the text does.
use Rattle.std.proofs.Common.{◌≡◌, ◌*◌, ◌+◌, ◌-◌, ◌%◌, ◌^◌, ◌∙◌, arith, drop, length, refl}
use Rattle.std.specs.Int.Count.{count_trailing_zeros}
use Rattle.lis_table.specs.inside.Scan.{scanned}
use Rattle.lis_table.proofs.UnderWay.{among-end, among-start, begins-under_way, ends-under_way, next-stop}
use Rattle.lis_table.proofs.UnderWay.{is-roomy, taken}
use Rattle.lis_table.proofs.Written.{last-length, last-written, put-written}
use Rattle.lis_table.proofs.table.put_from.Goals as goal

pub loop-from-init : goal.loop-from-init
loop-from-init c =
    begins-under_way c.args.delimiters _ c.args.text.now c.args.out.now c.args.first c.requires.begins c.requires.room
    c.requires.short refl

pub loop-stops-init : goal.loop-stops-init
loop-stops-init c =
    among-start c.args.delimiters _ c.args.text.now c.args.out.now c.loop-from.begun c.loop-from.from
    c.stops_ahead-stops.result.0 c.stops_ahead-stops.result.1 c.loop-from.out c.loop-from.count c.loop-from-test.true
    c.stops_ahead-stops.ensures.ahead c.loop-from.invariant

pub overflow_sub-stops : goal.overflow_sub-stops
overflow_sub-stops c =
    let next = next-stop c.args.delimiters _ c.args.text.now c.args.out.now c.loop-stops.begun c.loop-from.from
    c.loop-stops.stops c.stops_ahead-stops.result.1 c.loop-stops.out c.loop-stops.count c.loop-stops.invariant
    c.loop-stops-test.true in
    omega (arith, next.bit)

pub bounds-text-at : goal.bounds-text-at
bounds-text-at c =
    let next = next-stop c.args.delimiters _ c.args.text.now c.args.out.now c.loop-stops.begun c.loop-from.from
    c.loop-stops.stops c.stops_ahead-stops.result.1 c.loop-stops.out c.loop-stops.count c.loop-stops.invariant
    c.loop-stops-test.true in
    next.inside

pub take_byte-count-requires-clause-at : goal.take_byte-count-requires-clause-at
take_byte-count-requires-clause-at c =
    let next = next-stop c.args.delimiters _ c.args.text.now c.args.out.now c.loop-stops.begun c.loop-from.from
    c.loop-stops.stops c.stops_ahead-stops.result.1 c.loop-stops.out c.loop-stops.count c.loop-stops.invariant
    c.loop-stops-test.true in
    (next.under.begins, omega (arith, next.inside, next.under.short), next.under.few)

pub take_byte-count-requires-clause-room : goal.take_byte-count-requires-clause-room
take_byte-count-requires-clause-room c =
    let next = next-stop c.args.delimiters _ c.args.text.now c.args.out.now c.loop-stops.begun c.loop-from.from
    c.loop-stops.stops c.stops_ahead-stops.result.1 c.loop-stops.out c.loop-stops.count c.loop-stops.invariant
    c.loop-stops-test.true in
    is-roomy _ (length c.args.text.now - (c.loop-from.from + count_trailing_zeros 64 c.loop-stops.stops))
    (omega (arith, next.inside)) next.under.room

pub loop-stops-preserved : goal.loop-stops-preserved
loop-stops-preserved c =
    let end = count_trailing_zeros 64 c.loop-stops.stops in
    let next = next-stop c.args.delimiters _ c.args.text.now c.args.out.now c.loop-stops.begun c.loop-from.from
    c.loop-stops.stops c.stops_ahead-stops.result.1 c.loop-stops.out c.loop-stops.count c.loop-stops.invariant
    c.loop-stops-test.true in
    let same : 1 * 2 ^ end % 18446744073709551616 ≡ 2 ^ end =
    omega (arith, next.bit, c.loop-stops.auto.stops-fits) in
    rw same (
    next.others c.take_byte-count.new.begun c.take_byte-count.new.out c.take_byte-count.result
    (taken c.args.delimiters _ c.args.text.now c.args.out.now c.loop-stops.begun (c.loop-from.from + end)
    c.loop-stops.out c.loop-stops.count next.under _ next.inside refl c.take_byte-count.new.begun
    c.take_byte-count.new.out c.take_byte-count.result c.take_byte-count.ensures.ends
    c.take_byte-count.ensures.goes_on)
    )

pub loop-from-preserved : goal.loop-from-preserved
loop-from-preserved c =
    among-end c.args.delimiters _ c.args.text.now c.args.out.now c.loop-stops.begun c.loop-from.from
    c.loop-stops.stops c.stops_ahead-stops.result.1 c.loop-stops.out c.loop-stops.count c.loop-stops.invariant
    c.loop-stops-test.false

pub returns-clause-count : goal.returns-clause-count
returns-clause-count c =
    last-length (scanned c.args.delimiters c.args.first (drop c.args.first.offset c.args.text.now)) c.loop-from.count _
    (ends-under_way c.args.delimiters _ c.args.text.now c.args.out.now c.loop-from.begun c.loop-from.from
    c.loop-from.out c.loop-from.count c.loop-from.invariant (omega (arith, c.loop-from-test.false)))

pub returns-clause-put : goal.returns-clause-put
returns-clause-put c =
    let table = scanned c.args.delimiters c.args.first (drop c.args.first.offset c.args.text.now) in
    let left = ends-under_way c.args.delimiters _ c.args.text.now c.args.out.now c.loop-from.begun c.loop-from.from
    c.loop-from.out c.loop-from.count c.loop-from.invariant (omega (arith, c.loop-from-test.false)) in
    put-written table c.args.out.now c.loop-from.out c.put.new.out c.loop-from.count _ _ left
    c.loop-from.invariant.put (rw c.up_to.ensures at c.put.ensures)
    ∙ last-written table c.args.out.now (c.loop-from.count + 1) (last-length table c.loop-from.count _ left)
