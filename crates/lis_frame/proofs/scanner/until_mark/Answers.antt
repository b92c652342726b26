use Rattle.std.proofs.Common.{◌≡◌, ◌<◌, Some, arith, sym, zero-add}
use Rattle.std.specs.Int.Count.{count_trailing_zeros}
use Rattle.std.specs.List.{position_from}
use Rattle.lis_frame.specs.Stream.{is_mark}
use Rattle.lis_bytes.proofs.SearchLemmas.{clean-before, found-chunk, found-within, prefix-found, prefix-none}
use Rattle.lis_frame.proofs.scanner.until_mark.Goals as goal

pub returns-then-bits-ne0-clause-length : goal.returns-then-bits-ne0-clause-length
returns-then-bits-ne0-clause-length c =
    let bits = c.bits-bits.ensures in
    let place = count_trailing_zeros 64 c.bits-bits.result in
    let found : position_from is_mark 0 c.args.bytes.now ≡ Some place =
    rw (← zero-add place, bits)
    (found-chunk is_mark 0 16 c.args.bytes.now (omega arith) c.if-bytes-ge16.true (rw bits at c.if-bits-ne0.true)) in
    prefix-found is_mark c.args.bytes.now place found

pub returns-then-bits-ne0-clause-bound : goal.returns-then-bits-ne0-clause-bound
returns-then-bits-ne0-clause-bound c =
    let bits = c.bits-bits.ensures in
    let inside = found-within is_mark 16 c.args.bytes.now (omega arith) c.if-bytes-ge16.true
    (rw bits at c.if-bits-ne0.true) in
    let at : count_trailing_zeros 64 c.bits-bits.result < 16 = rw bits inside in
    omega (arith, at, c.if-bytes-ge16.true)

pub returns-in-Some-clause-length : goal.returns-in-Some-clause-length
returns-in-Some-clause-length c = prefix-found is_mark c.args.bytes.now c.in-Some.place (sym c.in-Some.ensures)

pub returns-in-Some-clause-bound : goal.returns-in-Some-clause-bound
returns-in-Some-clause-bound c =
    let before = clean-before is_mark c.args.bytes.now c.in-Some.place (sym c.in-Some.ensures) in
    omega (arith, before.0)

pub returns-in-None-clause-length : goal.returns-in-None-clause-length
returns-in-None-clause-length c = prefix-none is_mark c.args.bytes.now (sym c.in-None.ensures)
