use Rattle.std.proofs.Common.{take, arith, length-take}
use Rattle.lis_record_read.proofs.Lanes.{allowed-others, allowed-within, unusual-none}
use Rattle.lis_record_read.proofs.search.BadBytesByteSet.bits.Goals as goal

pub returns-then-unusual-eq0 : goal.returns-then-unusual-eq0
returns-then-unusual-eq0 c =
    unusual-none 16 (omega arith) (take 16 c.args.bytes.now) (omega (arith, length-take 16 c.args.bytes.now))
    c.if-unusual-eq0.true

pub overflow_sub-result : goal.overflow_sub-result
overflow_sub-result c = allowed-within (take 16 c.args.bytes.now) (omega (arith, length-take 16 c.args.bytes.now))

pub returns : goal.returns
returns c = allowed-others (take 16 c.args.bytes.now) (omega (arith, length-take 16 c.args.bytes.now))
