use Rattle.std.proofs.Common.{take, arith, length-take}
use Rattle.lis_record_read.proofs.Lanes.{returns-only, unusual-none}
use Rattle.lis_record_read.proofs.search.return_bits.Goals as goal

pub returns-then-unusual-eq0 : goal.returns-then-unusual-eq0
returns-then-unusual-eq0 c =
    unusual-none 32 (omega arith) (take 32 c.args.bytes.now) (omega (arith, length-take 32 c.args.bytes.now))
    c.if-unusual-eq0.true

pub returns-then-unusual-returns : goal.returns-then-unusual-returns
returns-then-unusual-returns c =
    returns-only 32 (omega arith) (take 32 c.args.bytes.now) (omega (arith, length-take 32 c.args.bytes.now))
    c.if-unusual-returns.true
