use Rattle.std.proofs.Common.{take, arith, length-take}
use Rattle.lis_record_read.proofs.Lanes.{stop-bits}
use Rattle.lis_record_read.proofs.search.stop_bits.Goals as goal

pub returns : goal.returns
returns c =
    rw (c.field.ensures.byte, c.repeat.ensures, c.component.ensures)
    (stop-bits (take 16 c.args.bytes.now) (omega (arith, length-take 16 c.args.bytes.now)) c.args.delimiters
    c.args.other)
