use Rattle.std.proofs.Common.{take, arith, length-take}
use Rattle.lis_frame.proofs.MarkLemmas.{lanes-marks}
use Rattle.lis_frame.proofs.scanner.MarksByteSet.bits.Goals as goal

pub returns : goal.returns
returns c = lanes-marks (take 16 c.args.bytes.now) (omega (arith, length-take 16 c.args.bytes.now))
