use Rattle.std.proofs.Common.{arith}
use Rattle.lis_capture.proofs.LineLemmas.{without_return-length}
use Rattle.lis_capture.proofs.line.LastLine.read.Goals as goal

pub read_short-requires : goal.read_short-requires
read_short-requires c = rw c.without_return.ensures (omega (arith, without_return-length c.args.text.now))
