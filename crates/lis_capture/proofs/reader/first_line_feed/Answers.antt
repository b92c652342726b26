use Rattle.std.proofs.Common.{arith}
use Rattle.lis_capture.proofs.FirstByteLemmas.{first_of_sixteen}
use Rattle.lis_capture.proofs.reader.first_line_feed.Goals as goal

pub returns-then-ends-ne0 : goal.returns-then-ends-ne0
returns-then-ends-ne0 c =
    first_of_sixteen c.args.bytes.now 10 _ (omega (arith, c.if-bytes-ge16.true)) c.bits_of-ends.ensures
    c.if-ends-ne0.true
