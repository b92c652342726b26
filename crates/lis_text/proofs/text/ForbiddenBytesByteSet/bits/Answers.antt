use Rattle.std.proofs.Common.{take, arith, length-take}
use Rattle.lis_text.proofs.TextLemmas.{lanes-forbidden, lanes-none}
use Rattle.lis_text.proofs.text.ForbiddenBytesByteSet.bits.Goals as goal

pub returns : goal.returns
returns c = lanes-forbidden (take 16 c.args.bytes.now) (omega (arith, length-take 16 c.args.bytes.now))

pub returns-then-sixteen-eq0 : goal.returns-then-sixteen-eq0
returns-then-sixteen-eq0 c =
    lanes-none (take 16 c.args.bytes.now) (omega (arith, length-take 16 c.args.bytes.now)) c.if-sixteen-eq0.true
