use Rattle.std.proofs.Common.{arith}
use Rattle.lis_record_read.proofs.Fronts.{front-before, front-free}
use Rattle.lis_record_read.proofs.escapes.plain_front.Goals as goal

pub returns-then-bits-eq0-clause-plain : goal.returns-then-bits-eq0-clause-plain
returns-then-bits-eq0-clause-plain c =
    front-free c.args.given.text.now c.args.given.padded.now c.requires.begins c.min.result
    (omega (arith, c.min.ensures)) c.args.delimiters.escape c.bits_of-bits.result c.requires.room
    (rw c.escape.ensures at c.bits_of-bits.ensures) (omega (arith, c.min.ensures)) c.if-bits-eq0.true

pub returns-clause-plain : goal.returns-clause-plain
returns-clause-plain c =
    front-before c.args.given.text.now c.args.given.padded.now c.requires.begins c.min-2.result
    (omega (arith, c.min-2.ensures)) c.args.delimiters.escape c.bits_of-bits.result c.requires.room
    (rw c.escape.ensures at c.bits_of-bits.ensures) c.if-bits-eq0.false (omega (arith, c.min-2.ensures))
