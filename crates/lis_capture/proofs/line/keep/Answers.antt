use Rattle.std.proofs.Common.{arith}
use Rattle.lis_capture.proofs.KeptLemmas.{bytes_kept, lowered_bytes, lowered_kept}
use Rattle.lis_capture.proofs.line.keep.Goals as goal

pub returns-in-Bytes-clause-kept : goal.returns-in-Bytes-clause-kept
returns-in-Bytes-clause-kept c = λ all.
    bytes_kept c.args.keeping c.decode.new.bytes c.in-Bytes.is
    (omega (arith, c.requires.short, rw c.in-Bytes.is at c.requires.room, c.decode.auto.bytes))

pub returns-in-Digits-clause-bytes : goal.returns-in-Digits-clause-bytes
returns-in-Digits-clause-bytes c =
    lowered_bytes c.args.keeping c.args.digits.now c.lower.new.lowered c.lower.result c.in-Digits.is
    c.requires.short c.lower.ensures

pub returns-in-Digits-clause-kept : goal.returns-in-Digits-clause-kept
returns-in-Digits-clause-kept c = λ all.
    lowered_kept c.args.keeping c.args.digits.now c.lower.new.lowered c.lower.result c.in-Digits.is c.requires.short
    (omega (arith, c.requires.short, rw c.in-Digits.is at c.requires.room, c.lower.auto.lowered)) c.lower.ensures all
