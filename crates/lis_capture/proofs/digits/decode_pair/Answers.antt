use Rattle.std.proofs.Common.{◌&&◌, ◌∙◌, sym}
use Rattle.lis_capture.proofs.DecodeLemmas.{pair_other, pair_read}
use Rattle.lis_capture.proofs.digits.decode_pair.Goals as goal

pub returns-then-both : goal.returns-then-both
returns-then-both c =
    rw c.if-both.true
    (pair_read c.args.high c.args.low c.byte_of.result c.args.bytes.now c.requires
    ((λ i. sym c.is_digit.ensures i && sym c.is_digit-2.ensures i) ∙ c.if-both.true) c.byte_of.ensures)

pub returns-else-both : goal.returns-else-both
returns-else-both c =
    rw c.if-both.false
    (pair_other c.args.high c.args.low ((λ i. sym c.is_digit.ensures i && sym c.is_digit-2.ensures i)
    ∙ c.if-both.false))
