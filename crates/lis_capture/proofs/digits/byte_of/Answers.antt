use Rattle.lis_capture.proofs.DigitsLemmas.{by_halves-digits}
use Rattle.lis_capture.proofs.digits.byte_of.Goals as goal

pub returns : goal.returns
returns c = rw c.from_le_bytes-digits.ensures (by_halves-digits c.args.high c.args.low c.requires.high c.requires.low)
