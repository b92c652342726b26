-- A line has few digits after its mark (`few_digits`).
use Rattle.std.proofs.Common.{arith}
use Rattle.lis_capture.proofs.LineLemmas.{few_digits}
use Rattle.lis_capture.proofs.line.LastLine.copy.Goals as goal

pub copy_digits-requires-clause-short : goal.copy_digits-requires-clause-short
copy_digits-requires-clause-short g c = rw c.without_return.ensures (few_digits c.args.text.now (omega arith))

pub copy_digits-requires-in-60-clause-short : goal.copy_digits-requires-in-60-clause-short
copy_digits-requires-in-60-clause-short g c = rw c.without_return.ensures (few_digits c.args.text.now (omega arith))
