use Rattle.std.proofs.Common.{take, sym}
use Rattle.lis_text.proofs.TextLemmas.{none_low}
use Rattle.lis_text.proofs.text.ForbiddenBytesByteSet.lacks.Goals as goal

pub returns-clause-none : goal.returns-clause-none
returns-clause-none c = λ over. sym (none_low (take 64 c.args.bytes.now) (c.are_over.ensures.0 over))
