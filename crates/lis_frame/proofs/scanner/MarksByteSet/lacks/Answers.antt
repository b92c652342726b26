use Rattle.std.proofs.Common.{take}
use Rattle.lis_frame.proofs.MarkLemmas.{none_mark}
use Rattle.lis_frame.proofs.scanner.MarksByteSet.lacks.Goals as goal

pub returns-clause-none : goal.returns-clause-none
returns-clause-none c = λ over. none_mark (take 64 c.args.bytes.now) (c.are_over.ensures.0 over)
