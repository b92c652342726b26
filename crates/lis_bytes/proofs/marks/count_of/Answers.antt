use Rattle.lis_bytes.proofs.PassedLemmas.{counted_all, counted_within}
use Rattle.lis_bytes.proofs.marks.count_of.Goals as goal

pub returns-clause-count : goal.returns-clause-count
returns-clause-count c = search (counted_all)

pub returns-clause-bound : goal.returns-clause-bound
returns-clause-bound c = search (counted_within)
