use Rattle.lis_bytes.proofs.SumLemmas.{four_long, four_sum}
use Rattle.lis_bytes.proofs.search.sum_of_four.Goals as goal

pub returns-clause-sum : goal.returns-clause-sum
returns-clause-sum c = search (four_sum)

pub returns-clause-lanes : goal.returns-clause-lanes
returns-clause-lanes c = search (four_long)
