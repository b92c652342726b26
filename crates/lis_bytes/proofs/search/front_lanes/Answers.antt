use Rattle.lis_bytes.proofs.SumLemmas.{front-selected}
use Rattle.lis_bytes.proofs.search.front_lanes.Goals as goal

pub returns-clause-sum : goal.returns-clause-sum
returns-clause-sum c = search (front-selected)
