use Rattle.lis_bytes.proofs.SummedLemmas.{found_few, found_summed, front_summed, rest_summed, summed_at, summed_on}
use Rattle.lis_bytes.proofs.search.first_and_sum.Goals as goal

pub loop-rest-init : goal.loop-rest-init
loop-rest-init g c = search (summed_at)

pub front_lanes-requires : goal.front_lanes-requires
front_lanes-requires g c = search (found_few)

pub returns-then-bits-ne0-clause-sum : goal.returns-then-bits-ne0-clause-sum
returns-then-bits-ne0-clause-sum g c = search (found_summed)

pub loop-rest-preserved : goal.loop-rest-preserved
loop-rest-preserved g c = search (summed_on)

pub returns-in-None-clause-sum : goal.returns-in-None-clause-sum
returns-in-None-clause-sum g c = search (rest_summed)

pub returns-in-Some-clause-sum : goal.returns-in-Some-clause-sum
returns-in-Some-clause-sum g c = search (front_summed)
