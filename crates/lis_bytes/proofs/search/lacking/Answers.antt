use Rattle.std.proofs.Common.{arith}
use Rattle.lis_bytes.proofs.PassedLemmas.{passed_lacking, passed_to}
use Rattle.lis_bytes.proofs.search.lacking.Goals as goal

pub loop-rest-preserved : goal.loop-rest-preserved
loop-rest-preserved g c = search (arith, passed_lacking)

pub returns-else-lacks : goal.returns-else-lacks
returns-else-lacks g c = search (passed_to)

pub returns-after-loop-rest : goal.returns-after-loop-rest
returns-after-loop-rest g c = search (passed_to)
