use Rattle.std.proofs.Common.{arith}
use Rattle.lis_bytes.proofs.SummedLemmas.{summed_lacking}
use Rattle.lis_bytes.proofs.search.lacking_sum.Goals as goal

pub loop-rest-preserved : goal.loop-rest-preserved
loop-rest-preserved g c = search (arith, summed_lacking)
