use Rattle.lis_bytes.proofs.OverLemmas.{least_over, turned}
use Rattle.lis_bytes.proofs.search.are_over.Goals as goal

pub returns : goal.returns
returns c = search (least_over, turned)
