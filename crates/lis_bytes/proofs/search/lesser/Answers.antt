use Rattle.lis_bytes.proofs.OverLemmas.{is_lesser, turned}
use Rattle.lis_bytes.proofs.search.lesser.Goals as goal

pub returns : goal.returns
returns c = search (is_lesser, turned)
