use Rattle.lis_tree.proofs.ResultLaws.{results_are_listed}
use Rattle.lis_tree.proofs.laws.results.Goals as goal

pub returns : goal.returns
returns c = results_are_listed
