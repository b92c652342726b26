use Rattle.lis_tree.proofs.Places.{findings_by_tree}
use Rattle.lis_tree.proofs.laws.numbers.Goals as goal

pub returns : goal.returns
returns c = findings_by_tree
