-- It is a lemma about lists of kinds.
use Rattle.lis_tree.proofs.ListFaults.{faultless_kinds}
use Rattle.lis_tree.proofs.laws.whole_lists.Goals as goal

pub returns : goal.returns
returns c = faultless_kinds
