use Rattle.lis_tree.proofs.Flatten.{flatten_one}
use Rattle.lis_message.proofs.Reading.{delimiters_one}
use Rattle.lis_message.proofs.laws.one_tree.Goals as goal

pub returns-clause-tree : goal.returns-clause-tree
returns-clause-tree c = flatten_one

pub returns-clause-delimiters : goal.returns-clause-delimiters
returns-clause-delimiters c = delimiters_one
