use Rattle.lis_tree.proofs.Viable.{from_viable, viable_from}
use Rattle.lis_tree.proofs.laws.hierarchy.Goals as goal

pub returns-clause-viable : goal.returns-clause-viable
returns-clause-viable c = viable_from

pub returns-clause-allowed : goal.returns-clause-allowed
returns-clause-allowed c = from_viable
