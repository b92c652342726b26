use Rattle.lis_tree.proofs.Refusing.{taken_viable, viable_taken}
use Rattle.lis_tree.proofs.laws.reasons.Goals as goal

pub returns-clause-taken : goal.returns-clause-taken
returns-clause-taken c = taken_viable

pub returns-clause-next : goal.returns-clause-next
returns-clause-next c = viable_taken
