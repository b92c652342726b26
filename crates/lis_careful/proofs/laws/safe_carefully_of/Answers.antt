use Rattle.lis_careful.proofs.Histories.{are_histories, always_safe_carefully}
use Rattle.lis_careful.proofs.laws.safe_carefully_of.Goals as goal

pub returns-clause-history : goal.returns-clause-history
returns-clause-history g c = are_histories g.row.N c.requires

pub returns-clause-safe : goal.returns-clause-safe
returns-clause-safe g c = always_safe_carefully g.row.N c.requires
