use Rattle.lis_careful_line.proofs.Histories.{are_line_histories, safe_carefully}
use Rattle.lis_careful_line.proofs.laws.safe_carefully_both_ways_of.Goals as goal

pub returns-clause-history : goal.returns-clause-history
returns-clause-history g c = are_line_histories g.row.N c.requires

pub returns-clause-safe : goal.returns-clause-safe
returns-clause-safe g c = safe_carefully g.row.N c.requires
