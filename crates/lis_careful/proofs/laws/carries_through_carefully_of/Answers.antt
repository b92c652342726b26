use Rattle.lis_careful.proofs.Carried.{carries_through_carefully, carries_after_one_more}
use Rattle.lis_careful.proofs.laws.carries_through_carefully_of.Goals as goal

pub returns-clause-at_once : goal.returns-clause-at_once
returns-clause-at_once g c = carries_through_carefully g.row.N c.requires

pub returns-clause-one_more : goal.returns-clause-one_more
returns-clause-one_more g c = carries_after_one_more g.row.N c.requires
