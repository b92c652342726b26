use Rattle.lis_careful.proofs.Cost.{costs_one}
use Rattle.lis_careful.proofs.laws.costs_one_enquiry_of.Goals as goal

pub returns : goal.returns
returns g c = costs_one g.row.N
