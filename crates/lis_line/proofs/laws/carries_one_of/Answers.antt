use Rattle.lis_line.proofs.BothCarried.{carries_one}
use Rattle.lis_line.proofs.laws.carries_one_of.Goals as goal

pub returns : goal.returns
returns g c = carries_one g.row.N c.requires
