use Rattle.lis_line.proofs.BothCarried.{carries_both}
use Rattle.lis_line.proofs.laws.carries_both_of.Goals as goal

pub returns : goal.returns
returns g c = carries_both g.row.N c.requires
