use Rattle.lis_world.proofs.Carrying.{carries_through}
use Rattle.lis_world.proofs.laws.carries_through_of.Goals as goal

pub returns : goal.returns
returns g c = carries_through g.row.N c.requires
