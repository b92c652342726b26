use Rattle.lis_world.proofs.Safety.{always_safe}
use Rattle.lis_world.proofs.laws.safe_of.Goals as goal

pub returns : goal.returns
returns g c = always_safe g.row.N c.requires
