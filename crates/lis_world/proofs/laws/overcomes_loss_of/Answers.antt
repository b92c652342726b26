use Rattle.lis_world.proofs.Overcoming.{overcomes_loss}
use Rattle.lis_world.proofs.laws.overcomes_loss_of.Goals as goal

pub returns : goal.returns
returns g c = overcomes_loss g.row.N c.requires
