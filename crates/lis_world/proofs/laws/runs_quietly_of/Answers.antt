use Rattle.lis_world.proofs.Carrying.{runs_quietly}
use Rattle.lis_world.proofs.laws.runs_quietly_of.Goals as goal

pub returns : goal.returns
returns g c = runs_quietly g.row.N c.requires
