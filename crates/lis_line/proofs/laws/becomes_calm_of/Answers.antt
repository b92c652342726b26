use Rattle.lis_line.proofs.Settling.{becomes_calm}
use Rattle.lis_line.proofs.laws.becomes_calm_of.Goals as goal

pub returns : goal.returns
returns g c = becomes_calm g.row.N c.requires
