use Rattle.lis_careful.proofs.Follows.{follows_one_byte}
use Rattle.lis_careful.proofs.laws.follows_one_byte_of.Goals as goal

pub returns : goal.returns
returns g c = follows_one_byte g.row.N
