use Rattle.lis_careful.proofs.OneByte.{one_byte_is_noticed}
use Rattle.lis_careful.proofs.laws.one_byte_is_noticed_of.Goals as goal

pub returns : goal.returns
returns g c = one_byte_is_noticed g.row.N
