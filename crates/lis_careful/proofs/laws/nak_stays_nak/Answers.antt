use Rattle.lis_careful.proofs.Cost.{nak_stays}
use Rattle.lis_careful.proofs.laws.nak_stays_nak.Goals as goal

pub returns : goal.returns
returns c = nak_stays
