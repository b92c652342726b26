use Rattle.lis_station.proofs.Exclusive.{stays_exclusive}
use Rattle.lis_station.proofs.laws.stays_exclusive.Goals as goal

pub returns : goal.returns
returns c = stays_exclusive
