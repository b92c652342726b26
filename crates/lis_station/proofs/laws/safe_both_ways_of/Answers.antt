use Rattle.lis_station.proofs.TwoWayLaw.{safe_both_ways}
use Rattle.lis_station.proofs.laws.safe_both_ways_of.Goals as goal

pub returns : goal.returns
returns g c = safe_both_ways g.row.N c.requires
