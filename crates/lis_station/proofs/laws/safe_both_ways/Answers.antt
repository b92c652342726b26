use Rattle.std.proofs.Common.{arith}
use Rattle.lis_station.proofs.TwoWayLaw.{safe_both_ways}
use Rattle.lis_station.proofs.laws.safe_both_ways.Goals as goal

pub returns : goal.returns
returns c = safe_both_ways 240 (record { at_least = omega arith; at_most = omega arith })
