use Rattle.lis_careful_station.proofs.Pinned as pinned
use Rattle.lis_careful_station.proofs.laws.is_as_pinned.Goals as goal

pub returns : goal.returns
returns c = pinned.is_as_pinned
