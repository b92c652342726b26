-- Only the receiver has changed.
use Rattle.std.proofs.Common.{ap}
use Rattle.lis_station.specs.Representation.{KeptStation, station_at}
use Rattle.lis_station.proofs.station.StationOver.reuse.Goals as goal

pub returns-clause-state : goal.returns-clause-state
returns-clause-state g c r is_in =
    let was = rw (← c.self.view_is) at is_in in
    record {
      receiver_is = c.reuse.ensures.state r was;
      station_is = ap (λ (k : KeptStation). station_at k r) c.self.view_is;
    }
