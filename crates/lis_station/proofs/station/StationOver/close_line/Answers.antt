-- Only the receiver and the request have changed; the receiver is as ready as it was.
use Rattle.std.proofs.Common.{ap, subst}
use Rattle.lis_text.specs.declared.readiness.Readiness.{Readiness}
use Rattle.lis_link.specs.Receiver.{receiver_restarted, with_readiness}
use Rattle.lis_link.specs.Representation.{IsIn}
use Rattle.lis_station.specs.Representation.{KeptStation, station_at}
use Rattle.lis_station.specs.Station.{line_closed}
use Rattle.lis_station.proofs.station.StationOver.close_line.Goals as goal

pub returns-clause-state : goal.returns-clause-state
returns-clause-state g c r is_in =
    let was = rw (← c.self.view_is) at is_in in
    record {
      receiver_is =
          subst (λ (x : Readiness). IsIn g.row.N c.set_ready.new.self (with_readiness x (receiver_restarted r)))
          (c.readiness-readiness.ensures r was)
          (c.set_ready.ensures.state (receiver_restarted r) (c.restart.ensures.state r was));
      station_is = ap (λ (k : KeptStation). line_closed (station_at k r)) c.self.view_is;
    }
