-- Only the receiver's readiness has changed.
use Rattle.std.proofs.Common.{ap, subst}
use Rattle.lis_text.specs.declared.readiness.Readiness.{Readiness}
use Rattle.lis_link.specs.Receiver.{with_readiness}
use Rattle.lis_link.specs.Representation.{IsIn}
use Rattle.lis_station.specs.Representation.{KeptStation, station_at}
use Rattle.lis_station.specs.Station.{readied}
use Rattle.lis_station.proofs.station.StationOver.set_ready.Goals as goal

pub returns-clause-state : goal.returns-clause-state
returns-clause-state g c r is_in =
    let was = rw (← c.self.view_is) at is_in in
    record {
      receiver_is =
          subst (λ (x : Readiness). IsIn g.row.N c.set_ready.new.self (with_readiness x r)) c.readiness_of.ensures
          (c.set_ready.ensures.state r was);
      station_is = ap (λ (k : KeptStation). readied c.args.ready (station_at k r)) c.self.view_is;
    }
