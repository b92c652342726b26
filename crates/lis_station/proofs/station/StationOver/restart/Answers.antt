-- The session is given up, and the receiver is restarted.
use Rattle.std.proofs.Common.{ap, subst, sym, ◌∙◌, false}
use Rattle.lis_link.specs.Receiver.{receiver_restarted}
use Rattle.lis_link.specs.Representation.{IsIn}
use Rattle.lis_station.specs.declared.station.Turn.TheVariants.{Free}
use Rattle.lis_station.specs.Representation.{KeptStation}
use Rattle.lis_station.specs.Station.{StationState}
use Rattle.lis_station.proofs.station.StationOver.restart.Goals as goal

pub returns-clause-state : goal.returns-clause-state
returns-clause-state g c r is_in =
    let given = c.self.view_is ∙ c.give_up.ensures in
    let was = subst (λ (k : KeptStation). IsIn g.row.N k.receiver r) (sym given) is_in in
    let at_rest : KeptStation → StationState = λ k. record {
      role = k.role;
      sender = k.sender;
      receiver = receiver_restarted r;
      turn = Free;
      asks_turn = false;
    } in
    record { receiver_is = c.restart.ensures.state r was; station_is = ap at_rest given }
