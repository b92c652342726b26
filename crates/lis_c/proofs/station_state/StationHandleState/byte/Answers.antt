-- A frame that is rejected is reported as it is, and the room after the step is at least what the station left.
use Rattle.lis_station.specs.Station.{taken_by}
use Rattle.lis_link.specs.Receiver.{ReceiverStep}
use Rattle.lis_c.specs.Careful.{heard_set, on_own_byte, on_station_byte_set}
use Rattle.lis_c.specs.Stations.{state_of, station_limit, station_spare}
use Rattle.std.proofs.Common.{◌∷◌, []}
use Rattle.lis_c.proofs.StationLaws.{reports_rejected}
use Rattle.lis_c.proofs.StepLaws.{with_more}
use Rattle.lis_c.proofs.station_state.StationHandleState.byte.Goals as goal

pub returns-clause-refused : goal.returns-clause-refused
returns-clause-refused c r is =
    let old = c.args.self.now in
    let step : ReceiverStep = on_own_byte old.careful (station_limit old.station) c.args.byte r in
    let left = record c.report.new.self { noise = c.saturating_add-self.result } in
    reports_rejected old left c.byte_set-step.new.self c.byte_set-step.new.out c.report.new.out
    step (heard_set old.careful step (c.args.byte ∷ []) r) c.byte_set-step.result
    (c.byte_set-step.ensures.refused r is) (record {
      reports = c.report.ensures.reported;
      sends_is = c.report.ensures.sends;
      state = c.report.ensures.state;
      limit_is = c.byte_set-step.ensures.limit;
      room_stays = c.report.ensures.spare;
    })

pub returns-clause-spare : goal.returns-clause-spare
returns-clause-spare c r is =
    let old = c.args.self.now in
    with_more (station_spare old.station) (station_spare c.byte_set-step.new.self)
    (station_spare c.report.new.self.station)
    (taken_by (on_station_byte_set (station_limit old.station) old.careful c.args.byte
    (state_of old.station r)).answer) (c.byte_set-step.ensures.spare r is) c.report.ensures.spare
