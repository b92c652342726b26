-- The step is reported as it was made, or the frame that is rejected.
use Rattle.std.proofs.Common.{take}
use Rattle.lis_link.specs.Receiver.{ReceiverStep}
use Rattle.lis_c.specs.Careful.{heard_set, on_own_bytes, on_station_bytes_set}
use Rattle.lis_c.specs.Stations.{state_of, station_limit}
use Rattle.lis_c.proofs.StationLaws.{reports_made, reports_rejected}
use Rattle.lis_c.proofs.station_state.StationHandleState.hear.Goals as goal

pub returns-clause-step : goal.returns-clause-step
returns-clause-step c r is fine =
    let old = c.args.self.now in
    let heard = c.bytes_set-count in
    reports_made old c.report.new.self heard.new.self heard.new.out c.report.new.out
    (on_station_bytes_set (station_limit old.station) old.careful c.args.bytes.now (state_of old.station r)).step
    heard.result.2 (heard.ensures.step r is) (record {
      reports = c.report.ensures.reported;
      sends_is = c.report.ensures.sends;
      state = c.report.ensures.state;
      limit_is = heard.ensures.limit;
      room_stays = c.report.ensures.spare;
    }) c.report.ensures.same c.report.ensures.limit fine

pub returns-clause-refused : goal.returns-clause-refused
returns-clause-refused c r is =
    let old = c.args.self.now in
    let heard = c.bytes_set-count in
    let step : ReceiverStep = (on_own_bytes old.careful (station_limit old.station) c.args.bytes.now r).step in
    reports_rejected old c.report.new.self heard.new.self heard.new.out c.report.new.out
    step (heard_set old.careful step (take heard.result.0 c.args.bytes.now) r) heard.result.2
    (heard.ensures.refused r is) (record {
      reports = c.report.ensures.reported;
      sends_is = c.report.ensures.sends;
      state = c.report.ensures.state;
      limit_is = heard.ensures.limit;
      room_stays = c.report.ensures.spare;
    })
