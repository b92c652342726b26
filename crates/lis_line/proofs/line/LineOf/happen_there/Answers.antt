use Rattle.std.proofs.Common.{IsOk, rules}
use Rattle.lis_line.specs.Events.{station_event}
use Rattle.lis_line.proofs.LineLaws.{happens_there}
use Rattle.lis_line.proofs.line.LineOf.happen_there.Goals as goal

pub returns : goal.returns
returns g c r q near far =
    let is_ok : IsOk c.happen.result = search rules in
    happens_there c.happen.result g.row.N (station_event c.args.event) c.args.self.now c.turn.new.self c.happen.new.self
    _ r q near far c.turn.ensures c.happen.ensures (search rules) is_ok
