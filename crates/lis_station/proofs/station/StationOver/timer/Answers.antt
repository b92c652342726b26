-- The receiver's timer ran out, or the sender's.
use Rattle.std.proofs.Common.{◌≡◌, true, false, refl, ap, sym, ◌∙◌, subst}
use Rattle.lis_station.specs.declared.station.AnswerOf.TheVariants.{Emits, Hears}
use Rattle.lis_station.specs.Representation.{KeptStation, station_at, IsAnswer}
use Rattle.lis_station.specs.Station.{timed_by}
use Rattle.lis_station.proofs.Answering.{heard_made}
use Rattle.lis_station.proofs.station.StationOver.timer.Goals as goal

pub returns-then-is_open-clause-step : goal.returns-then-is_open-clause-step
returns-then-is_open-clause-step g c r is_in =
    let was = rw (← c.self.view_is) at is_in in
    let opened : r.is_open ≡ true = sym (c.is_open.ensures r was) ∙ c.if-is_open.true in
    let old : KeptStation = record {
      role = c.self.inside.role;
      sender = c.self.inside.sender;
      receiver = c.self.inside.receiver;
      turn = c.self.inside.turn;
      asks_turn = c.self.inside.asks_turn;
    } in
    rw (← c.self.view_is)
    (subst (λ o. IsAnswer g.row.N old (timed_by {limit = g.row.N} o (station_at old r)) (Hears c.heard.result)
    c.heard.new.self) (sym opened)
    (heard_made g.row.N old c.heard.new.self c.timer-step.new.self _ r c.timer-step.result c.heard.result
    c.heard.ensures.step c.heard.ensures.after (c.timer-step.ensures.step r was)))

pub returns-clause-step : goal.returns-clause-step
returns-clause-step g c r is_in =
    let was = rw (← c.self.view_is) at is_in in
    let closed : r.is_open ≡ false = sym (c.is_open.ensures r was) ∙ c.if-is_open.false in
    let old : KeptStation = record {
      role = c.self.inside.role;
      sender = c.self.inside.sender;
      receiver = c.self.inside.receiver;
      turn = c.self.inside.turn;
      asks_turn = c.self.inside.asks_turn;
    } in
    rw (← c.self.view_is)
    (subst (λ o. IsAnswer g.row.N old (timed_by {limit = g.row.N} o (station_at old r)) (Emits c.timer.result)
    (record old { sender = c.timer.new.self })) (sym closed)
    (record {
      answers = (c.timer.ensures.emit, refl);
      station_is = ap (λ s. station_at (record old { sender = s }) r) c.timer.ensures.after;
    }))
