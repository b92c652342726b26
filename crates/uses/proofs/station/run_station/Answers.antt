use Rattle.std.proofs.Common.{arith, rules}
use Rattle.uses.proofs.StationLaws.{run_begun, run_ended, run_goes_on, run_given_up}
use Rattle.uses.proofs.station.run_station.Goals as goal

pub loop-turn-init : goal.loop-turn-init
loop-turn-init g c = λ s is. run_begun s _ _ is

pub returns-in-Some : goal.returns-in-Some
returns-in-Some g c = λ s is.
    run_ended s _ (g.H.Connection.event_log c.loop-turn.host) (g.H.Connection.event_log c.wait-event.new.self) _
    c.loop-turn._turn c.loop-turn.station c.take_event.new.station c.wait-event.result c.in-Some.ran
    (c.loop-turn.invariant s is) c.loop-turn-test.true c.wait-event.ensures c.in-Some.ensures

pub loop-turn-preserved : goal.loop-turn-preserved
loop-turn-preserved g c = λ s is.
    run_goes_on s _ (g.H.Connection.event_log c.loop-turn.host) (g.H.Connection.event_log c.wait-event.new.self) _
    c.loop-turn._turn c.loop-turn.station c.take_event.new.station c.wait-event.result (c.loop-turn.invariant s is)
    c.wait-event.ensures (search rules)

pub returns : goal.returns
returns g c = λ s is.
    run_given_up s _ _ c.loop-turn._turn c.loop-turn.station (c.loop-turn.invariant s is)
    (omega (arith, c.loop-turn-test.false, c.loop-turn.auto._turn-end))
