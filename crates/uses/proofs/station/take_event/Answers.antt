use Rattle.std.proofs.Common.{rules}
use Rattle.uses.proofs.StationLaws.{was_closed_turn, was_heard_turn, was_sent_turn}
use Rattle.uses.proofs.station.take_event.Goals as goal

pub returns-in_default : goal.returns-in_default
returns-in_default g c = λ s is.
    was_closed_turn c.args.event s _ c.args.station.now c.answer_at.new.station c.in_default.ensures.0
    c.in_default.ensures.1 is

pub returns-in-Hears : goal.returns-in-Hears
returns-in-Hears g c = λ s is.
    was_heard_turn c.args.event s _ _ c.args.station.now c.answer_at.new.station c.take_step.new.station c.in-Hears.step
    c.take_step.result c.in-Some.ensures.0 (rw c.in-Hears.is at c.in-Some.ensures.1) c.take_step.ensures is

pub returns-in-Emits : goal.returns-in-Emits
returns-in-Emits g c = λ s is.
    was_sent_turn c.args.event s _ _ _ c.args.station.now c.answer_at.new.station c.in-Emits.emit
    c.timer_seconds.result c.over_by.result c.in-Some.ensures.0 (rw c.in-Emits.is at c.in-Some.ensures.1)
    c.timer_seconds.ensures c.put.ensures c.start_timer.ensures (search rules) is
