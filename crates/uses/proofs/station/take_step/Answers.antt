use Rattle.uses.proofs.StationLaws.{was_kept, was_not_kept}
use Rattle.uses.proofs.station.take_step.Goals as goal

pub returns-then-not-keep : goal.returns-then-not-keep
returns-then-not-keep g c = λ s is.
    was_not_kept s c.args.step _ _ _ c.args.station.now c.close_line.new.self c.timer_seconds-then-not-keep.result
    c.in-Some.text c.in-Some.is c.close_line.ensures.state c.timer_seconds-then-not-keep.ensures
    (rw c.if-not-keep.true at c.keep.ensures) c.start_timer.ensures is

pub returns : goal.returns
returns g c = λ s is.
    was_kept s c.args.step _ _ _ c.args.station.now c.timer_seconds-2.result c.in-Some.text c.in-Some.is
    c.timer_seconds-2.ensures (rw c.if-not-keep.false at c.keep.ensures) c.reply_and_time-2.ensures is
