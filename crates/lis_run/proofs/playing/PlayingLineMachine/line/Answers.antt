use Rattle.std.proofs.Common.{refl}
use Rattle.lis_capture.specs.declared.line.Line.TheVariants.{Empty, Restart, SetReady, Timer, Version}
use Rattle.lis_run.specs.Replay.{played}
use Rattle.lis_run.proofs.PlayingLaws.{played_silent}
use Rattle.lis_run.proofs.playing.PlayingLineMachine.line.Goals as goal

pub returns-in-Empty-clause-steps : goal.returns-in-Empty-clause-steps
returns-in-Empty-clause-steps g c = λ lines playing number few.
    rw c.in-Empty.is (played_silent playing Empty _ (λ n p. refl) c.requires playing.receiver_is)

pub returns-in-Version-clause-steps : goal.returns-in-Version-clause-steps
returns-in-Version-clause-steps g c = λ lines playing number few.
    rw c.in-Version.is (played_silent playing Version _ (λ n p. refl) c.requires playing.receiver_is)

pub returns-in-Timer-clause-steps : goal.returns-in-Timer-clause-steps
returns-in-Timer-clause-steps g c = λ lines playing number few.
    let step = c.timer.ensures.step (played g.row.N lines).receiver playing.receiver_is in
    rw c.in-Timer.is (played_silent playing Timer _ (λ n p. refl) c.requires step.state)

pub returns-in-Restart-clause-steps : goal.returns-in-Restart-clause-steps
returns-in-Restart-clause-steps g c = λ lines playing number few.
    let state = c.restart.ensures.state (played g.row.N lines).receiver playing.receiver_is in
    rw c.in-Restart.is (played_silent playing Restart _ (λ n p. refl) c.requires state)

pub returns-in-SetReady-clause-steps : goal.returns-in-SetReady-clause-steps
returns-in-SetReady-clause-steps g c = λ lines playing number few.
    let state = c.set_ready.ensures.state (played g.row.N lines).receiver playing.receiver_is in
    rw c.in-SetReady.is
    (played_silent playing (SetReady c.in-SetReady.readiness) _ (λ n p. refl) c.requires state)
