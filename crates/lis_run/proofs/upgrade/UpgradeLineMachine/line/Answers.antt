use Rattle.std.proofs.Common.{false}
use Rattle.lis_capture.specs.Encoding.{added_encoding}
use Rattle.lis_engine.proofs.OutputLaws.{put_on}
use Rattle.lis_run.specs.Upgrade.{opening}
use Rattle.lis_run.proofs.StepLaws.{put_steps}
use Rattle.lis_run.proofs.upgrade.UpgradeLineMachine.line.Goals as goal

pub returns-clause-steps : goal.returns-clause-steps
returns-clause-steps g c = λ lines represented number few.
    put_steps false _ _ _ c.put_added.result
    (put_on _ _ _ c.put_added.result (opening lines) (added_encoding c.args.line.now)
    (c.in_ok-open.ensures.put lines represented) c.put_added.ensures)
    c.open.ensures.begun
