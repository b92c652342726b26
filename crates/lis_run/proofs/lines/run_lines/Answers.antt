use Rattle.lis_run.proofs.CaptureLaws.{capture_ran}
use Rattle.lis_run.proofs.lines.run_lines.Goals as goal

pub returns-clause-ran : goal.returns-clause-ran
returns-clause-ran g c =
    capture_ran g.C.LineMachine.takes_memory g.C.LineMachine.writes _ (λ bytes ended o meant. meant) _ _ c.run.result
    c.run.ensures.ran
