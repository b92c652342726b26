use Rattle.std.proofs.Common.{refl}
use Rattle.lis_run.specs.Replay.{texts_writes}
use Rattle.lis_run.proofs.CaptureLaws.{report_status}
use Rattle.lis_run.proofs.texts.run_texts_of.Goals as goal

pub returns-clause-status : goal.returns-clause-status
returns-clause-status g c =
    report_status (texts_writes g.row.N) c.run_lines.result (λ lines. refl) c.run_lines.ensures.ran
