use Rattle.std.proofs.Common.{refl}
use Rattle.lis_run.specs.Upgrade.{upgrade_writes}
use Rattle.lis_run.proofs.CaptureLaws.{report_status}
use Rattle.lis_run.proofs.upgrade.run_upgrade.Goals as goal

pub returns-clause-status : goal.returns-clause-status
returns-clause-status g c = report_status upgrade_writes c.run_lines.result (λ lines. refl) c.run_lines.ensures.ran
