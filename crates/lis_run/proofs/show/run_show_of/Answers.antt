use Rattle.lis_run.proofs.ShowLaws.{shown_ran, shown_status}
use Rattle.lis_run.proofs.show.run_show_of.Goals as goal

pub returns-clause-shown : goal.returns-clause-shown
returns-clause-shown g c = shown_ran g.row.N _ _ c.run.result c.run.ensures.ran

pub returns-clause-status : goal.returns-clause-status
returns-clause-status g c = shown_status g.row.N c.run.result c.run.ensures.ran
