use Rattle.lis_run.proofs.PlayingLaws.{replay_status}
use Rattle.lis_run.proofs.replay.run_replay_of.Goals as goal

pub returns-clause-status : goal.returns-clause-status
returns-clause-status g c = replay_status g.row.N c.run_lines.result c.run_lines.ensures.ran
