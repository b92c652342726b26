use Rattle.lis_careful_line.proofs.LateHistories.{histories_on_new_lines, histories_on_quiet_lines}
use Rattle.lis_careful_line.proofs.LateHistories.{safe_carefully_on_new_lines, safe_carefully_on_quiet_lines}
use Rattle.lis_careful_line.proofs.laws.safe_carefully_both_ways_late_of.Goals as goal

pub returns-clause-new_line_history : goal.returns-clause-new_line_history
returns-clause-new_line_history g c = histories_on_new_lines g.row.N c.requires

pub returns-clause-quiet_history : goal.returns-clause-quiet_history
returns-clause-quiet_history g c = histories_on_quiet_lines g.row.N c.requires

pub returns-clause-new_line : goal.returns-clause-new_line
returns-clause-new_line g c = safe_carefully_on_new_lines g.row.N c.requires

pub returns-clause-quiet : goal.returns-clause-quiet
returns-clause-quiet g c = safe_carefully_on_quiet_lines g.row.N c.requires
