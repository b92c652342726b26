use Rattle.lis_late_line.proofs.LateLaw.{safe_on_new_lines, safe_on_quiet_lines}
use Rattle.lis_late_line.proofs.laws.safe_both_ways_late_of.Goals as goal

pub returns-clause-new_line : goal.returns-clause-new_line
returns-clause-new_line g c = safe_on_new_lines g.row.N c.requires

pub returns-clause-quiet : goal.returns-clause-quiet
returns-clause-quiet g c = safe_on_quiet_lines g.row.N c.requires
