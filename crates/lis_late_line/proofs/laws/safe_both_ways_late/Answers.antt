use Rattle.std.proofs.Common.{arith}
use Rattle.lis_late_line.proofs.LateLaw.{safe_on_new_lines, safe_on_quiet_lines}
use Rattle.lis_late_line.proofs.laws.safe_both_ways_late.Goals as goal

pub returns-clause-new_line : goal.returns-clause-new_line
returns-clause-new_line c = safe_on_new_lines 240 (record { at_least = omega arith; at_most = omega arith })

pub returns-clause-quiet : goal.returns-clause-quiet
returns-clause-quiet c = safe_on_quiet_lines 240 (record { at_least = omega arith; at_most = omega arith })
