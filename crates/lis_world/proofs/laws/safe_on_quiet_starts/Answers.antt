use Rattle.std.proofs.Common.{arith}
use Rattle.lis_frame.specs.Limit.{IsLimit}
use Rattle.lis_world.specs.Late.{is_empty, is_quiet, is_answered}
use Rattle.lis_world.proofs.LateSafety.{safe_where, empty_starts, quiet_starts, answered_starts}
use Rattle.lis_world.proofs.LateDiscipline.{safe_on_new_lines}
use Rattle.lis_world.proofs.laws.safe_on_quiet_starts.Goals as goal

usual : IsLimit 240
usual = record { at_least = omega arith; at_most = omega arith }

pub returns-clause-empty : goal.returns-clause-empty
returns-clause-empty c = safe_where is_empty 240 usual (empty_starts 240)

pub returns-clause-quiet : goal.returns-clause-quiet
returns-clause-quiet c = safe_where is_quiet 240 usual (quiet_starts 240)

pub returns-clause-answered : goal.returns-clause-answered
returns-clause-answered c = safe_where is_answered 240 usual (answered_starts 240)

pub returns-clause-new_line : goal.returns-clause-new_line
returns-clause-new_line c = safe_on_new_lines 240 usual
