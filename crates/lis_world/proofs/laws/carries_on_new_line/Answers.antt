use Rattle.std.proofs.Common.{arith}
use Rattle.lis_frame.specs.Limit.{IsLimit}
use Rattle.lis_world.specs.Late.{is_empty, is_quiet, is_answered}
use Rattle.lis_world.proofs.LateSafety.{empty_starts, quiet_starts, answered_starts}
use Rattle.lis_world.proofs.LateCarrying.{carries_on_new_line, carries_on_new_lines, quiet_where_empty}
use Rattle.lis_world.proofs.LateCarrying.{answered_where_empty}
use Rattle.lis_world.proofs.laws.carries_on_new_line.Goals as goal

usual : IsLimit 240
usual = record { at_least = omega arith; at_most = omega arith }

pub returns-clause-empty : goal.returns-clause-empty
returns-clause-empty c = carries_on_new_line is_empty 240 usual (empty_starts 240) (λ w empty. empty)

pub returns-clause-quiet : goal.returns-clause-quiet
returns-clause-quiet c = carries_on_new_line is_quiet 240 usual (quiet_starts 240) quiet_where_empty

pub returns-clause-answered : goal.returns-clause-answered
returns-clause-answered c = carries_on_new_line is_answered 240 usual (answered_starts 240) answered_where_empty

pub returns-clause-new_line : goal.returns-clause-new_line
returns-clause-new_line c = carries_on_new_lines 240 usual
