use Rattle.lis_world.specs.Late.{is_empty, is_quiet, is_answered}
use Rattle.lis_world.proofs.LateSafety.{empty_starts, quiet_starts, answered_starts}
use Rattle.lis_world.proofs.LateCarrying.{carries_on_new_line, carries_on_new_lines, quiet_where_empty}
use Rattle.lis_world.proofs.LateCarrying.{answered_where_empty}
use Rattle.lis_world.proofs.laws.carries_on_new_line_of.Goals as goal

pub returns-clause-empty : goal.returns-clause-empty
returns-clause-empty g c = carries_on_new_line is_empty g.row.N c.requires (empty_starts g.row.N) (λ w empty. empty)

pub returns-clause-quiet : goal.returns-clause-quiet
returns-clause-quiet g c = carries_on_new_line is_quiet g.row.N c.requires (quiet_starts g.row.N) quiet_where_empty

pub returns-clause-answered : goal.returns-clause-answered
returns-clause-answered g c =
    carries_on_new_line is_answered g.row.N c.requires (answered_starts g.row.N) answered_where_empty

pub returns-clause-new_line : goal.returns-clause-new_line
returns-clause-new_line g c = carries_on_new_lines g.row.N c.requires
