use Rattle.lis_world.specs.Late.{is_empty, is_quiet, is_answered}
use Rattle.lis_world.proofs.LateSafety.{safe_where, empty_starts, quiet_starts, answered_starts}
use Rattle.lis_world.proofs.LateDiscipline.{safe_on_new_lines}
use Rattle.lis_world.proofs.laws.safe_on_quiet_starts_of.Goals as goal

pub returns-clause-empty : goal.returns-clause-empty
returns-clause-empty g c = safe_where is_empty g.row.N c.requires (empty_starts g.row.N)

pub returns-clause-quiet : goal.returns-clause-quiet
returns-clause-quiet g c = safe_where is_quiet g.row.N c.requires (quiet_starts g.row.N)

pub returns-clause-answered : goal.returns-clause-answered
returns-clause-answered g c = safe_where is_answered g.row.N c.requires (answered_starts g.row.N)

pub returns-clause-new_line : goal.returns-clause-new_line
returns-clause-new_line g c = safe_on_new_lines g.row.N c.requires
