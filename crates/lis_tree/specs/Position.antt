-- Where in an open message the next record will be, as code keeps it.
use Rattle.lis_tree.specs.Level.{Level, in_header, in_patient, in_order, in_query, closed}
use Rattle.std.specs.Prelude.{Option, Some, None}
use Rattle.lis_tree.specs.declared.position.Position.{Position}
use Rattle.lis_tree.specs.declared.position.Position.TheVariants as standings

abbrev pub position_level : Position → Level
position_level standings.InHeader = in_header
position_level standings.InPatient = in_patient
position_level standings.InOrder = in_order
position_level standings.InQuery = in_query

-- the same after a record, which may have closed the message
abbrev pub position_or_closed : Option Position → Level
position_or_closed None = closed
position_or_closed (Some position) = position_level position
