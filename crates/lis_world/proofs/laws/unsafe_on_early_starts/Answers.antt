use Rattle.lis_world.proofs.LateRows.{not_at_any_time, not_after_a_unit, not_before_a_reply}
use Rattle.lis_world.proofs.laws.unsafe_on_early_starts.Goals as goal

pub returns-clause-any_time : goal.returns-clause-any_time
returns-clause-any_time c = not_at_any_time

pub returns-clause-unit : goal.returns-clause-unit
returns-clause-unit c = not_after_a_unit

pub returns-clause-reply : goal.returns-clause-reply
returns-clause-reply c = not_before_a_reply
