use Rattle.lis_station.proofs.LeftOutRows.{needs_free_start, needs_free_asking, needs_ending, needs_timer, needs_wait}
use Rattle.lis_station.proofs.LeftOutRows.{needs_restart}
use Rattle.lis_station.proofs.laws.unsafe_without.Goals as goal

pub returns-clause-starts : goal.returns-clause-starts
returns-clause-starts c = needs_free_start

pub returns-clause-again : goal.returns-clause-again
returns-clause-again c = needs_free_asking

pub returns-clause-ending : goal.returns-clause-ending
returns-clause-ending c = needs_ending

pub returns-clause-timer : goal.returns-clause-timer
returns-clause-timer c = needs_timer

pub returns-clause-wait : goal.returns-clause-wait
returns-clause-wait c = needs_wait

pub returns-clause-restart : goal.returns-clause-restart
returns-clause-restart c = needs_restart
