use Rattle.lis_late_line.proofs.LateRows.{not_starts_alone, not_waits_alone, not_but_after_nak}
use Rattle.lis_late_line.proofs.laws.unsafe_on_old_lines.Goals as goal

pub returns-clause-waits : goal.returns-clause-waits
returns-clause-waits c = not_starts_alone

pub returns-clause-starts : goal.returns-clause-starts
returns-clause-starts c = not_waits_alone

pub returns-clause-nak : goal.returns-clause-nak
returns-clause-nak c = not_but_after_nak
