use Rattle.std.proofs.Common.{inr, refl, ◌∙◌}
use Rattle.lis_record_values.proofs.FirstFaults.{some_none}
use Rattle.lis_record.proofs.FaultLaws.{record_fault-IsRecord}
use Rattle.lis_record.proofs.Opening.{same_borrowed}
use Rattle.lis_record.specs.Faults.{record_fault}
use Rattle.lis_record.proofs.reading.read_record.Goals as goal

pub returns-in-Err-clause-only : goal.returns-in-Err-clause-only
returns-in-Err-clause-only c = λ content r other.
    absurd (some_none c.in-Err.fault (record_fault c.args.delimiters.now c.args.text.now) c.in-Err.ensures.fault
    (record_fault-IsRecord c.args.delimiters.now c.args.text.now content other r))

pub returns-in-Ok-to_record-clause-found : goal.returns-in-Ok-to_record-clause-found
returns-in-Ok-to_record-clause-found c = rw c.in-Ok-to_record.ensures (c.in-Ok.ensures.found.1, c.in-Ok.ensures.found.2)

pub returns-in-Ok-to_record-clause-only : goal.returns-in-Ok-to_record-clause-only
returns-in-Ok-to_record-clause-only c = λ content r other.
    c.in-Ok-to_record.ensures ∙ (same_borrowed c.in-Ok.entry c.args.delimiters.now content
    (c.in-Ok.ensures.only content r other)).1

pub returns-in-Err-to_record-clause-fault : goal.returns-in-Err-to_record-clause-fault
returns-in-Err-to_record-clause-fault c = inr (refl, c.in-Ok.ensures.fault)
