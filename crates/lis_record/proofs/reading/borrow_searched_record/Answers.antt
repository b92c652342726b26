use Rattle.lis_record_values.proofs.FirstFaults.{some_none}
use Rattle.lis_record.proofs.FaultLaws.{record_fault-IsRecord}
use Rattle.lis_record.proofs.Opening.{borrowed_found, borrowed_only, borrowed_placed, record_fault-opened}
use Rattle.lis_record.specs.Faults.{record_fault}
use Rattle.lis_record.proofs.reading.borrow_searched_record.Goals as goal

pub returns-in-Err-clause-only : goal.returns-in-Err-clause-only
returns-in-Err-clause-only c = λ content r other.
    absurd (some_none c.in-Err.fault (record_fault c.args.delimiters.now c.args.text.now) c.in-Err.ensures.opened
    (record_fault-IsRecord c.args.delimiters.now c.args.text.now content other r))

pub returns-in-Ok-clause-found : goal.returns-in-Ok-clause-found
returns-in-Ok-clause-found c = borrowed_found c.args.delimiters.now c.in-Ok.ensures.shape c.args.text.now _ _
    c.in-Ok.ensures.opened c.of_parts.result c.of_parts.ensures

pub returns-in-Ok-clause-only : goal.returns-in-Ok-clause-only
returns-in-Ok-clause-only c = λ content r other.
    borrowed_only c.args.delimiters.now c.in-Ok.ensures.shape c.args.text.now _ _ c.in-Ok.ensures.opened
    c.of_parts.result
    c.of_parts.ensures content r

pub returns-in-Ok-clause-fault : goal.returns-in-Ok-clause-fault
returns-in-Ok-clause-fault c = record_fault-opened c.args.delimiters.now c.in-Ok.ensures.shape c.args.text.now _ _
    c.in-Ok.ensures.opened

pub returns-in-Ok-clause-place : goal.returns-in-Ok-clause-place
returns-in-Ok-clause-place c = borrowed_placed c.args.delimiters.now c.in-Ok.ensures.shape c.args.text.now _ _
    c.in-Ok.ensures.opened c.of_parts.result c.of_parts.ensures
