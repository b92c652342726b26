use Rattle.lis_record_values.proofs.FirstFaults.{some_none}
use Rattle.lis_record.proofs.FaultLaws.{header_fault-IsRecord}
use Rattle.lis_record.proofs.Opening.{header_fault-opened, borrowed_header_found, borrowed_header_only}
use Rattle.lis_record.proofs.Opening.{borrowed_header_placed}
use Rattle.lis_record.specs.Faults.{header_fault}
use Rattle.lis_record.proofs.reading.borrow_searched_header.Goals as goal

pub returns-in-Err-clause-only : goal.returns-in-Err-clause-only
returns-in-Err-clause-only c = λ d content good r is_header.
    absurd (some_none c.in-Err.fault (header_fault c.args.text.now) c.in-Err.ensures
    (header_fault-IsRecord d good c.args.text.now content is_header r))

pub returns-in-Ok-clause-found : goal.returns-in-Ok-clause-found
returns-in-Ok-clause-found c = borrowed_header_found c.args.text.now c.in-Ok.found.0 c.in-Ok.found.1.now c.in-Ok.ensures
    c.of_parts.result c.of_parts.ensures

pub returns-in-Ok-clause-only : goal.returns-in-Ok-clause-only
returns-in-Ok-clause-only c = λ d content good r is_header. borrowed_header_only c.args.text.now c.in-Ok.found.0
    c.in-Ok.found.1.now c.in-Ok.ensures c.of_parts.result c.of_parts.ensures d content r

pub returns-in-Ok-clause-fault : goal.returns-in-Ok-clause-fault
returns-in-Ok-clause-fault c = header_fault-opened c.args.text.now c.in-Ok.found.0 c.in-Ok.found.1.now c.in-Ok.ensures

pub returns-in-Ok-clause-place : goal.returns-in-Ok-clause-place
returns-in-Ok-clause-place c = borrowed_header_placed c.args.text.now c.in-Ok.found.0 c.in-Ok.found.1.now
    c.in-Ok.ensures
    c.of_parts.result c.of_parts.ensures
