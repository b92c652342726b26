use Rattle.std.proofs.Common.{inr, refl, ◌∙◌}
use Rattle.lis_record_values.proofs.FirstFaults.{some_none}
use Rattle.lis_record.proofs.FaultLaws.{header_fault-IsRecord}
use Rattle.lis_record.proofs.Opening.{same_borrowed}
use Rattle.lis_record.specs.Faults.{header_fault}
use Rattle.lis_record.proofs.reading.read_header.Goals as goal

pub returns-in-Err-clause-only : goal.returns-in-Err-clause-only
returns-in-Err-clause-only c = λ d content good r is_header.
    absurd (some_none c.in-Err.fault (header_fault c.args.text.now) c.in-Err.ensures.fault
    (header_fault-IsRecord d good c.args.text.now content is_header r))

pub returns-in-Ok-to_record-clause-found : goal.returns-in-Ok-to_record-clause-found
returns-in-Ok-to_record-clause-found c = rw (c.delimiters.ensures, c.in-Ok-to_record.ensures) c.in-Ok.ensures.found

pub returns-in-Ok-to_record-clause-only : goal.returns-in-Ok-to_record-clause-only
returns-in-Ok-to_record-clause-only c = λ d content good r is_header.
    let same = same_borrowed c.in-Ok.entry d content (c.in-Ok.ensures.only d content good r is_header) in
    (c.delimiters.ensures ∙ same.0, c.in-Ok-to_record.ensures ∙ same.1)

pub returns-in-Err-to_record-clause-fault : goal.returns-in-Err-to_record-clause-fault
returns-in-Err-to_record-clause-fault c = inr (refl, c.in-Ok.ensures.fault)
