use Rattle.lis_record.specs.Borrowed.{borrowed}
use Rattle.lis_c.proofs.RecordLaws.{no_fault}
use Rattle.lis_c.proofs.parts.lis_header_parts.Goals as goal

pub returns-in-Err-clause-found : goal.returns-in-Err-clause-found
returns-in-Err-clause-found c d content is_d is_record is_h =
    absurd (no_fault c.borrow_header.result c.in-Err.fault (borrowed d content) c.in-Err.is
    (c.borrow_header.ensures.only d content is_d is_record is_h))
