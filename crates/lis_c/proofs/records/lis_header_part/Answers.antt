use Rattle.lis_record.specs.Borrowed.{borrowed}
use Rattle.lis_c.specs.Records.{IsPart, part_at}
use Rattle.lis_c.proofs.RecordLaws.{no_fault, of_found}
use Rattle.lis_c.proofs.records.lis_header_part.Goals as goal

pub returns-in-Ok-clause-part : goal.returns-in-Ok-clause-part
returns-in-Ok-clause-part c d content is_d is_record is_h =
    of_found c.borrow_header.result c.in-Ok.header (borrowed d content) c.in-Ok.is
    (c.borrow_header.ensures.only d content is_d is_record is_h)
    (λ e. IsPart (part_at e.content c.args.field c.args.repeat c.args.component) c.copy_part.result
    c.args.out.now c.copy_part.new.out c.copy_part.new.size)
    c.copy_part.ensures

pub returns-in-Err-clause-part : goal.returns-in-Err-clause-part
returns-in-Err-clause-part c d content is_d is_record is_h =
    absurd (no_fault c.borrow_header.result c.in-Err.fault (borrowed d content) c.in-Err.is
    (c.borrow_header.ensures.only d content is_d is_record is_h))
