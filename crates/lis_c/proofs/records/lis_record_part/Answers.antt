use Rattle.lis_record.specs.Borrowed.{borrowed}
use Rattle.lis_c.specs.Records.{IsPart, delimiters_in, part_at}
use Rattle.lis_c.proofs.RecordLaws.{no_fault, of_found}
use Rattle.lis_c.proofs.records.lis_record_part.Goals as goal

pub returns-in-Ok-clause-part : goal.returns-in-Ok-clause-part
returns-in-Ok-clause-part c content is_d is_record not_h =
    of_found c.record_under.result c.in-Ok.entry (borrowed (delimiters_in c.args.delimiters.now) content) c.in-Ok.is
    (c.record_under.ensures.only content is_d is_record not_h)
    (λ e. IsPart (part_at e.content c.args.field c.args.repeat c.args.component) c.copy_part.result
    c.args.out.now c.copy_part.new.out c.copy_part.new.size)
    c.copy_part.ensures

pub returns-in-Err-clause-part : goal.returns-in-Err-clause-part
returns-in-Err-clause-part c content is_d is_record not_h =
    absurd (no_fault c.record_under.result c.in-Err.fault (borrowed (delimiters_in c.args.delimiters.now) content)
    c.in-Err.is (c.record_under.ensures.only content is_d is_record not_h))
