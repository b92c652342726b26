use Rattle.lis_record.specs.Borrowed.{borrowed}
use Rattle.lis_c.specs.Records.{ReportsRecord, delimiters_in}
use Rattle.lis_c.proofs.RecordLaws.{no_fault, of_found}
use Rattle.lis_c.proofs.records.lis_record_read.Goals as goal

pub returns-in-Ok-clause-found : goal.returns-in-Ok-clause-found
returns-in-Ok-clause-found c content is_d is_record not_h =
    of_found c.record_under.result c.in-Ok.entry (borrowed (delimiters_in c.args.delimiters.now) content) c.in-Ok.is
    (c.record_under.ensures.only content is_d is_record not_h)
    (λ e. ReportsRecord e.content c.report.result c.report.new.out) c.report.ensures

pub returns-in-Err-clause-found : goal.returns-in-Err-clause-found
returns-in-Err-clause-found c content is_d is_record not_h =
    absurd (no_fault c.record_under.result c.in-Err.fault (borrowed (delimiters_in c.args.delimiters.now) content)
    c.in-Err.is (c.record_under.ensures.only content is_d is_record not_h))
