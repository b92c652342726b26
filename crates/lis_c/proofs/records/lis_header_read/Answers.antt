use Rattle.std.proofs.Common.{ap, subst, ◌∙◌}
use Rattle.lis_record.specs.Borrowed.{borrowed}
use Rattle.lis_c.specs.Records.{ReportsRecord}
use Rattle.lis_c.proofs.RecordLaws.{found_is, no_fault}
use Rattle.lis_c.proofs.records.lis_header_read.Goals as goal

pub returns-in-Ok-clause-found : goal.returns-in-Ok-clause-found
returns-in-Ok-clause-found c d content is_d is_record is_h =
    let same =
    found_is c.borrow_header.result c.in-Ok.entry (borrowed d content) c.in-Ok.is
    (c.borrow_header.ensures.only d content is_d is_record is_h) in (
      subst (λ e. ReportsRecord e.content c.report.result c.report.new.out) same c.report.ensures,
      c.report_delimiters.ensures ∙ c.delimiters-declared.ensures ∙ ap (λ e. e.delimiters) same,
    )

pub returns-in-Err-clause-found : goal.returns-in-Err-clause-found
returns-in-Err-clause-found c d content is_d is_record is_h =
    absurd (no_fault c.borrow_header.result c.in-Err.fault (borrowed d content) c.in-Err.is
    (c.borrow_header.ensures.only d content is_d is_record is_h))
