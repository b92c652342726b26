use Rattle.lis_record.specs.Borrowed.{borrowed}
use Rattle.lis_table.specs.declared.table.LisPart.{LisPart}
use Rattle.lis_table.specs.Table.{table_of}
use Rattle.lis_c.specs.Parts.{IsDelivered}
use Rattle.lis_c.specs.Records.{delimiters_in}
use Rattle.lis_c.proofs.RecordLaws.{no_fault, of_found}
use Rattle.lis_c.proofs.parts.lis_record_parts.Goals as goal

pub returns-in-Ok-clause-found : goal.returns-in-Ok-clause-found
returns-in-Ok-clause-found c content is_d is_record not_h =
    of_found c.record_under.result c.in-Ok.entry (borrowed (delimiters_in c.args.delimiters.now) content) c.in-Ok.is
    (c.record_under.ensures.only content is_d is_record not_h)
    (λ e. IsDelivered {A = LisPart} (table_of e.delimiters e.content.kind c.args.text.now) c.report_parts.result
    c.args.out.now c.report_parts.new.out c.report_parts.new.count)
    (rw (c.delimiters.ensures, c.kind.ensures) at c.report_parts.ensures)

pub returns-in-Err-clause-found : goal.returns-in-Err-clause-found
returns-in-Err-clause-found c content is_d is_record not_h =
    absurd (no_fault c.record_under.result c.in-Err.fault (borrowed (delimiters_in c.args.delimiters.now) content)
    c.in-Err.is (c.record_under.ensures.only content is_d is_record not_h))
