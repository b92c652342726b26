use Rattle.std.proofs.Common.{◌∙◌, sym}
use Rattle.lis_record.proofs.FaultLaws.{header_fault-empty, header_fault-kind, header_fault-part, header_fault-text}
use Rattle.lis_record.proofs.Opening.{delimiter_part_fault-declares}
use Rattle.lis_record.proofs.reading.open_header.Goals as goal

pub returns-in_default : goal.returns-in_default
returns-in_default c = header_fault-empty c.args.text.now c.in_default.ensures.cases

pub returns-then-not-is_header_letter : goal.returns-then-not-is_header_letter
returns-then-not-is_header_letter c =
    header_fault-kind c.args.text.now c.in-Some.letter.now c.in-Some.part.now c.in-Some.ensures.cases.0
    (sym c.is_header_letter.ensures ∙ c.if-not-is_header_letter.true)

pub returns-in-Err : goal.returns-in-Err
returns-in-Err c =
    header_fault-part c.args.text.now c.in-Some.letter.now c.in-Some.part.now c.in-Err.fault c.in-Some.ensures.cases.0
    (sym c.is_header_letter.ensures ∙ c.if-not-is_header_letter.false) c.in-Err.ensures

pub returns-in-Some-record_text_fault : goal.returns-in-Some-record_text_fault
returns-in-Some-record_text_fault c =
    header_fault-text c.args.text.now c.in-Some.letter.now c.in-Some.part.now c.in-Some-record_text_fault.fault
    c.in-Some.ensures.cases.0 (sym c.is_header_letter.ensures ∙ c.if-not-is_header_letter.false)
    (delimiter_part_fault-declares c.in-Some.part.now _ _ c.in-Ok.ensures)
    (sym c.record_text_fault.ensures ∙ c.in-Some-record_text_fault.is)
