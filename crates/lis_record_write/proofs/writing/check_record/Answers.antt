use Rattle.std.proofs.Common.{◌∙◌, sym, append-nil}
use Rattle.lis_record_write.specs.Encoding.{encoded}
use Rattle.lis_record_write.proofs.ReadBack.{IsRecord-encoded}
use Rattle.lis_record_write.proofs.WriteLaws.{check_fault-char, check_fault-long, check_fault-none, within_false}
use Rattle.lis_record_write.proofs.WriteLaws.{within_true}
use Rattle.lis_record_write.proofs.writing.check_record.Goals as goal

pub returns-in-Some-clause-fault : goal.returns-in-Some-clause-fault
returns-in-Some-clause-fault c = check_fault-char c.args.delimiters.now c.args.entry.now c.in-Some.number
    (sym c.bad_field_number.ensures.number ∙ c.in-Some.is)

pub returns-then-not-is_within-clause-fault : goal.returns-then-not-is_within-clause-fault
returns-then-not-is_within-clause-fault c =
    let text = encoded c.args.delimiters.now c.args.entry.now in
    check_fault-long c.args.delimiters.now c.args.entry.now (sym c.bad_field_number.ensures.number ∙ c.in_default.is)
    (within_false c.is_within.result _ text c.is_within.ensures
    (c.begin_record-cursor.ensures.whole ∙ append-nil text) c.if-not-is_within.true)

pub returns-clause-fault : goal.returns-clause-fault
returns-clause-fault c =
    let text = encoded c.args.delimiters.now c.args.entry.now in
    check_fault-none c.args.delimiters.now c.args.entry.now (sym c.bad_field_number.ensures.number ∙ c.in_default.is)
    (within_true c.is_within.result _ text c.is_within.ensures (c.begin_record-cursor.ensures.whole ∙ append-nil text)
    c.if-not-is_within.false)

pub returns-clause-related : goal.returns-clause-related
returns-clause-related c =
    let text = encoded c.args.delimiters.now c.args.entry.now in
    IsRecord-encoded c.args.delimiters.now c.field.ensures.shape c.args.entry.now c.bad_field_number.ensures.shape
    (check_fault-none c.args.delimiters.now c.args.entry.now (sym c.bad_field_number.ensures.number ∙ c.in_default.is)
    (within_true c.is_within.result _ text c.is_within.ensures (c.begin_record-cursor.ensures.whole ∙ append-nil text)
    c.if-not-is_within.false))
