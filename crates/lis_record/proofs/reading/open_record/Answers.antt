use Rattle.std.proofs.Common.{ℕ, ap, ◌∙◌, sym}
use Rattle.lis_record_values.specs.Text.{trailing_byte}
use Rattle.lis_record.proofs.FaultLaws.{record_fault-empty, record_fault-kind, record_fault-text, record_fault-trailing}
use Rattle.lis_record.proofs.reading.open_record.Goals as goal

pub returns-in_default-clause-opened : goal.returns-in_default-clause-opened
returns-in_default-clause-opened c = record_fault-empty c.args.delimiters c.args.text.now c.in_default.ensures.cases

pub returns-in_default-other_kind-clause-opened : goal.returns-in_default-other_kind-clause-opened
returns-in_default-other_kind-clause-opened c =
    record_fault-kind c.args.delimiters c.args.text.now c.in-Some.letter.now c.in-Some.rest.now
    c.in-Some.ensures.cases.0 c.in_default-other_kind.ensures

pub returns-in-Some-trailing_byte-clause-opened : goal.returns-in-Some-trailing_byte-clause-opened
returns-in-Some-trailing_byte-clause-opened c =
    record_fault-trailing c.args.delimiters c.args.text.now c.in-Some.letter.now c.in-Some.rest.now
    c.in-Some-trailing_byte.byte c.in-Some.ensures.cases.0 c.in-Some-other_kind.ensures.1
    (ap (λ (f : ℕ). trailing_byte f c.in-Some.rest.now) (sym c.field-field.ensures.byte)
    ∙ sym c.trailing_byte.ensures ∙ c.in-Some-trailing_byte.is)

pub returns-in-Some-record_text_fault-clause-opened : goal.returns-in-Some-record_text_fault-clause-opened
returns-in-Some-record_text_fault-clause-opened c =
    record_fault-text c.args.delimiters c.args.text.now c.in-Some.letter.now c.in-Some.rest.now
    c.in-Some-record_text_fault.fault c.in-Some.ensures.cases.0 c.in-Some-other_kind.ensures.1
    (ap (λ (f : ℕ). trailing_byte f c.in-Some.rest.now) (sym c.field-field.ensures.byte)
    ∙ sym c.trailing_byte.ensures ∙ c.in_default-trailing_byte.is)
    (sym c.record_text_fault.ensures ∙ c.in-Some-record_text_fault.is)
