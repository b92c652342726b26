use Rattle.std.proofs.Common.{arith, sym, ◌∙◌}
use Rattle.lis_record.proofs.TakenFields.{lone_borrowed}
use Rattle.lis_record.proofs.PlainFields.{digit_after}
use Rattle.lis_record.proofs.borrowed.BorrowedRecord.first_digit.Goals as goal

pub returns-clause-is : goal.returns-clause-is
returns-clause-is c =
    let i = c.self.inside in
    let is = c.is_lone_digit.ensures.0 c.if-not-is_lone_digit.false in
    (lone_borrowed i.delimiters c.field-mark.ensures.shape i.fields.now i.kind c.args.self.now c.self.view_is
    c.in-len3-up.len_at_least is.1.0 is.1.1 (is.0 ∙ c.field-mark.ensures.byte)).0

pub returns-clause-digit : goal.returns-clause-digit
returns-clause-digit c =
    let is = c.is_lone_digit.ensures.0 c.if-not-is_lone_digit.false in
    let i = c.self.inside in
    let more = (lone_borrowed i.delimiters c.field-mark.ensures.shape i.fields.now i.kind c.args.self.now c.self.view_is
    c.in-len3-up.len_at_least is.1.0 is.1.1 (is.0 ∙ c.field-mark.ensures.byte)).1 in
    (is.1.0, (is.1.1, more))

pub returns-in_default-clause-other : goal.returns-in_default-clause-other
returns-in_default-clause-other c = λ digit low high more is.
    let i = c.self.inside in
    let found = digit_after i.delimiters c.field-mark.ensures.shape i.fields.now i.kind c.args.self.now c.self.view_is
    digit low high more is in
    omega (arith, found.0, c.in_default.len_below)

pub returns-then-not-is_lone_digit-clause-other : goal.returns-then-not-is_lone_digit-clause-other
returns-then-not-is_lone_digit-clause-other c = λ digit low high more is.
    let i = c.self.inside in
    let found = digit_after i.delimiters c.field-mark.ensures.shape i.fields.now i.kind c.args.self.now c.self.view_is
    digit low high more is in
    let yes = c.is_lone_digit.ensures.1 (
      found.1.1 ∙ sym c.field-mark.ensures.byte,
      (omega (arith, low, found.1.0), omega (arith, high, found.1.0)),
    ) in
    cc (yes, c.if-not-is_lone_digit.true)
