use Rattle.std.proofs.Common.{sym, ◌∙◌, ap, subst}
use Rattle.lis_record_values.specs.Shape.{Repeats}
use Rattle.lis_record.specs.Borrowed.{Borrowed}
use Rattle.lis_record_values.specs.Relation.{LacksDelimiters}
use Rattle.lis_record_read.proofs.FieldTexts.{plain_read}
use Rattle.lis_record.proofs.PlainFields.{plain_found}
use Rattle.lis_record.proofs.borrowed.BorrowedParts+Repeat.only_component.Goals as goal

pub returns-else-is_plain-clause-other : goal.returns-else-is_plain-clause-other
returns-else-is_plain-clause-other c = λ bytes free is.
    let i = c.self.inside in
    let content = ap (λ (f : Borrowed Repeats). f.content) c.self.view_is in
    let apart = subst (λ (f : Borrowed Repeats). LacksDelimiters f.delimiters bytes) (sym c.self.view_is) free in
    let found = plain_found i.delimiters c.field.ensures.shape i.text.now bytes apart (content ∙ is) in
    let yes = c.is_plain.ensures.1 found in
    cc (yes, c.if-is_plain.false)

pub returns-then-is_plain-clause-is : goal.returns-then-is_plain-clause-is
returns-then-is_plain-clause-is c =
    let i = c.self.inside in
    let plain = c.is_plain.ensures.0 c.if-is_plain.true in
    sym (ap (λ (f : Borrowed Repeats). f.content) c.self.view_is)
    ∙ plain_read i.delimiters i.text.now plain.repeat plain.component plain.escape

pub returns-then-is_plain-clause-free : goal.returns-then-is_plain-clause-free
returns-then-is_plain-clause-free c =
    let plain = c.is_plain.ensures.0 c.if-is_plain.true in
    subst (λ (f : Borrowed Repeats). LacksDelimiters f.delimiters c.self.inside.text.now) c.self.view_is record {
      field = c.self.invariant;
      repeat = plain.repeat;
      component = plain.component;
      escape = plain.escape;
    }
