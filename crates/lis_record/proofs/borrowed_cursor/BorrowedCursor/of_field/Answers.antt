use Rattle.lis_record.proofs.BorrowedTexts.{text_field-first}
use Rattle.lis_record.proofs.borrowed_cursor.BorrowedCursor.of_field.Goals as goal

pub returns : goal.returns
returns c =
    text_field-first c.args.delimiters c.args.text.now c.first_part.result.0.now c.first_part.result.1.now
    c.first_part-2.result.0.now c.first_part-2.result.1.now c.of_text.result
    (rw c.repeat-outer.ensures at c.first_part.ensures.parts)
    (rw c.component-inner.ensures at c.first_part-2.ensures.parts) c.of_text.ensures
