use Rattle.std.proofs.Common.{Some, ap, ◌∙◌, option_map}
use Rattle.lis_record_values.specs.Shape.{RecordContent, Repeats, field_at}
use Rattle.lis_record.specs.Borrowed.{Borrowed, borrowed}
use Rattle.lis_record.proofs.BorrowedTexts.{Lacks-part, field_found}
use Rattle.lis_record.proofs.borrowed.BorrowedRecord.field.Goals as goal

pub of_text-requires : goal.of_text-requires
of_text-requires c =
    let i = c.self.inside in
    Lacks-part i.delimiters.field c.in-Some.place i.fields.now c.in-Some-part_following.text.now
    (rw c.field.ensures.byte at c.in-Some-part_following.ensures)

pub returns : goal.returns
returns c =
    let i = c.self.inside in
    ap (λ (f : Borrowed Repeats). Some f) c.of_text.ensures
    ∙ field_found i.delimiters i.kind i.fields.now c.in-Some-part_following.text.now c.args.number c.in-Some.place
    c.first_number.result
    c.first_number.ensures.number c.in-Some.ensures.0 c.in-Some.ensures.1
    (rw c.field.ensures.byte at c.in-Some-part_following.ensures)
    ∙ ap (λ (r : Borrowed RecordContent). option_map (borrowed r.delimiters) (field_at r.content c.args.number))
    c.self.view_is
