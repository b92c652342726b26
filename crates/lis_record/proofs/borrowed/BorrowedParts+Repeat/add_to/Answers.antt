use Rattle.std.proofs.Common.{◌++◌, List, ℕ, ap, sym, ◌∙◌}
use Rattle.lis_record_values.specs.Shape.{Repeats}
use Rattle.lis_record.specs.Borrowed.{Borrowed}
use Rattle.lis_record_write.specs.Encoding.{encoded_field}
use Rattle.lis_record.proofs.Reencoded.{field_reencoded}
use Rattle.lis_record.proofs.borrowed.BorrowedParts+Repeat.add_to.Goals as goal

pub returns-clause-ok : goal.returns-clause-ok
returns-clause-ok c =
    let i = c.self.inside in
    c.in_ok-add_reencoded.ensures.ok
    ∙ ap (λ (l : List ℕ). c.args.text.now.items ++ l)
    (sym (field_reencoded i.delimiters c.field.ensures.shape i.text.now c.self.invariant)
    ∙ ap (λ (f : Borrowed Repeats). encoded_field f.delimiters f.content) c.self.view_is)
