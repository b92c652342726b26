use Rattle.std.proofs.Common.{ℕ, ◌∙◌, ap, Option, length, unwrap_or}
use Rattle.lis_record_read.proofs.FieldTexts.{part_following-mark}
use Rattle.lis_record_read.proofs.Places.{parts_of-first}
use Rattle.lis_record_read.proofs.text_parts.first_part.Goals as goal

pub returns-clause-parts : goal.returns-clause-parts
returns-clause-parts c =
    let text = c.args.text.now in
    rw (c.split_at.ensures.front, c.split_at.ensures.back)
    (parts_of-first c.args.delimiter text c.unwrap_or-end.result
    (c.unwrap_or-end.ensures ∙ ap (λ (o : Option ℕ). unwrap_or o (length text)) c.place_of.ensures))

pub returns-clause-mark : goal.returns-clause-mark
returns-clause-mark c =
    let text = c.args.text.now in
    rw c.split_at.ensures.back
    (part_following-mark c.args.delimiter text c.unwrap_or-end.result
    (c.unwrap_or-end.ensures ∙ ap (λ (o : Option ℕ). unwrap_or o (length text)) c.place_of.ensures))
