use Rattle.std.proofs.Common.{ℕ, Option, ap, arith, length, sym, unwrap_or}
use Rattle.lis_record_read.proofs.FieldTexts.{part_following-mark}
use Rattle.lis_bytes.proofs.MarkLemmas.{marks-following, marks-found, marks-inside}
use Rattle.lis_record_read.proofs.Places.{parts_of-first}
use Rattle.std.specs.Int.Count.{count_trailing_zeros}
use Rattle.lis_record.proofs.known_parts.first_marked.Goals as goal

pub split_at-requires : goal.split_at-requires
split_at-requires c =
    omega (arith, marks-inside c.args.delimiter c.args.text.now c.args.marks c.requires c.if-marks-eq0.false)

pub returns-clause-parts : goal.returns-clause-parts
returns-clause-parts c =
    let text = c.args.text.now in
    let found = marks-found c.args.delimiter text c.args.marks c.requires c.if-marks-eq0.false in
    rw (c.split_at.ensures.front, c.split_at.ensures.back)
    (parts_of-first c.args.delimiter text (count_trailing_zeros 64 c.args.marks)
    (sym (ap (λ (o : Option ℕ). unwrap_or o (length text)) found)))

pub returns-clause-mark : goal.returns-clause-mark
returns-clause-mark c =
    let text = c.args.text.now in
    let found = marks-found c.args.delimiter text c.args.marks c.requires c.if-marks-eq0.false in
    rw c.split_at.ensures.back
    (part_following-mark c.args.delimiter text (count_trailing_zeros 64 c.args.marks)
    (sym (ap (λ (o : Option ℕ). unwrap_or o (length text)) found)))

pub returns-clause-marks : goal.returns-clause-marks
returns-clause-marks c =
    rw c.split_at.ensures.back (marks-following c.args.delimiter c.args.text.now c.args.marks c.requires
    (count_trailing_zeros 64 c.args.marks))
