-- What is added is the encoding of the fields that are taken, by fields_taken.
use Rattle.std.proofs.Common.{◌≡◌, ◌++◌, ◌∷◌, ap, drop, rules, sym}
use Rattle.lis_record.specs.Borrowed.{borrowed}
use Rattle.lis_record.specs.inside.Reencoding.{reencoded}
use Rattle.lis_record.proofs.TakenFields.{fields_taken}
use Rattle.lis_record.proofs.borrowed.BorrowedFields.add_next.Goals as goal

pub returns-clause-added : goal.returns-clause-added
returns-clause-added c = λ added.
    let i = c.self.inside in
    let d = i.delimiters in
    let grown : c.add_following.new.out.items
    ≡ c.args.text.now.items ++ d.field ∷ reencoded d (drop 1 c.in-Some.fields.now) = search rules in
    let both = fields_taken d c.field-mark.ensures.shape c.args.text.now.items c.add_following.new.out.items i.text.now
    c.in-Some.fields.now c.in-Some.rest.now c.args.count (rw c.field-mark.ensures.byte at c.in-Some.ensures.split)
    grown in
    rw (sym c.self.view_is) (both.0, ap (borrowed d) both.1)
