use Rattle.std.proofs.Common.{◌≡◌, Ok, subst, sym}
use Rattle.lis_record.specs.Borrowed.{borrowed}
use Rattle.lis_record_values.specs.Relation.{IsRecord}
use Rattle.lis_c.proofs.records.record_under.Goals as goal

pub returns-in-Ok-clause-only : goal.returns-in-Ok-clause-only
returns-in-Ok-clause-only c content is_d is_record not_h =
    let known = c.in-Ok.ensures.found in
    subst (λ d. c.borrow_record.result ≡ Ok (borrowed d content)) known.0
    (c.borrow_record.ensures.only content (subst (λ d. IsRecord d c.args.text.now content) (sym known.0) is_record)
    not_h)
