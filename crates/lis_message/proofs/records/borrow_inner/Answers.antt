use Rattle.std.proofs.Common.{Some, ap, sym, ◌∙◌}
use Rattle.lis_message.proofs.TakingLaws.{first_fault}
use Rattle.lis_message.proofs.NextRecord.{inner_comes, inner_fault, inner_misplaced}
use Rattle.lis_message.proofs.records.borrow_inner.Goals as goal

pub returns-in-Err-clause-err : goal.returns-in-Err-clause-err
returns-in-Err-clause-err c = λ begun is.
    first_fault (Some begun) c.args.text.now c.front_fault.result c.in-Err.fault c.front_fault.ensures
    (λ front. inner_fault _ begun (c.opened.view_is ∙ is) c.args.text.now c.in-Err.fault front c.in-Err.ensures.fault)
    ∙ ap Some (sym c.unwrap_or.ensures)

pub returns-in-None-clause-ok : goal.returns-in-None-clause-ok
returns-in-None-clause-ok c = λ begun is.
    inner_comes _ begun (c.opened.view_is ∙ is) c.args.text.now c.in-Ok.entry c.kind.result
    c.in-Ok.ensures.found.0 c.in-Ok.ensures.found.1 c.kind.ensures c.in-None.ensures

pub returns-in-Some-clause-err : goal.returns-in-Some-clause-err
returns-in-Some-clause-err c = λ begun is.
    inner_misplaced _ begun (c.opened.view_is ∙ is) c.args.text.now c.in-Ok.entry c.kind.result c.in-Some.reason
    c.in-Ok.ensures.found.1 c.in-Ok.ensures.found.2 c.kind.ensures c.in-Some.ensures
