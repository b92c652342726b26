use Rattle.lis_message.proofs.NextRecord.{open_comes}
use Rattle.lis_message.proofs.records.borrow_next.Goals as goal

pub returns-in-Some-clause-ok : goal.returns-in-Some-clause-ok
returns-in-Some-clause-ok c =
    open_comes c.borrow_inner.result c.args.opened.now c.in-Some.opened c.args.text.now c.in-Some.is
    c.borrow_inner.ensures.ok
