use Rattle.std.proofs.Common.{Some, None, ap, sym, ◌∙◌}
use Rattle.lis_message.proofs.TakingLaws.{first_fault, header_refused}
use Rattle.lis_message.proofs.records.borrow_first.Goals as goal

pub returns-in-Err-clause-err : goal.returns-in-Err-clause-err
returns-in-Err-clause-err c =
    first_fault None c.args.text.now c.front_fault.result c.in-Err.fault c.front_fault.ensures
    (λ front. header_refused c.args.text.now c.in-Err.fault front c.in-Err.ensures.fault)
    ∙ ap Some (sym c.unwrap_or.ensures)
