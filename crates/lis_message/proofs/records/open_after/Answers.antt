use Rattle.std.proofs.Common.{Some, sym, ap, ◌∙◌}
use Rattle.lis_message.proofs.NextRecord.{inner_after, marks_kept}
use Rattle.lis_message.proofs.records.open_after.Goals as goal

pub returns-in-Some-after : goal.returns-in-Some-after
returns-in-Some-after c = λ left text entry is comes marks k.
    let here = ap Some c.inner.view_is ∙ sym c.in-Some.is ∙ is in
    inner_after left entry c.inner.inside.delimiters _ c.in-Some-after.position c.args.kind
    c.saturating_add-inner-inside.result here (marks_kept left text entry _ here comes) k c.in-Some-after.ensures
    c.saturating_add-inner-inside.ensures
