use Rattle.std.proofs.Common.{sym, ap, ◌∙◌}
use Rattle.lis_record_values.specs.declared.kinds.Kind.{Kind}
use Rattle.lis_message.specs.Kept.{RecordsState, opened_of}
use Rattle.lis_message.specs.Taking.{left_after}
use Rattle.lis_message.proofs.records.RecordReader.end_whole.Goals as goal

pub returns-clause-ok : goal.returns-clause-ok
returns-clause-ok c = λ left is.
    let here = ap (λ (r : RecordsState). r.opened) c.self.view_is ∙ is in
    let comes = c.in-Ok.ensures.ok left here in (
      comes,
      c.open_after.ensures left c.args.text.now c.in-Ok.entry here comes (sym c.delimiters.ensures)
          (sym c.kind.ensures)
          ∙ ap (λ (k : Kind). opened_of (left_after left c.in-Ok.entry k)) c.kind.ensures,
    )
