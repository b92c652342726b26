use Rattle.std.proofs.Common.{List, ℕ, ◌++◌, sym, ap, subst, ◌∙◌}
use Rattle.lis_record_values.specs.declared.kinds.Kind.{Kind}
use Rattle.lis_message.specs.Kept.{RecordsState, opened_of}
use Rattle.lis_message.specs.inside.Kept.{Holding}
use Rattle.lis_message.specs.Taking.{ComesNext, left_after}
use Rattle.lis_message.proofs.NextRecord.{known_reported}
use Rattle.lis_message.proofs.records.RecordReader.end_held.Goals as goal

pub returns-clause-ok : goal.returns-clause-ok
returns-clause-ok c = λ left is.
    let here = ap (λ (r : RecordsState). r.opened) c.self.view_is ∙ is in
    let text = c.text-text.ensures.value ∙ ap (λ (h : Holding). h.held) c.in_default.ensures.ok in
    let comes = c.in-Ok.ensures.ok left here in
    record {
      entry = c.in-Ok.entry;
      comes = subst (λ (l : List ℕ). ComesNext left l c.in-Ok.entry)
          (text ∙ ap (λ (r : RecordsState). r.held ++ c.args.text.now) c.self.view_is) comes;
      opened =
          c.open_after.ensures left c.text-text.result.now c.in-Ok.entry here comes
          (sym c.delimiters.ensures) (sym c.kind.ensures)
          ∙ ap (λ (k : Kind). opened_of (left_after left c.in-Ok.entry k)) c.kind.ensures;
      reported =
          ap (λ (h : Holding). h.split) c.end.ensures
          ∙ known_reported c.in-Ok.entry c.delimiters.result c.kind.result c.text-text.result.now c.hold.new.self.held
          c.in-Ok.ensures.place c.delimiters.ensures c.kind.ensures c.text-text.ensures.value;
      text_is =
          ap (λ (h : Holding). h.split_text) c.end.ensures ∙ ap (λ (h : Holding). h.held) c.in_default.ensures.ok
          ∙ ap (λ (r : RecordsState). r.held ++ c.args.text.now) c.self.view_is;
      empty = ap (λ (h : Holding). h.held) c.end.ensures;
    }
