use Rattle.std.proofs.Common.{◌≡◌, ◌++◌, ◌∷◌, [], List, None, Some, ap, sym, ◌∙◌}
use Rattle.lis_record_values.specs.Shape.{RecordContent}
use Rattle.lis_message.specs.Taking.{header, inner, records_of}
use Rattle.lis_tree.specs.Begun.{Begun}
use Rattle.lis_message.proofs.reader.take_last.Goals as goal

pub returns-clause-ok : goal.returns-clause-ok
returns-clause-ok c =
    let opened : c.args.begun.now ≡ Some c.in-Some.message = sym c.take.ensures.value ∙ c.in-Some.is in
    let marks : c.in-Some.message.delimiters ≡ c.args.entry.now.delimiters =
    elim c.requires.next.1 [
      | header none good read kind ↦ let no : None ≡ Some c.in-Some.message = sym none ∙ opened in cc
      | inner begun is same read placed ↦
          let found : Some begun ≡ Some c.in-Some.message = sym is ∙ opened in
          let whole : begun ≡ c.in-Some.message = cc in
          sym (same ∙ ap (λ (b : Begun). b.delimiters) whole)
    ] in
    let records : c.in-Some.message.records ≡ records_of c.args.begun.now = sym (ap records_of opened) in
    record {
      message = Some c.closed.result;
      completes = (
        c.requires.last,
        c.closed.ensures.shape,
        c.closed.ensures.delimiters ∙ marks,
        c.closed.ensures.records
            ∙ ap (λ (l : List RecordContent). l ++ c.in_ok-closing.closing ∷ []) records
            ∙ ap (λ (r : RecordContent). records_of c.args.begun.now ++ r ∷ []) c.in_ok-closing.ensures,
      );
      added = c.in_ok-push.ensures.ok;
    }
