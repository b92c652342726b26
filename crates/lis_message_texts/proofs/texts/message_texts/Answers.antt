use Rattle.std.proofs.Common.{◌≡◌, None, ◌∙◌, ap, sym, subst}
use Rattle.std.specs.List.{AllByRecursion, flat_map}
use Rattle.lis_text.specs.LinkText.{longest_text}
use Rattle.lis_text.specs.Text.{text_fault}
use Rattle.lis_tree.specs.Tree.{flatten}
use Rattle.lis_message_texts.proofs.TextLaws.{text_sent, texts_joined}
use Rattle.lis_message.proofs.WritingLaws.{all_writable, writable_as, written_as}
use Rattle.lis_message_texts.proofs.texts.message_texts.Goals as goal

pub texts_of-requires : goal.texts_of-requires
texts_of-requires c =
    let m = c.args.message.now in
    record {
      writable = writable_as m.delimiters c.delimiters.result (flatten m) c.new.result
          (sym c.delimiters.ensures.value) (sym c.new.ensures)
          (all_writable m.delimiters 1 (flatten m) c.in_default.ensures);
    }

pub returns-in-Ok-clause-joined : goal.returns-in-Ok-clause-joined
returns-in-Ok-clause-joined c =
    let m = c.args.message.now in
    let texts = written_as c.delimiters.result m.delimiters c.new.result (flatten m) c.in-Ok.texts
    c.delimiters.ensures.value c.new.ensures c.in-Ok.ensures in
    ap (flat_map (λ t. t)) texts ∙ texts_joined m.delimiters (flatten m)

pub returns-in-Ok-clause-sent : goal.returns-in-Ok-clause-sent
returns-in-Ok-clause-sent c =
    let m = c.args.message.now in
    let shape = c.delimiters.ensures.shape in
    let texts = written_as c.delimiters.result m.delimiters c.new.result (flatten m) c.in-Ok.texts
    c.delimiters.ensures.value c.new.ensures c.in-Ok.ensures in
    subst (AllByRecursion (λ t. text_fault longest_text t ≡ None)) (sym texts)
    (text_sent m.delimiters shape.delimiters (flatten m) shape.records
    (all_writable m.delimiters 1 (flatten m) c.in_default.ensures))
