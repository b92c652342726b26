-- The text is the message and no other (one_read), so the last that is read is it.
use Rattle.std.proofs.Common.{◌∙◌, ℕ, List, ap, length, subst, sym}
use Rattle.lis_message.specs.Feeding.{ReadsWhole}
use Rattle.lis_message_table.specs.Table.{Table}
use Rattle.lis_message_table.proofs.TableLaws.{no_item, none_read, one_read, only_item}
use Rattle.lis_message_table.proofs.table.MessageTable.to_message.Goals as goal

pub returns-clause-tree : goal.returns-clause-tree
returns-clause-tree c = λ m is.
    let messages = c.read_messages-messages.result.messages in
    let fault = c.read_messages-messages.result.fault in
    let reads = subst (λ (s : List ℕ). ReadsWhole s messages fault) (ap (λ (t : Table). t.text) c.self.view_is)
    c.read_messages-messages.ensures.read in
    let one = one_read c.args.self.now m messages fault is reads (sym c.is_some.ensures ∙ c.if-is_some.false) in
    only_item c.into_vec-messages.result.items _ m c.pop-message.result (c.into_vec-messages.ensures ∙ one)
    c.into_vec-messages.result.ok.0 c.pop-message.ensures.value

pub returns-clause-clear : goal.returns-clause-clear
returns-clause-clear c = λ clear.
    let messages = c.read_messages-messages.result.messages in
    let fault = c.read_messages-messages.result.fault in
    let none = none_read c.self.inside.text.now messages fault (ap (λ (t : Table). t.text) c.self.view_is ∙ clear.0)
    c.read_messages-messages.ensures.read (sym c.is_some.ensures ∙ c.if-is_some.false) in
    no_item c.pop-message.result _ _
    (c.into_vec-messages.result.ok.0 ∙ ap length (c.into_vec-messages.ensures ∙ none)) c.pop-message.ensures.cases
