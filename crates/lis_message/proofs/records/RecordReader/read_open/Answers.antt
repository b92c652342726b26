use Rattle.std.proofs.Common.{List, ℕ, length, ◌==◌, ap, ◌∙◌}
use Rattle.lis_message.specs.Kept.{RecordsState}
use Rattle.lis_message.proofs.NextRecord.{nothing_held, whole_stopped}
use Rattle.lis_message.proofs.records.RecordReader.read_open.Goals as goal

pub returns-in-Err-end_whole-clause-err : goal.returns-in-Err-end_whole-clause-err
returns-in-Err-end_whole-clause-err c = λ left has.
    let none = nothing_held c.args.self.now.held (c.if-is_empty.ensures ∙ ap (λ (l : List ℕ). length l == 0)
    (c.text.ensures.value ∙ ap (λ (r : RecordsState). r.held) c.self.view_is)) in
    whole_stopped left c.args.self.now.held c.in-Some.text.now c.in-Some.following.now c.args.bytes.now
    c.in-Err-end_whole.reason none c.in-Some.ensures.lacks c.in-Some.ensures.some
    (c.in-Err-end_whole.ensures.err left has.opened)

pub returns-in-Ok-end_held-clause-ok : goal.returns-in-Ok-end_held-clause-ok
returns-in-Ok-end_held-clause-ok c = λ left has.
    let ended = c.in-Ok-end_held.ensures.ok left has.opened in (
      ended.entry,
      ended.reported,
      record {
        text = c.in-Some.text.now;
        whole = c.in-Some.ensures.some;
        lacks = c.in-Some.ensures.lacks;
        comes = ended.comes;
        left_then = record { no_fault = c.end_held.ensures.fault ∙ has.no_fault; opened = ended.opened };
        empty = ended.empty;
      },
      ended.text_is,
    )
