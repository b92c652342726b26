-- What is read does not depend on the last record, which was released before, by `reads_same`.
use Rattle.std.proofs.Common.{ap, ◌∙◌}
use Rattle.lis_message.specs.Kept.{RecordsState}
use Rattle.lis_message.specs.inside.Kept.{Holding}
use Rattle.lis_message.proofs.NextRecord.{reads_same}
use Rattle.lis_message.proofs.records.RecordReader.read.Goals as goal

pub returns-in-Ok-clause-read : goal.returns-in-Ok-clause-read
returns-in-Ok-clause-read c = λ left has.
    let open' = ap (λ (r : RecordsState). r.opened) c.self.view_is in
    let held = ap (λ (h : Holding). h.held) c.forget_split.ensures
    ∙ ap (λ (r : RecordsState). r.held) c.self.view_is in
    let fault = ap (λ (r : RecordsState). r.fault) c.self.view_is in
    reads_same _ c.args.self.now c.read_open.new.self left c.args.bytes.now c.in-Ok.answer.0.now c.in-Ok.answer.1 held
    open'
    (c.in-Ok.ensures.ok left (record { no_fault = fault ∙ has.no_fault; opened = open' ∙ has.opened }))
