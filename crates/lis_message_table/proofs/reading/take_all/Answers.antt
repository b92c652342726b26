-- Where memory lacks for a place, the records before it are read (starved_whole).
use Rattle.std.proofs.Common.{◌+◌, ℕ, ◌∙◌, ap, refl}
use Rattle.lis_bytes.specs.Capped.{capped}
use Rattle.lis_message_table.proofs.ReadingLaws.{starved_whole}
use Rattle.lis_message_table.proofs.reading.take_all.Goals as goal

pub returns-in-Err-push-clause-err : goal.returns-in-Err-push-clause-err
returns-in-Err-push-clause-err c =
    starved_whole c.loop-found.records c.args.text.now c.loop-found.places.items c.loop-found.above
    c.loop-found.rest.now c.loop-found.invariant.0 _
    (c.saturating_add.ensures ∙ ap (λ (n : ℕ). capped (n + 1)) (c.len-index.ensures ∙ c.loop-found.places.ok.0)) refl
