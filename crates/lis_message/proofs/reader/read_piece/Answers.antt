use Rattle.std.proofs.Common.{◌++◌, List, ℕ, sym, ◌∙◌, ap, subst, append_assoc}
use Rattle.lis_message.specs.inside.Feeding.{LeadsTo, StopsIn}
use Rattle.lis_message.specs.inside.Records.{unended}
use Rattle.lis_message.proofs.Stopping.{goes_stops, goes_then}
use Rattle.lis_message.proofs.reader.read_piece.Goals as goal

pub loop-following-preserved : goal.loop-following-preserved
loop-following-preserved c =
    let inv = c.loop-following.invariant in
    let goes = rw c.in-Ok-Some.field-0-is at c.in-Ok-Some.ensures.on in (
      inv.0 ++ goes.front,
      inv.1 ∙ ap (λ (l : List ℕ). inv.0 ++ l) goes.whole
          ∙ sym (append_assoc inv.0 goes.front c.in-Ok-Some.following.now),
      c.in-Ok-Some.ensures.left,
      goes_then (unended c.args.begun.now c.args.records.now) (unended c.loop-following.begun c.loop-following.records)
          (unended c.read_next.new.begun c.read_next.new.records) c.args.messages.now c.loop-following.messages
          c.read_next.new.messages
          inv.0 goes.front inv.3 goes.goes,
    )

pub returns-in-Ok-None-clause-ok : goal.returns-in-Ok-None-clause-ok
returns-in-Ok-None-clause-ok c =
    let inv = c.loop-following.invariant in
    subst (λ (l : List ℕ). LeadsTo (unended c.args.begun.now c.args.records.now) c.args.messages.now l
    (unended c.read_next.new.begun c.read_next.new.records) c.read_next.new.messages) (sym inv.1)
    (goes_then (unended c.args.begun.now c.args.records.now) (unended c.loop-following.begun c.loop-following.records)
    (unended c.read_next.new.begun c.read_next.new.records) c.args.messages.now c.loop-following.messages
    c.read_next.new.messages
    inv.0 c.loop-following.rest.now inv.3 (rw c.in-Ok-None.field-0-is at c.in-Ok-None.ensures.done))

pub returns-in-Err-clause-err : goal.returns-in-Err-clause-err
returns-in-Err-clause-err c =
    let inv = c.loop-following.invariant in
    subst (λ (l : List ℕ). StopsIn (unended c.args.begun.now c.args.records.now) c.args.messages.now l
    c.read_next.new.messages c.in-Err.fault) (sym inv.1)
    (goes_stops (unended c.args.begun.now c.args.records.now) (unended c.loop-following.begun c.loop-following.records)
    c.args.messages.now
    c.loop-following.messages c.read_next.new.messages inv.0 c.loop-following.rest.now c.in-Err.fault inv.3
    c.in-Err.ensures.err)
