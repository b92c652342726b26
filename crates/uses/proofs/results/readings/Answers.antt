use Rattle.std.proofs.Common.{[], ◌∷◌, ◌++◌, ◌∙◌, ap, sym, List, append_assoc}
use Rattle.lis_tree.specs.Results.{ResultNode, results_left}
use Rattle.uses.proofs.ReadingLaws.{one_more}
use Rattle.uses.proofs.results.readings.Goals as goal

pub loop-placed-preserved : goal.loop-placed-preserved
loop-placed-preserved c =
    let so_far = c.loop-placed.invariant in
    let placed = c.in-Some.placed in
    let node : ResultNode = record {
      patient = placed.patient.now;
      order = placed.order.now;
      entry = placed.entry.now;
    } in (
      so_far.0 ++ node ∷ [],
      so_far.1 ∙ ap (λ (l : List ResultNode). so_far.0 ++ l) c.in-Some.ensures.steps
          ∙ sym (append_assoc so_far.0 (node ∷ []) (results_left c.next.new.self)),
      rw c.in_ok-push.ensures.items (one_more so_far.0 _ node _ so_far.2
          (record {
            sample = rw c.head.ensures at c.in_ok-text_of.ensures;
            value = rw c.head-in-loop-placed.ensures at c.in_ok-text_of-2.ensures;
            units = rw c.head-in-loop-placed-2.ensures at c.in_ok-text_of-3.ensures;
          })),
    )
