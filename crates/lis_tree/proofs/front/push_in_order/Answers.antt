use Rattle.std.proofs.Common.{ap, ◌∙◌}
use Rattle.lis_record_values.specs.declared.kinds.Kind.TheVariants as kinds
use Rattle.lis_tree.specs.inside.Joining.{JoinsOrder}
use Rattle.lis_tree.specs.Tree.{IsAnnotated, annotated_records}
use Rattle.lis_tree.proofs.Joining.{note_joins}
use Rattle.lis_tree.proofs.Last.{on_ok, records_on, same_on, shape_on}
use Rattle.lis_tree.proofs.front.push_in_order.Goals as goal

pub returns-in-Some : goal.returns-in-Some
returns-in-Some c =
    let b = c.args.order.now in
    let new = c.push-in-Some.new.self in
    let result = c.push-in-Some.result in
    let last = c.in-Some.ensures.some in
    record {
      records = records_on b _ last new result annotated_records c.args.entry
          (on_ok result (λ is. ap annotated_records is) c.push-in-Some.ensures.ok);
      shape = shape_on b _ last new result kinds.O (IsAnnotated kinds.R) (JoinsOrder c.args.entry.kind)
          (on_ok result (λ is annotated joins. note_joins _ new c.args.entry is
          (λ e. c.in_default.not-R (c.kind.ensures.kind ∙ e)) annotated joins) c.push-in-Some.ensures.ok);
      err = same_on b _ last new result c.push-in-Some.ensures.err;
    }
