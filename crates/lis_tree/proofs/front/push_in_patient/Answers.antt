use Rattle.std.proofs.Common.{◌∙◌}
use Rattle.lis_record_values.specs.declared.kinds.Kind.TheVariants as kinds
use Rattle.lis_tree.specs.inside.Joining.{JoinsPatient}
use Rattle.lis_tree.specs.Tree.{IsOrder, order_records}
use Rattle.lis_tree.proofs.Joining.{joins_order}
use Rattle.lis_tree.proofs.Last.{on_ok, records_on, same_on, shape_on}
use Rattle.lis_tree.proofs.front.push_in_patient.Goals as goal

pub returns-in-Some : goal.returns-in-Some
returns-in-Some c =
    let b = c.args.patient.now in
    let new = c.push_in_order.new.order in
    let result = c.push_in_order.result in
    let last = c.in-Some.ensures.some in
    record {
      records = records_on b _ last new result order_records c.args.entry c.push_in_order.ensures.records;
      shape = shape_on b _ last new result kinds.P IsOrder (JoinsPatient b.below c.args.entry.kind)
          (on_ok result (λ keeps is joins. keeps is (joins_order b.below _ c.args.entry.kind last
          (λ e. c.in_default.not-O (c.kind.ensures.kind ∙ e)) joins))
          c.push_in_order.ensures.shape);
      err = same_on b _ last new result c.push_in_order.ensures.err;
    }
