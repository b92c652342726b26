use Rattle.std.proofs.Common.{◌∙◌}
use Rattle.lis_record_values.specs.declared.kinds.Kind.TheVariants as kinds
use Rattle.lis_tree.specs.Tree.{IsGroup, group_records}
use Rattle.lis_tree.proofs.Joining.{joins_last}
use Rattle.lis_tree.proofs.Last.{branch_is, on_ok, records_on, same_on}
use Rattle.lis_tree.proofs.front.push_record.Goals as goal

pub returns-in-Some : goal.returns-in-Some
returns-in-Some c =
    let b = c.args.front.now in
    let new = c.push_in_group.new.group in
    let result = c.push_in_group.result in
    let last = c.in-Some.ensures.some in
    record {
      records = records_on b _ last new result group_records c.args.entry c.push_in_group.ensures.records;
      shape = on_ok result (λ keeps is. branch_is b _ last new kinds.H IsGroup is (λ one. keeps one
          (joins_last b _ c.args.entry.kind last (λ e. c.in_default.not-P (c.kind.ensures.kind ∙ e))
          (λ e. c.in_default.not-Q (c.kind.ensures.kind ∙ e)) c.requires.open c.requires.placed)))
          c.push_in_group.ensures.shape;
      err = same_on b _ last new result c.push_in_group.ensures.err;
    }
