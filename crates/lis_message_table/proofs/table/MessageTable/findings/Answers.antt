-- A record more is numbered (next_content); at the end they are all of the message's (contents).
use Rattle.std.proofs.Common.{◌≤◌, ◌∙◌, ◌++◌, [], List, ap, arith, length, subst, sym, take}
use Rattle.std.specs.Option.{option_to_list}
use Rattle.lis_tree.specs.Findings.{HasNumbered, findings_from}
use Rattle.lis_tree.specs.declared.numbering.Finding.{Finding}
use Rattle.lis_message_table.specs.Table.{Table, contents_of}
use Rattle.lis_message_table.proofs.TableLaws.{all_contents, contents, next_content}
use Rattle.lis_message_table.proofs.table.MessageTable.findings.Goals as goal

pub loop-index-preserved : goal.loop-index-preserved
loop-index-preserved c =
    let inv = c.loop-index.invariant in
    let so_far = take c.loop-index.index (contents_of c.args.self.now) in
    let next = next_content c.args.self.now c.loop-index.index c.in-Some.entry c.record.result c.record.ensures
    c.in-Some.is in
    let found = c.in_ok-add.ensures in (
      subst (HasNumbered c.take.new.self) (sym next) (c.take.ensures.numbered so_far inv.0),
      found ∙ ap (λ (l : List Finding). l ++ option_to_list c.take.result) inv.1
          ∙ sym (c.take.ensures.found so_far inv.0) ∙ ap (findings_from [] 1) (sym next),
    )

pub returns : goal.returns
returns c = λ m is.
    let t = c.args.self.now in
    let past : length t.places ≤ c.loop-index.index =
    omega (
      arith,
      c.loop-index-test.false,
      c.len-index-end.ensures ∙ c.self.inside.places.ok.0,
      ap (λ (x : Table). length x.places) c.self.view_is,
    ) in
    c.loop-index.invariant.1
    ∙ ap (findings_from [] 1) (all_contents t c.loop-index.index past ∙ contents t m is)
