use Rattle.std.proofs.Common.{ap, ◌∙◌, arith}
use Rattle.std.proofs.lemmas.Result.{on_ok_weaker}
use Rattle.lis_record_values.specs.Delimiters.{DelimiterBytes}
use Rattle.lis_record_commands.proofs.ResultLaws.{added_last, added_next, next_left}
use Rattle.lis_record_commands.proofs.results.add_each.Goals as goal

pub loop-field-preserved : goal.loop-field-preserved
loop-field-preserved c =
    added_next c.args.entry.now.delimiters c.args.entry.now.content c.loop-field._field c.loop-field.fields
    c.add_next.new.fields c.field-mark.result c.args.lines.now.bytes.items c.loop-field.lines.bytes.items
    c.add_next.new.self.bytes.items c.requires
    (c.field-mark.ensures.byte ∙ ap (λ (d : DelimiterBytes). d.field) c.delimiters.ensures)
    c.loop-field-test.true c.loop-field.invariant c.in_ok-add_next.ensures.added c.in_ok-add_next.ensures.left

pub returns : goal.returns
returns c =
    on_ok_weaker c.add_next-2.result
    (added_last c.args.entry.now.delimiters c.args.entry.now.content c.loop-field._field c.loop-field.fields
    c.next-nature.new.self c.field-mark.result c.args.lines.now.bytes.items c.loop-field.lines.bytes.items
    c.add_next-2.new.self.bytes.items c.requires
    (c.field-mark.ensures.byte ∙ ap (λ (d : DelimiterBytes). d.field) c.delimiters.ensures)
    (omega (arith, c.loop-field-test.false, c.loop-field.auto._field-end)) c.loop-field.invariant
    (next_left c.next-nature.result _ _ c.next-nature.ensures))
    c.add_next-2.ensures.added
