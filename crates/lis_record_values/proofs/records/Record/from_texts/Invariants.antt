use Rattle.std.proofs.Common.{◌≡◌, map, take}
use Rattle.lis_record_values.specs.Shape.{plain_field}
use Rattle.lis_record_values.proofs.records.Record.from_texts.Given as goal

abbrev pub invariant-loop-text : goal.invariant-loop-text
invariant-loop-text l = l.entry ≡ record {
  kind = l.fn.kind;
  fields = map (λ text. plain_field text.now) (take l.text-index l.texts);
}
