use Rattle.std.proofs.Common.{◌≡◌, take}
use Rattle.lis_record_values.specs.Shape.{plain_component}
use Rattle.lis_record_values.proofs.component.Component.to_text.Given as goal

abbrev pub invariant-loop-symbol : goal.invariant-loop-symbol
invariant-loop-symbol l = take l.symbol-index l.symbol-items ≡ plain_component l.text.items
