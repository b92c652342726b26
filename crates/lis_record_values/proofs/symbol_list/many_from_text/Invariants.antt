use Rattle.std.proofs.Common.{◌≡◌, take}
use Rattle.lis_record_values.specs.Shape.{plain_component}
use Rattle.lis_record_values.proofs.symbol_list.many_from_text.Given as goal

abbrev pub invariant-loop-byte : goal.invariant-loop-byte
invariant-loop-byte l = l.many.items ≡ plain_component (take l.byte-index l.text)
