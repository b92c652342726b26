use Rattle.std.proofs.Common.{◌≡◌, ◌++◌, drop}
use Rattle.lis_record_values.proofs.parts.Parts.copy.Given as goal

abbrev pub invariant-loop-part : goal.invariant-loop-part
invariant-loop-part g l = l.self ≡ l.parts ++ drop l.part-index l.others
