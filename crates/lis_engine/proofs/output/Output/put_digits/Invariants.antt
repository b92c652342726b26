use Rattle.std.proofs.Common.{length}
use Rattle.std.specs.declared.result.Result.{Result}
use Rattle.hex.specs.Hex.{encode_lower}
use Rattle.lis_engine.specs.declared.fault.ToolFault.{ToolFault}
use Rattle.lis_engine.specs.Output.{IsPut, IsWorking, Out}
use Rattle.lis_engine.proofs.output.Output.put_digits.Given as goal

-- whatever puts the digits of the rest from here puts all from the start
abbrev pub invariant-loop-rest : goal.invariant-loop-rest
invariant-loop-rest g l = record {
  working : IsWorking l.self;
  goes_on :
      (new : Out) (r : Result Unit ToolFault) → IsPut l.self new r (encode_lower l.rest)
      → IsPut l.fn.self new r (encode_lower l.fn.bytes);
}

abbrev pub decreases-loop-rest : goal.decreases-loop-rest
decreases-loop-rest g l = length l.rest
