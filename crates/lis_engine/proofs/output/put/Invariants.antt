use Rattle.std.proofs.Common.{◌≡◌, ℕ, false, ◌≤◌, List, Option, length}
use Rattle.std.specs.declared.result.Result.{Result}
use Rattle.lis_engine.specs.declared.fault.ToolFault.{ToolFault}
use Rattle.lis_engine.specs.Output.{most_counted}
use Rattle.lis_engine.specs.inside.Output.{Put}
use Rattle.lis_engine.proofs.output.put.Given as goal

-- whatever puts the rest out from here puts all out from the start
abbrev pub invariant-loop-rest : goal.invariant-loop-rest
invariant-loop-rest g l = record {
  fits : l.written ≤ most_counted;
  working : g.W.Sink.failed l.sink ≡ false;
  goes_on :
      (new : Option (List ℕ)) (after : ℕ) (r : Result Unit ToolFault) →
      Put (g.W.Sink.taken l.sink) new l.written after r l.rest
      → Put (g.W.Sink.taken l.fn.sink) new l.fn.written after r l.bytes;
}

abbrev pub decreases-loop-rest : goal.decreases-loop-rest
decreases-loop-rest g l = length l.rest
