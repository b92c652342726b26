use Rattle.std.proofs.Common.{drop}
use Rattle.std.specs.declared.result.Result.{Result}
use Rattle.lis_engine.specs.declared.fault.ToolFault.{ToolFault}
use Rattle.lis_engine.specs.Output.{IsPut, IsWorking, Out}
use Rattle.lis_engine.specs.Parts.{parts_text}
use Rattle.lis_engine.proofs.print.RefSlicePartPrint.print.Given as goal

-- whatever puts the rest from here puts all from the start
abbrev pub invariant-loop-part : goal.invariant-loop-part
invariant-loop-part g l = record {
  working : IsWorking l.out;
  goes_on :
      (new : Out) (r : Result Unit ToolFault) → IsPut l.out new r (parts_text (drop l.part-index l.fn.self.now))
      → IsPut l.fn.out new r (parts_text l.fn.self.now);
}
