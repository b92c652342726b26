use Rattle.std.proofs.Common.{◌≡◌, ◌+◌, ◌^◌, ◌<◌, ℕ, List, [], ◌++◌, length}
use Rattle.lis_frame.specs.Stream.{stream_with}
use Rattle.lis_engine.specs.Output.{IsWorking}
use Rattle.lis_run.specs.LineOutcome.{IsLined}
use Rattle.lis_run.proofs.LineLaws.{IsAt}
use Rattle.lis_run.proofs.lines.LinesMachineRefused.feed.Given as goal

abbrev pub invariant-loop-rest : goal.invariant-loop-rest
invariant-loop-rest g l = record {
  working : IsWorking l.out;
  same : l.out.sink ≡ l.fn.out.sink;
  at :
      (past text : List ℕ) →
      IsLined g.C.LineMachine.writes (g.C.LineMachine.represents l.fn.self.command) l.fn.self.reader past text →
      length past + length l.fn.bytes < 2 ^ 44 →
      IsAt g.C.LineMachine.writes (g.C.LineMachine.represents l.self.command) l.self.reader l.fn.out l.out text l.rest
      (stream_with [] (past ++ l.fn.bytes));
}

abbrev pub decreases-loop-rest : goal.decreases-loop-rest
decreases-loop-rest g l = length l.rest
