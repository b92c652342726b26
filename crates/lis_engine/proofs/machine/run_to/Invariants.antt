use Rattle.std.proofs.Common.{◌≡◌, false}
use Rattle.lis_engine.specs.Output.{IsWorking}
use Rattle.lis_engine.proofs.RunLaws.{IsSoFar}
use Rattle.lis_engine.proofs.machine.run_to.Given as goal

-- so many reads were made; for the bytes that they gave all of the text was put
abbrev pub invariant-loop-turn : goal.invariant-loop-turn
invariant-loop-turn g l = record {
  made : g.R.Source.made l.source ≡ l._turn;
  not_failed : g.R.Source.failed l.source ≡ false;
  not_ended : g.R.Source.ended l.source ≡ false;
  working : IsWorking l.out;
  so_far :
      IsSoFar (g.M.Machine.represents l.machine) (g.R.Source.left l.fn.source) (g.R.Source.left l.source) l.fn.out l.out
      l._turn;
}
