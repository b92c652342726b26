use Rattle.std.proofs.Common.{◌≡◌, ℕ, List, length}
use Rattle.lis_frame.specs.Scanner.{StandsFor}
use Rattle.lis_engine.specs.Output.{IsWorking}
use Rattle.lis_run.proofs.ShowLaws.{IsShown}
use Rattle.lis_run.proofs.show.show_bytes.Given as goal

abbrev pub invariant-loop-byte : goal.invariant-loop-byte
invariant-loop-byte g l = record {
  working : IsWorking l.out;
  same : l.out.sink ≡ l.fn.out.sink;
  shown :
      (past : List ℕ) → StandsFor g.row.N l.fn.scanner past →
      IsShown g.row.N (StandsFor g.row.N l.scanner) l.fn.out l.out past l.bytes l.rest;
}

abbrev pub decreases-loop-byte : goal.decreases-loop-byte
decreases-loop-byte g l = length l.rest
