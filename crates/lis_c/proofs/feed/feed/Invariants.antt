use Rattle.std.proofs.Common.{◌≡◌, ◌-◌, ◌≤◌, ℕ, List, [], length, take}
use Rattle.lis_frame.specs.Scanner.{StandsFor}
use Rattle.lis_frame.specs.Stream.{signals_after, stream_with}
use Rattle.lis_c.proofs.feed.feed.Given as goal

-- no signal so far, and as much room as before
abbrev pub invariant-loop-count : goal.invariant-loop-count
invariant-loop-count g l = record {
  within : l.count ≤ length l.bytes;
  room : length l.text ≡ length l.fn.text;
  silent : (past : List ℕ) → StandsFor g.row.N l.fn.scanner past →
      signals_after g.row.N past (take l.count l.bytes) ≡ [];
  represents : (past : List ℕ) → StandsFor g.row.N l.fn.scanner past →
      StandsFor g.row.N l.scanner (stream_with past (take l.count l.bytes));
}

abbrev pub decreases-loop-count : goal.decreases-loop-count
decreases-loop-count g l = length l.bytes - l.count
