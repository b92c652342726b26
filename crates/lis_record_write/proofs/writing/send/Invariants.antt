use Rattle.std.proofs.Common.{◌≡◌, ℕ, ◌+◌, ◌≤◌, List, [], ◌++◌, length, drop, false, Option, Result}
use Rattle.lis_record_write.specs.declared.faults.WriteFault.{WriteFault}
use Rattle.lis_record_write.specs.inside.Writing.{SentOn}
use Rattle.lis_record_write.proofs.writing.send.Given as goal

-- whatever sends the rest from here sends all from the start
abbrev pub invariant-loop-chunk : goal.invariant-loop-chunk
invariant-loop-chunk g l = record {
  open_sink : g.W.Sink.failed l.sink ≡ false;
  within : l.left ≤ length l.chunk;
  filled : length l.chunk ≡ 0 → g.S.Encoding.left l.cursor ≡ [];
  goes_on : (new : Option (List ℕ)) (r : Result Unit WriteFault)
      → SentOn l.passed (drop l.left l.chunk ++ g.S.Encoding.left l.cursor) (g.W.Sink.taken l.sink) new r
      → SentOn l.initial.passed (drop l.initial.left l.initial.chunk ++ g.S.Encoding.left l.initial.cursor)
      (g.W.Sink.taken l.initial.sink) new r;
}

abbrev pub decreases-loop-chunk : goal.decreases-loop-chunk
decreases-loop-chunk g l = length l.chunk + length (g.S.Encoding.left l.cursor)
