use Rattle.std.proofs.Common.{◌≡◌, ◌+◌, ◌≤◌, [], ◌++◌, length}
use Rattle.lis_record_write.proofs.writing.is_within.Given as goal

abbrev pub invariant-loop-chunk : goal.invariant-loop-chunk
invariant-loop-chunk l = record {
  within : l.room ≤ l.initial.room;
  same : l.room + length (l.initial.chunk ++ l.initial.cursor) ≡ l.initial.room + length (l.chunk ++ l.cursor);
  filled : length l.chunk ≡ 0 → l.cursor ≡ [];
}

abbrev pub decreases-loop-chunk : goal.decreases-loop-chunk
decreases-loop-chunk l = length l.chunk + length l.cursor
