use Rattle.std.proofs.Common.{◌≡◌, ◌+◌, ◌-◌, ◌^◌, ◌≤◌, min, [], ◌++◌, length}
use Rattle.lis_record_write.proofs.writing.encoded_length.Given as goal

abbrev pub invariant-loop-cursor : goal.invariant-loop-cursor
invariant-loop-cursor l = record {
  same : min (l.count + length (l.chunk ++ l.cursor)) (2 ^ 64 - 1)
      ≡ min (length (l.initial.chunk ++ l.initial.cursor)) (2 ^ 64 - 1);
  filled : length l.chunk ≡ 0 → l.cursor ≡ [];
  bound : l.count ≤ 2 ^ 64 - 1;
}

abbrev pub decreases-loop-cursor : goal.decreases-loop-cursor
decreases-loop-cursor l = length l.chunk + length l.cursor
