use Rattle.std.proofs.Common.{◌≡◌, ◌≤◌, [], ◌++◌, length, drop}
use Rattle.lis_record_write.proofs.writing.pass_over.Given as goal

abbrev pub invariant-loop-left : goal.invariant-loop-left
invariant-loop-left l = record {
  rest : drop l.left (l.chunk ++ l.cursor) ≡ drop l.initial.left (l.initial.chunk ++ l.initial.cursor);
  within : l.left ≤ length (l.chunk ++ l.cursor);
  filled : length l.chunk ≡ 0 → l.cursor ≡ [];
}

abbrev pub decreases-loop-left : goal.decreases-loop-left
decreases-loop-left l = l.left
