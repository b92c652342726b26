use Rattle.std.proofs.Common.{◌≡◌, ℕ, ◌+◌, length}
use Rattle.lis_bytes.specs.Capped.{capped}
use Rattle.lis_tree.proofs.walk.count.Given as goal

abbrev pub invariant-loop-entry : goal.invariant-loop-entry
invariant-loop-entry l = (n : ℕ) × (l.number ≡ capped n) × (n + length l.walk ≡ length l.fn.walk)

abbrev pub decreases-loop-entry : goal.decreases-loop-entry
decreases-loop-entry l = length l.walk
