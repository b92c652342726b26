use Rattle.std.proofs.Common.{◌≡◌, ◌+◌, length}
use Rattle.lis_tree.specs.Results.{results_left, results_of}
use Rattle.lis_bytes.specs.Capped.{capped}
use Rattle.uses.proofs.results.results_in.Given as goal

-- those that were gone over, and those that are left
abbrev pub invariant-loop-placed : goal.invariant-loop-placed
invariant-loop-placed l = length l.yielded + length (results_left l._placed-iterator) ≡ length (results_of l.message)
    × l.count ≡ capped (length l.yielded)
