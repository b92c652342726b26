use Rattle.std.proofs.Common.{◌≡◌}
use Rattle.lis_tree.specs.Results.{results_left}
use Rattle.lis_tree.specs.inside.ResultsLeft.{size_left}
use Rattle.lis_tree.proofs.results.ResultsIterator.next.Given as goal

abbrev pub invariant-loop-found : goal.invariant-loop-found
invariant-loop-found l = results_left l.self ≡ results_left l.initial.self

abbrev pub decreases-loop-found : goal.decreases-loop-found
decreases-loop-found l = size_left l.self
