use Rattle.std.proofs.Common.{◌≡◌, List, ◌++◌}
use Rattle.std.specs.List.{AllZip}
use Rattle.lis_tree.specs.Results.{ResultNode, results_left, results_of}
use Rattle.uses.specs.Readings.{IsReading}
use Rattle.uses.proofs.results.readings.Given as goal

-- those that were gone over, and those that are left
abbrev pub invariant-loop-placed : goal.invariant-loop-placed
invariant-loop-placed l = (done : List ResultNode) × (results_of l.message ≡ done ++ results_left l.placed-iterator)
    × AllZip IsReading done l.found.items
