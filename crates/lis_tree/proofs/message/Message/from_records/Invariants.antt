use Rattle.std.proofs.Common.{length}
use Rattle.std.specs.Vec.Iter.{into_iter_items}
use Rattle.lis_tree.proofs.ListFaults.{IsSoFar}
use Rattle.lis_tree.proofs.message.Message.from_records.Given as goal

-- the records so far, and those that are left
abbrev pub invariant-loop-entry : goal.invariant-loop-entry
invariant-loop-entry l = IsSoFar l.fn.delimiters l.fn.records l.begun (into_iter_items l.rest)

abbrev pub decreases-loop-entry : goal.decreases-loop-entry
decreases-loop-entry l = length (into_iter_items l.rest)
