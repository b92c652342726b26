use Rattle.std.proofs.Common.{◌≡◌, ℕ, ◌++◌, List, length}
use Rattle.lis_record_values.specs.declared.kinds.Kind.{Kind}
use Rattle.lis_tree.specs.Findings.{findings_from, findings_of}
use Rattle.lis_tree.specs.Numbers.{CountsOf}
use Rattle.lis_bytes.specs.Capped.{capped}
use Rattle.lis_tree.proofs.numbering.findings.Given as goal

-- the findings so far, and those on what is left
abbrev pub invariant-loop-entry : goal.invariant-loop-entry
invariant-loop-entry l =
    (earlier : List Kind) × (n : ℕ) × (l.place ≡ capped n)
    × CountsOf earlier l.counts
    × (findings_of l.message ≡ l.found ++ findings_from earlier n l.walk)

abbrev pub decreases-loop-entry : goal.decreases-loop-entry
decreases-loop-entry l = length l.walk
