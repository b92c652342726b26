use Rattle.std.proofs.Common.{◌≡◌, ℕ, ◌++◌, List, length}
use Rattle.lis_message.specs.inside.Feeding.{LeadsTo}
use Rattle.lis_message.specs.Records.{HasLeft}
use Rattle.lis_message.specs.inside.Records.{unended}
use Rattle.lis_message.proofs.reader.read_piece.Given as goal

-- what is read, and that it leads here
abbrev pub invariant-loop-following : goal.invariant-loop-following
invariant-loop-following l =
    (done : List ℕ) × (l.fn.piece ≡ done ++ l.rest) × HasLeft l.records l.begun
    × LeadsTo (unended l.fn.begun l.fn.records) l.initial.messages done (unended l.begun l.records) l.messages

abbrev pub decreases-loop-following : goal.decreases-loop-following
decreases-loop-following l = length l.rest
