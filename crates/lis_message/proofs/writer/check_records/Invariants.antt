use Rattle.std.proofs.Common.{◌≡◌, ℕ, length}
use Rattle.lis_bytes.specs.Capped.{capped}
use Rattle.lis_message.specs.Writing.{refusal_from}
use Rattle.lis_message.proofs.writer.check_records.Given as goal

-- the records so far can be written
abbrev pub invariant-loop-entry : goal.invariant-loop-entry
invariant-loop-entry l =
    (n : ℕ) × (l.place ≡ capped n) × (refusal_from l.fn.delimiters 1 l.fn.walk ≡ refusal_from l.delimiters n l.walk)

abbrev pub decreases-loop-entry : goal.decreases-loop-entry
decreases-loop-entry l = length l.walk
