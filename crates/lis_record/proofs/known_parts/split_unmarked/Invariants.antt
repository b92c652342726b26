use Rattle.std.proofs.Common.{◌≡◌, ◌+◌, ◌<◌, ℕ, List}
use Rattle.lis_record.proofs.TakenFields.{Passed}
use Rattle.lis_record.proofs.known_parts.split_unmarked.Given as goal

-- some parts were passed over, and so many are left
pub record Passing (mark : ℕ) (text rest : List ℕ) (left count : ℕ) : Type 0 where
  pub passed : ℕ
  pub some : 0 < passed
  pub sum : passed + left ≡ count
  pub parts : Passed mark text rest passed

abbrev pub invariant-loop-left : goal.invariant-loop-left
invariant-loop-left l = Passing l.delimiter l.parts l.rest l.left l.count

abbrev pub decreases-loop-left : goal.decreases-loop-left
decreases-loop-left l = l.left
