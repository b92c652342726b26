use Rattle.std.specs.Int.Count.{count_trailing_zeros}
use Rattle.std.proofs.Common.{◌≡◌, ◌+◌, ◌<◌, ◌∷◌, ℕ, List, drop}
use Rattle.lis_record.proofs.TakenFields.{Passed}
use Rattle.lis_record.proofs.LeftMarks.{LeftMarks, Next, end_is, is_mark, left-next}
use Rattle.lis_record.proofs.known_parts.split_parts.Given as goal

-- some parts were passed over up to a place, after which one begins
pub record PassingMarks (mark : ℕ) (text : List ℕ) (left ahead count : ℕ) : Type 0 where
  pub place : ℕ
  pub some : 0 < place
  pub passed : ℕ
  pub sum : passed + ahead + 1 ≡ count
  pub marks : LeftMarks mark text left place
  pub parts : Passed mark (drop 1 text) (mark ∷ drop place text) passed

-- the next delimiter is the lowest bit that is left
pub next-mark : {mark : ℕ} {text : List ℕ} {left ahead count : ℕ} (p : PassingMarks mark text left ahead count)
    → (left ≡ 0 → ⊥) → Next (is_mark mark) text left p.place p.marks.count (count_trailing_zeros 64 left)
next-mark {mark} {text} {left} {ahead} {count} p some =
    left-next (is_mark mark) text left p.place p.marks.count p.marks.are some (count_trailing_zeros 64 left)
    (end_is (is_mark mark) text left p.place p.marks.count p.marks.are some)

abbrev pub invariant-loop-ahead : goal.invariant-loop-ahead
invariant-loop-ahead l = PassingMarks l.delimiter l.text l.left l.ahead l.count

abbrev pub decreases-loop-ahead : goal.decreases-loop-ahead
decreases-loop-ahead l = l.ahead
