use Rattle.std.proofs.Common.{◌≡◌, ℕ, ◌+◌, List, subst, sym, take}
use Rattle.lis_frame.specs.Scanner.{Held, HoldsAtMost, unmarked_length}
use Rattle.lis_frame.specs.inside.Scanner.{with_bytes}
use Rattle.lis_frame.proofs.KeptLemmas.{with_bytes-outside}
use Rattle.lis_frame.proofs.ScannerLemmas.{HoldsAtMost-with_bytes}
use Rattle.lis_frame.proofs.scanner.ScannerOf.run_on.Goals as goal

pub returns-else-self-clause-held : goal.returns-else-self-clause-held
returns-else-self-clause-held g c =
    let run = take (unmarked_length c.args.bytes.now) c.args.bytes.now in
    rw (← c.self.view_is, c.if-self.false) (sym (with_bytes-outside g.row.N run))

-- what is held after the bytes up to the next mark
within_bounds : (limit : ℕ) (held new : Held) (run : List ℕ) → HoldsAtMost (limit + 5) held
    → new ≡ with_bytes limit held run → HoldsAtMost (limit + 5) new
within_bounds limit held new run h is = subst (HoldsAtMost (limit + 5)) (sym is)
    (HoldsAtMost-with_bytes limit held run h)

pub invariant_of-self : goal.invariant_of-self
invariant_of-self g c = (
  c.self.invariant.0,
  within_bounds g.row.N c.self.inside.body _ (take c.until_mark-count.result c.args.bytes.now) c.self.invariant.1
      c.extend.ensures,
)

pub returns-then-self-clause-kept : goal.returns-then-self-clause-kept
returns-then-self-clause-kept g c =
    rw c.if-self.true
    (within_bounds g.row.N c.self.inside.body _ (take c.until_mark-count.result c.args.bytes.now)
    c.self.invariant.1 c.extend.ensures)
