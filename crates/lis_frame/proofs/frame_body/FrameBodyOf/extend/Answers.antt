use Rattle.std.proofs.Common.{◌≡◌, ◌+◌, ◌++◌, true, arith, length-append, length-take-le}
use Rattle.std.specs.Prelude.{nat_lt}
use Rattle.std.proofs.lemmas.Bool.Decides.{nat_tests}
use Rattle.lis_frame.proofs.KeptLemmas.{kept_held-over, kept_held-run, kept-first, kept-more}
use Rattle.lis_frame.proofs.frame_body.FrameBodyOf.extend.Goals as goal

pub returns-then-count : goal.returns-then-count
returns-then-count g c =
    let kept = c.self.inside in
    let over : nat_lt (g.row.N + 5) (g.row.N + 5 + 1) ≡ true = grind (arith, nat_tests) in
    rw (← c.self.view_is)
    (rw over
    (kept_held-over g.row.N kept.count kept.number (kept.front ++ kept.back)
    (omega (arith, length-append kept.front kept.back)) c.args.taken _
    (length-take-le c.args.taken c.args.bytes.now c.requires) (omega (arith, c.if-count.true))))

pub returns-then-self-gt0 : goal.returns-then-self-gt0
returns-then-self-gt0 g c =
    let kept = c.self.inside in
    rw (← c.self.view_is)
    (kept_held-run g.row.N kept.count kept.number (kept.front ++ kept.back)
    (omega (arith, length-append kept.front kept.back)) c.args.taken _ _ _
    (length-take-le c.args.taken c.args.bytes.now c.requires) (omega (arith, c.if-count.false))
    (kept-more kept.count c.args.taken kept.number _ _ _ (omega arith) c.put_bytes_at.ensures))

pub returns : goal.returns
returns g c =
    let kept = c.self.inside in
    rw (← c.self.view_is)
    (kept_held-run g.row.N kept.count kept.number (kept.front ++ kept.back)
    (omega (arith, length-append kept.front kept.back)) c.args.taken _ _ _
    (length-take-le c.args.taken c.args.bytes.now c.requires) (omega (arith, c.if-count.false))
    (rw c.in-Some.ensures.cases.0
    (kept-first kept.count c.args.taken c.in-Some.number.now _ c.in-Some.following.now _ (omega arith) (omega arith)
    c.put_bytes_at-2.ensures)))
