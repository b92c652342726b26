-- The front is one byte, a run of bytes or a frame, of whichever bytes it is the front.
use Rattle.std.proofs.Common.{◌≡◌, ◌≢◌, ◌∷◌, take, [], arith, subst, sym}
use Rattle.lis_link.specs.declared.receiver.Note.TheVariants.{OutOfMemory}
use Rattle.lis_link.specs.Front.{run, whole}
use Rattle.lis_link.specs.Receiver.{on_byte, with_heard}
use Rattle.lis_link.specs.Representation.{IsStepMade, RefusesFrame, SpareAfter}
use Rattle.lis_link.proofs.HearingLaws.{beside, front_byte, front_run, front_frame, same_first}
use Rattle.lis_link.proofs.receiver.ReceiverOf.hear_front.Goals as goal

pub returns-then-count-eq0-clause-front : goal.returns-then-count-eq0-clause-front
returns-then-count-eq0-clause-front g c xs same bound r is_in =
    let was = rw (← c.self.view_is) at is_in in
    let represents = rw c.if-count-eq0.true at (c.scan-count.ensures.after r.past was.stream_is) in
    let here = beside g.row.N c.self.inside.line c.self.inside.scanner c.scan-count.new.self c.args.self.now r []
    c.self.view_is is_in represents in
    let first = same_first c.args.bytes.now xs c.requires bound (sym same) in
    front_byte g.row.N xs r c.args.self.now.spare c.byte.result c.byte.new.self bound
    (subst (λ b. c.byte.result.note ≢ OutOfMemory → IsStepMade g.row.N (on_byte g.row.N b r) c.byte.result
    c.byte.new.self) first (c.byte.ensures.step r here))
    (subst (λ b. c.byte.result.note ≡ OutOfMemory → RefusesFrame g.row.N c.args.self.now.spare
    (on_byte g.row.N b r) (with_heard (b ∷ []) r) c.byte.result c.byte.new.self) first
    (rw (← c.self.view_is) (c.byte.ensures.refused r here)))
    (subst (λ b. SpareAfter c.args.self.now.spare c.byte.new.self.spare (on_byte g.row.N b r).taken) first
    (rw (← c.self.view_is) (c.byte.ensures.spare r here)))

pub returns-in-None-clause-front : goal.returns-in-None-clause-front
returns-in-None-clause-front g c xs same bound r is_in =
    let was = rw (← c.self.view_is) at is_in in
    let represents = rw (sym same) at (c.scan-count.ensures.after r.past was.stream_is) in
    let here = beside g.row.N c.self.inside.line c.self.inside.scanner c.scan-count.new.self c.args.self.now r
    (take c.scan-count.result.0 xs) c.self.view_is is_in represents in
    front_run g.row.N c.scan-count.result.0 xs r c.args.self.now.spare c.of.result _ bound
    (rw (sym same) at (rw c.in-None.is at (c.scan-count.ensures.signal r.past was.stream_is))) here c.of.ensures
    (rw (← c.self.view_is) (omega arith))

pub returns-in-Some-clause-front : goal.returns-in-Some-clause-front
returns-in-Some-clause-front g c xs same bound r is_in =
    let was = rw (← c.self.view_is) at is_in in
    let next = with_heard (take c.scan-count.result.0 xs) r in
    let represents = rw (sym same) at (c.scan-count.ensures.after r.past was.stream_is) in
    let here = beside g.row.N c.self.inside.line c.self.inside.scanner c.scan-count.new.self c.args.self.now r
    (take c.scan-count.result.0 xs) c.self.view_is is_in represents in
    front_frame g.row.N c.scan-count.result.0 xs c.in-Some.frame r c.args.self.now.spare c.good.result
    _ bound
    (rw (sym same) at (rw c.in-Some.is at c.scan-count.ensures.frame))
    (rw (sym same) at (rw c.in-Some.is at (c.scan-count.ensures.signal r.past was.stream_is)))
    (c.good.ensures.step g.row.N c.scan-count.new.self next here)
    (rw (← c.self.view_is) (c.good.ensures.refused g.row.N c.scan-count.new.self next here))
    (rw (← c.self.view_is) (c.good.ensures.spare g.row.N c.scan-count.new.self next here))

pub returns-in-None-clause-is : goal.returns-in-None-clause-is
returns-in-None-clause-is g c =
    run (λ frame begins. let some = c.scan-count.ensures.whole frame begins in let none = c.in-None.is in cc)
    (let count = rw c.in-None.is at c.scan-count.ensures.run in
    let some = c.if-count-eq0.false in omega (arith, count, some))

pub returns-in-Some-clause-is : goal.returns-in-Some-clause-is
returns-in-Some-clause-is g c = whole c.in-Some.frame (rw c.in-Some.is at c.scan-count.ensures.frame)
