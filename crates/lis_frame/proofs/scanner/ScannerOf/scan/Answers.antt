use Rattle.std.proofs.Common.{◌≡◌, ◌∙◌, Some, add-one, ap, arith, false}
use Rattle.std.specs.Prelude.{◌==◌}
use Rattle.std.proofs.lemmas.Bool.Decides.{nat_tests}
use Rattle.lis_text.specs.Control.{STX}
use Rattle.lis_frame.proofs.StreamLaws.{heard_frame, quiet_length-other, quiet_length-start, started_run, unmarked_run}
use Rattle.lis_frame.proofs.scanner.ScannerOf.scan.Goals as goal

pub returns-in-Some-front_frame-clause-frame : goal.returns-in-Some-front_frame-clause-frame
returns-in-Some-front_frame-clause-frame g c =
    rw (c.in-Some.ensures.cases.0, c.if-byte-ne-STX.false, add-one c.in-Some-front_frame.count)
    c.in-Some-front_frame.ensures.frame

pub returns-in-Some-front_frame-clause-signal : goal.returns-in-Some-front_frame-clause-signal
returns-in-Some-front_frame-clause-signal g c = λ past represents.
    rw (c.in-Some.ensures.cases.0, c.if-byte-ne-STX.false, add-one c.in-Some-front_frame.count)
    (heard_frame g.row.N past _ c.in-Some-front_frame.frame c.in-Some-front_frame.ensures.frame).0

pub returns-in-Some-front_frame-clause-after : goal.returns-in-Some-front_frame-clause-after
returns-in-Some-front_frame-clause-after g c = λ past represents.
    rw (c.in-Some.ensures.cases.0, c.if-byte-ne-STX.false, add-one c.in-Some-front_frame.count)
    (heard_frame g.row.N past _ c.in-Some-front_frame.frame c.in-Some-front_frame.ensures.frame).1

pub returns-then-byte-ne-STX-clause-run : goal.returns-then-byte-ne-STX-clause-run
returns-then-byte-ne-STX-clause-run g c =
    let other : (c.in-Some.byte.now == STX) ≡ false = grind (arith, nat_tests, c.if-byte-ne-STX.true) in
    c.run_on.ensures.count ∙ rw c.in-Some.ensures.cases.0
    (quiet_length-other c.in-Some.byte.now c.in-Some.following.now other)

pub returns-then-byte-ne-STX-clause-signal : goal.returns-then-byte-ne-STX-clause-signal
returns-then-byte-ne-STX-clause-signal g c = λ past represents.
    rw c.run_on.ensures.count (unmarked_run g.row.N c.args.self.now c.args.bytes.now past represents).0

pub returns-then-byte-ne-STX-clause-after : goal.returns-then-byte-ne-STX-clause-after
returns-then-byte-ne-STX-clause-after g c = λ past represents.
    rw (c.run_on.ensures.held, c.run_on.ensures.count)
    (unmarked_run g.row.N c.args.self.now c.args.bytes.now past represents).1

pub returns-clause-run : goal.returns-clause-run
returns-clause-run g c =
    rw (c.in-Some.ensures.cases.0, c.if-byte-ne-STX.false)
    (quiet_length-start c.in-Some.following.now _ c.run_on-2.ensures.count)

pub returns-clause-signal : goal.returns-clause-signal
returns-clause-signal g c = λ past represents.
    rw (c.in-Some.ensures.cases.0, c.if-byte-ne-STX.false, add-one c.run_on-2.result, c.run_on-2.ensures.count)
    (started_run g.row.N c.args.self.now c.in-Some.following.now past represents).0

pub returns-clause-after : goal.returns-clause-after
returns-clause-after g c = λ past represents.
    rw (
      c.in-Some.ensures.cases.0,
      c.if-byte-ne-STX.false,
      add-one c.run_on-2.result,
      c.run_on-2.ensures.count,
      c.run_on-2.ensures.held,
      c.hold.ensures,
    )
    (started_run g.row.N c.args.self.now c.in-Some.following.now past represents).1

pub returns-in-Some-front_frame-clause-whole : goal.returns-in-Some-front_frame-clause-whole
returns-in-Some-front_frame-clause-whole g c frame begins =
    ap Some
    (c.in-Some-front_frame.ensures.whole frame
    (rw (c.in-Some.ensures.cases.0, c.if-byte-ne-STX.false) at begins))

pub returns-clause-whole : goal.returns-clause-whole
returns-clause-whole g c frame begins =
    absurd
    (c.in_default-front_frame.ensures.whole frame
    (rw (c.in-Some.ensures.cases.0, c.if-byte-ne-STX.false) at begins))
