use Rattle.std.proofs.Common.{◌≡◌, ◌==◌, true, false, sym, ap, ◌∙◌, arith}
use Rattle.std.proofs.lemmas.Bool.Decides.{nat_tests}
use Rattle.lis_capture.specs.Line.{without_return}
use Rattle.lis_capture.proofs.LineLemmas.{return_dropped, line_kept}
use Rattle.lis_capture.proofs.line.without_return.Goals as goal

pub returns-in-Some : goal.returns-in-Some
returns-in-Some c =
    let is : (c.in-Some.last.now == 13) ≡ true = grind (arith, nat_tests, c.if-last-eq-CR.true) in
    sym (return_dropped c.in-Some.front.now c.in-Some.last.now is) ∙ ap without_return (sym c.in-Some.ensures.cases.0)

pub returns-in_default : goal.returns-in_default
returns-in_default c =
    let is : (c.in-Some.last.now == 13) ≡ false = grind (arith, nat_tests, c.if-last-eq-CR.false) in
    c.in-Some.ensures.cases.0 ∙ sym (line_kept c.in-Some.front.now c.in-Some.last.now is)
    ∙ ap without_return (sym c.in-Some.ensures.cases.0)
