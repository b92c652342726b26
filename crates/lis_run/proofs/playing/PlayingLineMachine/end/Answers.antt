use Rattle.std.proofs.Common.{◌≡◌, arith, false, nat_eq, not}
use Rattle.std.proofs.lemmas.Bool.Decides.{nat_tests}
use Rattle.lis_run.proofs.PlayingLaws.{texts_end}
use Rattle.lis_run.proofs.playing.PlayingLineMachine.end.Goals as goal

pub returns-clause-ends : goal.returns-clause-ends
returns-clause-ends g c = λ lines playing few.
    let texts : not (nat_eq g.row.IN_LINES 0) ≡ false = grind (arith, nat_tests, c.if-this-ne0.false) in
    rw c.of.ensures (texts_end _ g.row.N lines c.args.out.now texts c.requires)
