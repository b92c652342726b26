use Rattle.std.proofs.Common.{◌≡◌, List, ℕ, arith, false, nat_eq, not, refl, subst, true}
use Rattle.std.proofs.lemmas.Bool.Decides.{nat_tests}
use Rattle.lis_engine.specs.Output.{WentOn}
use Rattle.lis_run.proofs.PlayingLaws.{compared_text, counted, passed_computer, played_computer}
use Rattle.lis_run.proofs.playing.Playing.compare.Goals as goal

pub returns-then-not-this-clause-steps : goal.returns-then-not-this-clause-steps
returns-then-not-this-clause-steps g c = λ lines playing number few.
    let passed : not (nat_eq g.row.IN_LINES 0) ≡ false = grind (arith, nat_tests, c.if-not-this.true) in
    passed_computer c.args.bytes.now c.args.out.now passed c.requires playing

pub returns-clause-steps : goal.returns-clause-steps
returns-clause-steps g c = λ lines playing number few.
    let in_lines : not (nat_eq g.row.IN_LINES 0) ≡ true = grind (arith, nat_tests, c.if-not-this.false) in
    let compared = c.in_ok-self.ensures in (
      subst (λ (t : List ℕ). WentOn c.args.out.now c.put_any_difference.new.out t)
          (compared_text _ g.row.N lines c.args.bytes.now in_lines)
          (rw (number, playing.replies_are in_lines) at compared.0),
      played_computer playing c.args.bytes.now refl refl (λ is. c.clear.ensures.items)
          (λ is. counted playing c.args.bytes.now in_lines (omega (arith, number, few)) compared.1),
    )
