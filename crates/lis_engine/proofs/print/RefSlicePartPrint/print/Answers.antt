use Rattle.std.proofs.Common.{◌≡◌, ◌+◌, ◌<◌, ◌≤◌, ◌∷◌, ◌++◌, [], ℕ, List, Ok, Err, drop, drop-cons, get_or, add-one}
use Rattle.std.proofs.Common.{length, length-drop, arith, refl, rules, subst, sym}
use Rattle.lis_engine.specs.declared.print.Part.{Part}
use Rattle.lis_engine.specs.Output.{Broke, WentOn}
use Rattle.lis_engine.specs.Parts.{part_text, parts_text}
use Rattle.lis_engine.proofs.OutputLaws.{breaks_on, nothing_put, put_on}
use Rattle.lis_engine.proofs.print.RefSlicePartPrint.print.Goals as goal

parts_at : (parts : List Part) (i : ℕ) (d : Part) → i < length parts
    → parts_text (drop i parts) ≡ part_text (get_or parts i d) ++ parts_text (drop (i + 1) parts)
parts_at parts i d within = rw (add-one, drop-cons parts i d) refl

no_parts : (parts : List Part) (i : ℕ) → length parts ≤ i → parts_text (drop i parts) ≡ []
no_parts parts i past = none (drop i parts) (omega (arith, length-drop i parts))
  where
    none : (ps : List Part) → length ps ≡ 0 → parts_text ps ≡ []
    none [] e = refl
    none (p ∷ ps) e = cc

pub loop-part-preserved : goal.loop-part-preserved
loop-part-preserved g c =
    let at = parts_at c.args.self.now.now c.loop-part.part-index _ c.loop-part-test.true in
    record {
      working = c.in_ok-print.ensures.working;
      goes_on = λ new r p. c.loop-part.invariant.goes_on new r (rw at (put_on _ _ _ r _ _ c.in_ok-print.ensures p));
    }

pub returns-in_err-print : goal.returns-in_err-print
returns-in_err-print g c =
    let at = parts_at c.args.self.now.now c.loop-part.part-index _ c.loop-part-test.true in
    let all : Broke c.args.out.now c.print.new.out c.in_err-print.field-0.0 (parts_text c.args.self.now.now) =
    c.loop-part.invariant.goes_on c.print.new.out (Err c.in_err-print.field-0.0)
    (rw at (breaks_on _ _ c.in_err-print.field-0.0 _ _ c.in_err-print.ensures)) in
    search (rules, all)

pub returns : goal.returns
returns g c =
    c.loop-part.invariant.goes_on c.loop-part.out (Ok tt)
    (subst (λ (text : List ℕ). WentOn c.loop-part.out c.loop-part.out text)
    (sym (no_parts c.args.self.now.now c.loop-part.part-index (omega (arith, c.loop-part-test.false))))
    (nothing_put c.loop-part.out c.loop-part.invariant.working))
