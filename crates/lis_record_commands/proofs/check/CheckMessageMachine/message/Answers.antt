use Rattle.std.proofs.Common.{◌++◌, ◌∷◌, [], None, Ok, Err, arith, refl, rules}
use Rattle.lis_record_commands.specs.inside.Check.{IsChecking}
use Rattle.lis_record_commands.proofs.CheckLaws.{check_put, reported_more}
use Rattle.lis_record_commands.proofs.check.CheckMessageMachine.message.Goals as goal

pub returns-in_err-print-clause-steps : goal.returns-in_err-print-clause-steps
returns-in_err-print-clause-steps g c = λ messages message is counted few.
    let self = c.args.self.now in
    let steps =
    check_put messages message c.args.before c.saturating_add-number.result
    (IsChecking self.records.bytes.items self.findings.bytes.items self.numbering self.found self.findings_reported
    (messages ++ message ∷ []) None)
    c.args.out.now c.print.new.out (Err c.in_err-print.field-0.0) is counted few
    (λ short. omega (arith, short, c.saturating_add-number.ensures))
    (rw (c.as_slice.ensures, c.as_slice-2.ensures) at c.in_err-print.ensures) tt in
    search (rules, steps)

pub returns-clause-steps : goal.returns-clause-steps
returns-clause-steps g c = λ messages message is counted few.
    let self = c.args.self.now in
    check_put messages message c.args.before c.saturating_add-number.result _ c.args.out.now c.print.new.out (Ok tt) is
    counted few
    (λ short. omega (arith, short, c.saturating_add-number.ensures))
    (rw (c.as_slice.ensures, c.as_slice-2.ensures) at c.in_ok-print.ensures)
    (record {
      record_lines_are = c.clear.ensures;
      finding_lines_are = c.clear-2.ensures;
      numbered = c.new-self.ensures;
      found_is = refl;
      reported_is = reported_more self.records.bytes.items self.findings.bytes.items self.numbering self.found
          self.findings_reported
          c.saturating_add-self.result messages message is few
          (λ short. omega (arith, short, c.saturating_add-self.ensures));
    })
