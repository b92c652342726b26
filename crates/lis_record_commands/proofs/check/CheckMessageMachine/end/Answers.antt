use Rattle.std.proofs.Common.{ℕ, ap, if◌then◌else◌, nat_lt, rules}
use Rattle.lis_record_commands.specs.Check.{check_writes}
use Rattle.lis_record_commands.proofs.CheckLaws.{check_last}
use Rattle.lis_record_commands.proofs.check.CheckMessageMachine.end.Goals as goal

pub returns-in_err-print-clause-ends : goal.returns-in_err-print-clause-ends
returns-in_err-print-clause-ends g c = λ messages left checking counted few.
    let report =
    c.report_following-report.ensures check_writes messages counted few
    (ap (λ (n : ℕ). if nat_lt 0 n then 1 else 0) checking.reported_is) in
    let broke =
    rw (check_last c.report_following-report.result c.args.before c.args.self.now.findings_reported messages
    c.args.fault report counted checking.reported_is) at c.in_err-print.ensures in
    search (rules, broke)

pub returns-clause-ends : goal.returns-clause-ends
returns-clause-ends g c = λ messages left checking counted few.
    let report =
    c.report_following-report.ensures check_writes messages counted few
    (ap (λ (n : ℕ). if nat_lt 0 n then 1 else 0) checking.reported_is) in (
      report,
      rw (check_last c.report_following-report.result c.args.before c.args.self.now.findings_reported messages
          c.args.fault report counted checking.reported_is) at c.in_ok-print.ensures,
    )
