use Rattle.std.proofs.Common.{None, Some, sym, append-nil, arith}
use Rattle.lis_record_commands.specs.Check.{finding_line}
use Rattle.lis_record_commands.proofs.CheckLaws.{checking_on}
use Rattle.lis_record_commands.proofs.check.CheckMessageMachine.record.Goals as goal

pub returns-in_default : goal.returns-in_default
returns-in_default c = λ messages left text is comes few.
    let self = c.args.self.now in
    checking_on self.records.bytes.items self.findings.bytes.items self.numbering c.take.new.self self.found
    self.findings_reported
    messages left c.args.entry.now
    c.next_place-place.result None c.add_record.new.lines.bytes.items self.findings.bytes.items self.found is few
    c.next_place-place.ensures
    c.in_default.ensures.found c.in_default.ensures.numbered
    (rw (c.kind.ensures, c.len.ensures) at c.in_ok-add_record.ensures)
    (sym (append-nil self.findings.bytes.items)) (λ short. omega arith)

pub returns : goal.returns
returns c = λ messages left text is comes few.
    let self = c.args.self.now in
    checking_on self.records.bytes.items self.findings.bytes.items self.numbering c.take.new.self self.found
    self.findings_reported
    messages left c.args.entry.now
    c.next_place-place.result (Some c.in-Some.finding) c.add_record.new.lines.bytes.items
    c.add_finding.new.lines.bytes.items c.saturating_add-self.result is few
    c.next_place-place.ensures
    c.in-Some.ensures.found c.in-Some.ensures.numbered
    (rw (c.kind.ensures, c.len.ensures) at c.in_ok-add_record.ensures)
    (rw (append-nil (finding_line c.in-Some.finding)) c.in_ok-add_finding.ensures)
    (λ short. omega (arith, short, c.saturating_add-self.ensures))
