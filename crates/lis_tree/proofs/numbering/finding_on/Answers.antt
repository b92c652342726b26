use Rattle.std.proofs.Common.{sym, ◌∙◌, ap}
use Rattle.lis_tree.specs.Numbers.{expected_number, is_number, is_numbered}
use Rattle.lis_bytes.specs.Capped.{capped}
use Rattle.lis_tree.proofs.Counting.{finding_right, finding_wrong, numbered_other, same_finding}
use Rattle.lis_tree.proofs.numbering.finding_on.Goals as goal

pub returns-then-is_number : goal.returns-then-is_number
returns-then-is_number c = λ earlier n r expects place kind number.
    let other = numbered_other c.args.kind (sym c.is_numbered.ensures ∙ c.if-not-is_numbered.false) in
    let expected = expects other.0 other.1 other.2 ∙ ap (λ k. capped (expected_number k earlier)) (sym kind) in
    sym (finding_right earlier n r (ap (λ o. is_number o (capped (expected_number r.kind earlier))) number
    ∙ ap (is_number c.args.number) (sym expected) ∙ sym c.is_number.ensures ∙ c.if-is_number.true))

pub returns : goal.returns
returns c = λ earlier n r expects place kind number.
    let numbered = sym c.is_numbered.ensures ∙ c.if-not-is_numbered.false in
    let other = numbered_other c.args.kind numbered in
    let expected = expects other.0 other.1 other.2 ∙ ap (λ k. capped (expected_number k earlier)) (sym kind) in
    same_finding c.args.place (capped n) c.args.kind r.kind c.args.expected
    (capped (expected_number r.kind earlier)) place (sym kind) expected
    ∙ sym (finding_wrong earlier n r (ap is_numbered kind ∙ numbered)
    (ap (λ o. is_number o (capped (expected_number r.kind earlier))) number
    ∙ ap (is_number c.args.number) (sym expected) ∙ sym c.is_number.ensures ∙ c.if-is_number.false))
