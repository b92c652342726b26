use Rattle.std.proofs.Common.{◌≡◌, ◌∷◌, ◌+◌, subst, sym, arith}
use Rattle.lis_record_values.specs.declared.kinds.Kind.{Kind}
use Rattle.lis_tree.specs.Findings.{findings_of}
use Rattle.lis_tree.specs.Numbers.{CountsOf}
use Rattle.lis_bytes.specs.Capped.{capped}
use Rattle.lis_tree.proofs.Counting.{findings_step}
use Rattle.lis_tree.proofs.numbering.findings.Goals as goal

pub loop-entry-preserved : goal.loop-entry-preserved
loop-entry-preserved c =
    let inv = c.loop-entry.invariant in
    let r = c.in-Some.entry.now in
    let added : c.saturating_add-place.result ≡ capped (inv.1 + 1) =
    omega (arith, inv.2, c.saturating_add-place.ensures) in (
      r.kind ∷ inv.0,
      inv.1 + 1,
      added,
      subst (λ (k : Kind). CountsOf (k ∷ inv.0) c.count-expected.new.self) c.kind-kind.ensures.kind
          (c.count-expected.ensures.counted inv.0 inv.3),
      findings_step (findings_of c.args.message.now) c.loop-entry.found c.add.new.found c.finding_on-finding.result
          inv.0 inv.1 r c.loop-entry.walk c.next.new.self inv.4 c.in-Some.ensures.next
          c.in_ok-add.ensures (c.finding_on-finding.ensures inv.0 inv.1 r
          (c.count-expected.ensures.expected inv.0 inv.3) inv.2 (sym c.kind-kind.ensures.kind)
          (sym c.record_number.ensures)),
    )
