use Rattle.std.proofs.Common.{◌≡◌, ℕ, ◌+◌, ◌++◌, ◌∷◌, [], List, length, length-append, sym, ◌∙◌, ap, subst, arith}
use Rattle.lis_record_values.specs.declared.kinds.Kind.{Kind}
use Rattle.lis_tree.specs.Findings.{findings_from, kinds_back}
use Rattle.lis_tree.specs.Numbers.{CountsOf}
use Rattle.lis_bytes.specs.Capped.{capped}
use Rattle.lis_tree.proofs.Counting.{findings-more, kinds_back-more}
use Rattle.lis_tree.proofs.numbering.Numbering.take.Goals as goal

pub returns-clause-found : goal.returns-clause-found
returns-clause-found c = λ records has.
    let r = c.args.entry.now.content in
    let place : c.next_place-place.result ≡ capped (1 + length records) =
    c.next_place-place.ensures records has ∙ ap (λ (k : ℕ). capped k) (omega arith) in
    findings-more [] 1 records r
    ∙ ap (λ l. findings_from [] 1 records ++ l)
    (sym (c.finding_on.ensures (kinds_back [] records) (1 + length records) r
    (c.count-expected.ensures.expected (kinds_back [] records) has.counts) place
    (sym c.kind-kind.ensures) (sym c.borrowed_number.ensures)))

pub returns-clause-numbered : goal.returns-clause-numbered
returns-clause-numbered c = λ records has.
    let r = c.args.entry.now.content in
    record {
      counts =
          subst (λ (ks : List Kind). CountsOf ks c.count-expected.new.self)
          (ap (λ (k : Kind). k ∷ kinds_back [] records) c.kind-kind.ensures ∙ sym (kinds_back-more [] records r))
          (c.count-expected.ensures.counted (kinds_back [] records) has.counts);
      counted = omega (arith, has.counted, c.saturating_add-self.ensures, length-append records (r ∷ []));
    }
