use Rattle.std.proofs.Common.{◌≡◌, ◌∷◌, [], List, ℕ, ap, get_or, sym, ◌∙◌, drop}
use Rattle.lis_record.specs.inside.Reencoding.{reencoded}
use Rattle.lis_record.proofs.Reencoded.{one_as_is, reencoded-mark}
use Rattle.lis_record.proofs.reencoding.add_following.Goals as goal

pub returns-then-byte-mark-clause-ok : goal.returns-then-byte-mark-clause-ok
returns-then-byte-mark-clause-ok c =
    let d = c.args.delimiters in
    let good = c.field-mark.ensures.shape in
    let following = c.in-Some.following.now in
    let is = c.in-Some.ensures.cases.0 in
    let same : reencoded d c.args.text.now ≡ d.field ∷ reencoded d (drop 1 c.args.text.now) =
    ap (reencoded d) (is ∙ ap (λ (b : ℕ). b ∷ following) (c.if-byte-mark.true ∙ c.field-mark.ensures.byte))
    ∙ reencoded-mark d good d.field good.field_is good.field_escape following
    ∙ ap (λ (l : List ℕ). d.field ∷ reencoded d (drop 1 l)) (sym is) in
    rw (← same) c.add_reencoded.ensures.ok

pub returns-clause-ok : goal.returns-clause-ok
returns-clause-ok c =
    let d = c.args.delimiters in
    let following = c.in-Some.following.now in
    let reported : reencoded d (drop 1 c.args.text.now) ≡ get_or following 0 0 ∷ [] =
    ap (λ (l : List ℕ). reencoded d (drop 1 l)) c.in-Some.ensures.cases.0
    ∙ one_as_is d following c.in-len1.len_at_least c.in-len1.len_below (rw c.escape.ensures at c.if-only-escape.true) in
    rw (reported, ← c.field-mark.ensures.byte) c.in_ok-extend_from_slice.ensures.items
