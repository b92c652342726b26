use Rattle.std.proofs.Common.{◌++◌, List, ℕ, ap, sym, ◌∙◌}
use Rattle.lis_record_read.proofs.Places.{Lacks-position, is_some_none}
use Rattle.lis_record.proofs.Reencoded.{reencoded_as_is}
use Rattle.lis_record.proofs.reencoding.add_reencoded.Goals as goal

pub returns-clause-ok : goal.returns-clause-ok
returns-clause-ok c =
    let none = is_some_none c.place_of.result (sym c.is_some.ensures ∙ c.if-is_some.false) in
    let free = rw c.escape.ensures at (Lacks-position c.escape.result c.args.text.now
    (sym c.place_of.ensures ∙ none)) in
    c.in_ok-extend_from_slice.ensures.items
    ∙ ap (λ (l : List ℕ). c.args.out.now.items ++ l) (sym (reencoded_as_is c.args.delimiters c.args.text.now free))
