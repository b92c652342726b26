use Rattle.std.proofs.Common.{◌++◌, ◌∙◌, List, ap, drop, length, take, refl}
use Rattle.lis_table.specs.declared.table.LisPart.{LisPart}
use Rattle.lis_table.proofs.Scans.{scanned-record}
use Rattle.lis_table.proofs.table.put_places.Goals as goal

pub returns-clause-count : goal.returns-clause-count
returns-clause-count c =
    c.put_from.ensures.count
    ∙ ap length (scanned-record c.args.delimiters c.args.kind c.args.text.now _ c.front_length-before.result
    c.first_place.result c.front_length-before.ensures c.if-text-before.false
    (rw (c.first_place.ensures, c.front_length-before.ensures) refl) c.first_place.ensures)

pub returns-clause-put : goal.returns-clause-put
returns-clause-put c =
    c.put_from.ensures.put
    ∙ ap (λ (l : List LisPart). take (length c.args.out.now) l ++ drop c.put_from.result c.args.out.now)
    (scanned-record c.args.delimiters c.args.kind c.args.text.now _ c.front_length-before.result
    c.first_place.result c.front_length-before.ensures c.if-text-before.false
    (rw (c.first_place.ensures, c.front_length-before.ensures) refl) c.first_place.ensures)
