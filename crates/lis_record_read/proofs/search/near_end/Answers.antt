use Rattle.std.proofs.Common.{ℕ, Option, length, unwrap_or, ap, arith, sym}
use Rattle.lis_record_read.proofs.Places.{IsFound-position, parts_of-first}
use Rattle.lis_record_read.proofs.Fronts.{near-found}
use Rattle.lis_record_read.proofs.search.near_end.Goals as goal

pub returns-clause-first : goal.returns-clause-first
returns-clause-first c =
    let text = c.args.text.now in
    let found = near-found c.args.delimiter text c.bits_of-bits.result (omega (arith, c.if-text-lt16.false))
    c.bits_of-bits.ensures c.if-bits-eq0.false in
    parts_of-first c.args.delimiter text _ (sym (ap (λ (o : Option ℕ). unwrap_or o (length text)) found))

pub returns-clause-bound : goal.returns-clause-bound
returns-clause-bound c =
    let text = c.args.text.now in
    let found = near-found c.args.delimiter text c.bits_of-bits.result (omega (arith, c.if-text-lt16.false))
    c.bits_of-bits.ensures c.if-bits-eq0.false in
    (IsFound-position c.args.delimiter text _ found).within
