use Rattle.std.proofs.Common.{sym, ◌∙◌}
use Rattle.lis_record_read.proofs.Pairs.{ArePairs-none}
use Rattle.lis_record_read.proofs.Places.{plain_first, symbols_of-nil}
use Rattle.lis_record_read.proofs.escapes.first_symbol.Goals as goal

pub returns-in_default : goal.returns-in_default
returns-in_default c = symbols_of-nil c.args.delimiters c.args.text.now c.in_default.ensures.cases

pub returns : goal.returns
returns c = (
  plain_first c.args.delimiters c.in-Some.byte.now c.args.text.now c.in-Some.rest.now c.in-Some.ensures.cases.0
      (λ same. c.if-byte-escape.false (same ∙ sym c.escape.ensures)),
  ArePairs-none,
)
