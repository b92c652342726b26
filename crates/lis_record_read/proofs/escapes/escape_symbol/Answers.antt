use Rattle.std.proofs.Common.{sym, ◌∙◌, ap}
use Rattle.lis_record_values.specs.Escapes.{escape_of}
use Rattle.lis_record_read.proofs.Pairs.{ArePairs-none}
use Rattle.lis_record_read.proofs.Places.{escape_first, open_first, other_first}
use Rattle.lis_record_read.proofs.escapes.escape_symbol.Goals as goal

pub returns-in_default-clause-same : goal.returns-in_default-clause-same
returns-in_default-clause-same c = open_first c.args.delimiters c.escape-escape.result c.escape-escape.ensures
    c.args.text.now (sym c.place_of.ensures ∙ c.in_default.is)

pub returns-in_default-clause-pairs : goal.returns-in_default-clause-pairs
returns-in_default-clause-pairs c = ArePairs-none

pub returns-in-Some-escape_meaning-clause-same : goal.returns-in-Some-escape_meaning-clause-same
returns-in-Some-escape_meaning-clause-same c =
    escape_first c.args.delimiters c.escape-escape.result c.escape-escape.ensures c.args.text.now c.in-Some.end
    c.split_at.result.1.now c.in-Some-escape_meaning.digits.now c.in-Some-escape_meaning.symbol
    (sym c.place_of.ensures ∙ c.in-Some.is) (ap (escape_of c.args.delimiters) (sym c.split_at.ensures.front)
    ∙ c.in-Some-escape_meaning.ensures.0) c.split_at.ensures.back

pub returns-in-None-clause-same : goal.returns-in-None-clause-same
returns-in-None-clause-same c =
    other_first c.args.delimiters c.escape-escape.result c.escape-escape.ensures c.args.text.now c.in-Some.end
    (sym c.place_of.ensures ∙ c.in-Some.is) (ap (escape_of c.args.delimiters) (sym c.split_at.ensures.front)
    ∙ c.in-None.ensures)

pub returns-in-None-clause-pairs : goal.returns-in-None-clause-pairs
returns-in-None-clause-pairs c = ArePairs-none
