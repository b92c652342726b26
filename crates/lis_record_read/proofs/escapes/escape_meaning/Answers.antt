-- What each letter means, by the lemmas of Places; pairs of digits by meant_pairs, which the function names.
use Rattle.std.proofs.Common.{sym, ◌∙◌, length}
use Rattle.std.proofs.lemmas.Bool.{eqb-true}
use Rattle.lis_record_values.proofs.FirstFaults.{differ}
use Rattle.lis_record_read.proofs.Places.{escape_of-empty, escape_of-other, letter_meant, no_letter_meant, others_meant}
use Rattle.lis_record_read.proofs.escapes.escape_meaning.Goals as goal

pub returns-in_default : goal.returns-in_default
returns-in_default c = escape_of-empty c.args.delimiters c.args.inside.now c.in_default.ensures.cases

pub returns-in-Some-letter_symbol : goal.returns-in-Some-letter_symbol
returns-in-Some-letter_symbol c =
    letter_meant c.args.delimiters c.args.inside.now c.in-Some.digits.now c.in-Some.letter.now
    c.in-Some.ensures.cases.0 c.in-Some-letter_symbol.symbol
    (eqb-true _ _ (sym c.is_empty.ensures ∙ c.if-is_empty.true))
    (sym c.letter_symbol.ensures ∙ c.in-Some-letter_symbol.is)

pub returns-in-None : goal.returns-in-None
returns-in-None c =
    no_letter_meant c.args.delimiters c.args.inside.now c.in-Some.digits.now c.in-Some.letter.now
    c.in-Some.ensures.cases.0
    (eqb-true _ _ (sym c.is_empty.ensures ∙ c.if-is_empty.true)) (sym c.letter_symbol.ensures ∙ c.in-None.is)

pub returns-then-letter-ne88 : goal.returns-then-letter-ne88
returns-then-letter-ne88 c =
    escape_of-other c.args.delimiters c.args.inside.now c.in-Some.digits.now c.in-Some.letter.now
    c.in-Some.ensures.cases.0
    (differ (length c.in-Some.digits.now) 0 (sym c.is_empty.ensures ∙ c.if-is_empty.false)) c.if-letter-ne88.true

pub returns-then-not-are_pairs : goal.returns-then-not-are_pairs
returns-then-not-are_pairs c =
    others_meant c.args.delimiters c.args.inside.now c.in-Some.digits.now c.in-Some.letter.now c.in-Some.ensures.cases.0
    (differ (length c.in-Some.digits.now) 0 (sym c.is_empty.ensures ∙ c.if-is_empty.false)) c.if-letter-ne88.false
    (sym c.are_pairs.ensures ∙ c.if-not-are_pairs.true)
