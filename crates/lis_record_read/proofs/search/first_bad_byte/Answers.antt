use Rattle.std.proofs.Common.{◌∙◌, sym, not}
use Rattle.std.proofs.lemmas.Iterator.Adapters.{position_from-zero}
use Rattle.lis_record_values.specs.Text.{is_text_byte}
use Rattle.lis_record_read.proofs.BadBytes.{found_before, found_bound, found_texts, found_none}
use Rattle.lis_record_read.proofs.search.first_bad_byte.Goals as goal

pub returns-clause-place : goal.returns-clause-place
returns-clause-place c = c.first_bad.ensures ∙ sym (position_from-zero (λ b. not (is_text_byte b)) c.args.bytes.now)

pub returns-clause-bound : goal.returns-clause-bound
returns-clause-bound c = found_bound c.args.bytes.now c.first_bad.result c.first_bad.ensures

pub returns-clause-before : goal.returns-clause-before
returns-clause-before c = found_before c.args.bytes.now c.first_bad.result c.first_bad.ensures

pub returns-clause-texts : goal.returns-clause-texts
returns-clause-texts c = found_texts c.args.bytes.now c.first_bad.result c.first_bad.ensures

pub returns-clause-text : goal.returns-clause-text
returns-clause-text c = found_none c.args.bytes.now c.first_bad.result c.first_bad.ensures
