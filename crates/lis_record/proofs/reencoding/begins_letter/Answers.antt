use Rattle.std.proofs.Common.{sym, ap, ◌∙◌, Option}
use Rattle.std.specs.Option.{is_some}
use Rattle.lis_record_values.specs.declared.symbols.Sym.{Sym}
use Rattle.lis_record.proofs.AsIs.{letter_is_there}
use Rattle.lis_record.proofs.reencoding.begins_letter.Goals as goal

pub returns-then-end-escape : goal.returns-then-end-escape
returns-then-end-escape c = λ begins. (
  c.in-len2-up.len_at_least,
  letter_is_there c.args.delimiters c.field.ensures.shape c.args.text.now c.in-len2-up.len_at_least
      (c.if-end-escape.true ∙ c.escape.ensures)
      (sym (c.is_some.ensures ∙ ap (λ (o : Option Sym). is_some o) c.letter_symbol.ensures) ∙ begins),
)
