use Rattle.std.proofs.Common.{List, ℕ, ◌++◌, ◌∙◌, ap, sym}
use Rattle.std.proofs.lemmas.Fmt.{decimal_digit}
use Rattle.lis_engine.proofs.output_buffer.OutputBuffer.append_number.Goals as goal

pub returns-then-number-lt10-clause-value : goal.returns-then-number-lt10-clause-value
returns-then-number-lt10-clause-value c =
    c.append.ensures
    ∙ ap (λ (l : List ℕ). c.args.self.now ++ l) (sym (decimal_digit c.args.number c.if-number-lt10.true))
