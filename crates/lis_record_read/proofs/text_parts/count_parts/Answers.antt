use Rattle.std.proofs.Common.{◌+◌, ◌==◌, ℕ, sym, ◌∙◌, ap}
use Rattle.std.proofs.lemmas.List.Splits.{length-slice_split}
use Rattle.lis_record_read.proofs.text_parts.count_parts.Goals as goal

pub returns : goal.returns
returns c =
    ap (λ (n : ℕ). n + 1) c.count_of.ensures.count
    ∙ sym (length-slice_split (λ b. b == c.args.delimiter) c.args.text.now)
