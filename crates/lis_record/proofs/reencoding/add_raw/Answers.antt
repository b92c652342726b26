use Rattle.std.proofs.Common.{◌++◌, List, ℕ, append-nil, ap, sym, ◌∙◌}
use Rattle.lis_record_write.specs.Encoding.{encoded_component}
use Rattle.lis_record_read.specs.FrontReading.{digit_symbols}
use Rattle.lis_record_read.proofs.Pairs.{digit_symbols-none}
use Rattle.lis_record.proofs.reencoding.add_raw.Goals as goal

pub returns-clause-ok : goal.returns-clause-ok
returns-clause-ok c =
    let encoded = λ (digits : List ℕ). encoded_component c.args.delimiters (digit_symbols digits) in
    sym (append-nil c.loop-byte.out.items)
    ∙ ap (λ (l : List ℕ). c.loop-byte.out.items ++ l) (sym (ap encoded c.in_default.ensures
    ∙ ap (encoded_component c.args.delimiters) digit_symbols-none))
    ∙ c.loop-byte.invariant.1.whole
