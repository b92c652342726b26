use Rattle.std.proofs.Common.{ap, subst, sym, ◌∙◌}
use Rattle.lis_record_values.specs.Delimiters.{DelimiterBytes}
use Rattle.lis_record_values.specs.Shape.{Symbols}
use Rattle.lis_record_read.specs.FrontReading.{symbols_of}
use Rattle.lis_record_read.proofs.Components.{symbols_of-IsComponent}
use Rattle.lis_c.specs.Records.{IsCopied, delimiters_in, plain}
use Rattle.lis_c.proofs.parts.lis_part_decode.Goals as goal

pub returns-in-Ok-clause-decoded : goal.returns-in-Ok-clause-decoded
returns-in-Ok-clause-decoded c symbols is_d is_component =
    let d = delimiters_in c.args.delimiters.now in
    let known = c.in-Ok.ensures.found.0 in
    subst (λ (l : Symbols). IsCopied (plain l) c.report_symbols.result c.args.out.now c.report_symbols.new.out
    c.report_symbols.new.size)
    (c.of_text.ensures ∙ ap (λ (x : DelimiterBytes). symbols_of x c.args.part.now) known
    ∙ sym (symbols_of-IsComponent d is_d c.args.part.now symbols is_component))
    c.report_symbols.ensures.copied
