use Rattle.std.proofs.Common.{◌≡◌, ◌<◌, ◌∙◌, ap, map, length, arith, get_or}
use Rattle.std.proofs.lemmas.List.{get_or-map, length-map}
use Rattle.lis_record_values.specs.declared.symbols.Sym.TheVariants.{Char}
use Rattle.lis_record_values.proofs.component.Component.to_text.Goals as goal

pub returns-in_default : goal.returns-in_default
returns-in_default c = λ bytes same.
    let i = c.loop-symbol.symbol-index in
    let items : c.as_slice-symbol-items.result.now ≡ map Char bytes =
    c.as_slice-symbol-items.ensures ∙ c.self.view_is ∙ same in
    let within : i < length bytes = omega (
      arith,
      c.loop-symbol-test.true,
      c.loop-symbol.auto.symbol-index-end,
      ap
          length items,
      length-map bytes Char,
    ) in
    c.in_default.not-Char (get_or bytes i 0) (ap (λ xs. get_or xs i (Char 0)) items
    ∙ get_or-map Char bytes i 0 (Char 0) within)
