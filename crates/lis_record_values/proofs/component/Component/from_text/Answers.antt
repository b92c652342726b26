use Rattle.std.proofs.Common.{◌<◌, subst, sym}
use Rattle.std.proofs.lemmas.List.{get_or_default}
use Rattle.std.proofs.lemmas.List.Elements.{All-map}
use Rattle.lis_record_values.specs.declared.symbols.Sym.TheVariants.{Char}
use Rattle.lis_record_values.specs.Shape.{AreSymbols, IsSymbol}
use Rattle.lis_record_values.proofs.component.Component.from_text.Goals as goal

pub invariant_of-result : goal.invariant_of-result
invariant_of-result c =
    let text = c.args.text.now in
    subst AreSymbols (sym c.in_ok-from_text.ensures)
    (All-map IsSymbol Char text
    (λ k d within. subst (λ byte. byte < 256) (get_or_default text k 0 d within) (c.type_inv.text k).fits))
