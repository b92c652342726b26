use Rattle.std.proofs.Common.{◌<◌, subst, sym, take}
use Rattle.std.proofs.lemmas.List.{get_or_default}
use Rattle.std.proofs.lemmas.List.Elements.{All-map, All-take}
use Rattle.lis_record_values.specs.declared.symbols.Sym.TheVariants.{Char}
use Rattle.lis_record_values.specs.Shape.{AreSymbols, IsSymbol}
use Rattle.lis_record_values.proofs.component.Component.from_front.Goals as goal

pub invariant_of-result : goal.invariant_of-result
invariant_of-result c =
    let front = take c.args.count c.args.text.now in
    subst AreSymbols (sym c.in_ok-from_front.ensures)
    (All-map IsSymbol Char front
    (All-take (λ byte. byte < 256) c.args.count c.args.text.now
    (λ k d within. subst (λ byte. byte < 256) (get_or_default c.args.text.now k 0 d within) (c.type_inv.text k).fits)))
