-- The items of lists that keep few of them in place.
use Rattle.std.specs.Prelude.{List, [], ◌∷◌}
use Rattle.lis_record_values.specs.declared.one_or_more.Items.{Items}
use Rattle.lis_record_values.specs.declared.one_or_more.Items.TheVariants.{One, Many}
use Rattle.lis_record_values.specs.declared.symbol_list.Kept.{Kept}
use Rattle.lis_record_values.specs.declared.symbol_list.Kept.TheVariants.{Few, Many as ManySymbols}
use Rattle.lis_record_values.specs.Shape.{Symbols}

-- the items of a list that keeps an only item in place
abbrev pub items_of : {A : Type 0} → Items A → List A
items_of (One item) = item ∷ []
items_of (Many items) = items.items

-- the symbols of a list that keeps few of them in place
abbrev pub symbols_kept : Kept → Symbols
symbols_kept (Few few) = few
symbols_kept (ManySymbols many) = many.items
