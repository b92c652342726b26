use Rattle.std.proofs.Common.{◌+◌, drop, sym, ◌∙◌, ap, arith}
use Rattle.lis_tree.specs.Numbers.{digits_from}
use Rattle.lis_tree.proofs.Counting.{at_symbol, digit_more, digits_in, no_digit, pow_more}
use Rattle.lis_tree.proofs.numbering.component_number.Goals as goal

pub returns-in_default-symbol_digit : goal.returns-in_default-symbol_digit
returns-in_default-symbol_digit c =
    let inv = c.loop-place.invariant in
    let xs = c.args.component.now in
    sym (digits_in xs (omega arith) (omega arith) ∙ inv.0
    ∙ ap (digits_from c.loop-place.number) (at_symbol xs c.loop-place.place c.in-Some.symbol.now c.in-Some.ensures)
    ∙ no_digit c.loop-place.number c.in-Some.symbol.now (drop (c.loop-place.place + 1) xs)
    (sym c.in_default-symbol_digit.ensures.value))

pub loop-place-preserved : goal.loop-place-preserved
loop-place-preserved c =
    let inv = c.loop-place.invariant in
    let xs = c.args.component.now in (
      inv.0 ∙ ap (digits_from c.loop-place.number) (at_symbol xs c.loop-place.place c.in-Some.symbol.now
          c.in-Some.ensures)
          ∙ digit_more c.loop-place.number c.in-Some.symbol.now (drop (c.loop-place.place + 1) xs)
          c.in-Some-symbol_digit.digit (sym c.in-Some-symbol_digit.ensures.value),
      pow_more c.loop-place.number c.loop-place.place c.in-Some-symbol_digit.digit inv.1
          c.in-Some-symbol_digit.ensures.small,
    )
