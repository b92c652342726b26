use Rattle.std.proofs.Common.{◌≡◌, map, take, sym, ap, ◌∙◌, arith}
use Rattle.std.proofs.lemmas.List.{take-map, take-take}
use Rattle.lis_record_values.specs.declared.symbols.Sym.TheVariants.{Char}
use Rattle.lis_record_values.proofs.few.Few.from_front.Goals as goal

pub returns : goal.returns
returns c =
    let n = c.args.count in
    let text = c.args.text.now in
    let all : c.loop-place.place ≡ 15 = omega (arith, c.loop-place-test.false, c.loop-place.auto.place-end) in
    let whole = rw all at c.loop-place.invariant.1 in
    sym (take-take n 15 c.loop-place.symbols c.requires.few) ∙ ap (take n) whole
    ∙ take-map Char n (take 15 (take 16 text))
    ∙ ap (map Char) (take-take n 15 (take 16 text) c.requires.few
    ∙ take-take n 16 text (omega (arith, c.requires.few)))
