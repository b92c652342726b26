use Rattle.std.proofs.Common.{[], ap, refl, length, map}
use Rattle.lis_record_values.specs.Shape.{Symbols}
use Rattle.lis_record_read.specs.FrontReading.{components_of, parts_following, symbols_of}
use Rattle.lis_record.proofs.BorrowedTexts.{following_first, following_none, symbol_taken, text_repeat-first}
use Rattle.lis_record_write.proofs.Steps.{component_case, nothing_left, repeat_case, symbols_case}
use Rattle.lis_record.proofs.borrowed_cursor.BorrowedCursorEncoding.step.Goals as goal

pub returns-in-Some-clause-same : goal.returns-in-Some-clause-same
returns-in-Some-clause-same c =
    let i = c.self.inside in
    let d = i.delimiters in
    symbols_case d c.args.chunk.now c.push_symbol.new.self c.args.self.now i.symbols c.next.new.self
    (map (symbols_of d) (parts_following d.component i.components.now))
    (map (components_of d) (parts_following d.repeat i.repeats.now)) [] []
    c.self.view_is (symbol_taken d c.args.chunk.now c.push_symbol.new.self i.symbols c.next.new.self c.in-Some.symbol
    c.in-Some.ensures c.push_symbol.ensures.after)

pub returns-in-Some-split_first-clause-same : goal.returns-in-Some-split_first-clause-same
returns-in-Some-split_first-clause-same c =
    let i = c.self.inside in
    let d = i.delimiters in
    let first = rw c.component-mark.ensures at c.first_part.ensures.parts in
    component_case d c.args.chunk.now c.push.new.self c.args.self.now i.symbols c.of_text-self-inside.result
    (symbols_of d c.first_part.result.0.now)
    (map (symbols_of d) (parts_following d.component i.components.now))
    (map (symbols_of d) (parts_following d.component c.first_part.result.1.now))
    (map (components_of d) (parts_following d.repeat i.repeats.now)) [] []
    c.self.view_is (ap (λ (s : Symbols). length s) c.in_default.ensures.0)
    (following_first (symbols_of d) d.component c.in-Some-split_first._delimiter.now i.components.now
    c.in-Some-split_first.text.now c.first_part.result.0.now c.first_part.result.1.now
    c.in-Some-split_first.ensures.cases.0 first)
    c.of_text-self-inside.ensures (rw c.component-mark.ensures at c.push.ensures)

pub returns-in-Some-split_first-2-clause-same : goal.returns-in-Some-split_first-2-clause-same
returns-in-Some-split_first-2-clause-same c =
    let i = c.self.inside in
    let d = i.delimiters in
    let outer = c.first_part-in-Some-split_first-2 in
    let inner = c.first_part-in-Some-split_first-2-2 in
    let read = c.of_text-self-inside-in-Some-split_first-2 in
    repeat_case d c.args.chunk.now c.push-in-Some-split_first-2.new.self c.args.self.now i.symbols read.result
    (map (symbols_of d) (parts_following d.component i.components.now))
    (map (symbols_of d) (parts_following d.component inner.result.1.now)) (components_of d outer.result.0.now)
    (map (components_of d) (parts_following d.repeat i.repeats.now))
    (map (components_of d) (parts_following d.repeat outer.result.1.now)) [] []
    c.self.view_is (ap (λ (s : Symbols). length s) c.in_default.ensures.0)
    (following_none (symbols_of d) d.component i.components.now c.in_default-split_first.ensures.cases)
    (following_first (components_of d) d.repeat c.in-Some-split_first-2._delimiter.now i.repeats.now
    c.in-Some-split_first-2.text.now outer.result.0.now outer.result.1.now c.in-Some-split_first-2.ensures.cases.0
    (rw c.repeat-outer.ensures at outer.ensures.parts))
    (text_repeat-first d outer.result.0.now inner.result.0.now inner.result.1.now read.result
    (rw c.component-inner.ensures at inner.ensures.parts) read.ensures)
    (rw c.repeat-outer.ensures at c.push-in-Some-split_first-2.ensures)

pub returns-clause-done : goal.returns-clause-done
returns-clause-done c = λ _.
    let i = c.self.inside in
    let d = i.delimiters in (
      nothing_left d c.next.new.self (map (symbols_of d) (parts_following d.component i.components.now))
          (map (components_of d) (parts_following d.repeat i.repeats.now)) [] []
          (ap (λ (s : Symbols). length s) c.in_default.ensures.1)
          (following_none (symbols_of d) d.component i.components.now c.in_default-split_first.ensures.cases)
          (following_none (components_of d) d.repeat i.repeats.now c.in_default-split_first-2.ensures.cases) refl refl,
      refl,
    )
