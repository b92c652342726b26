use Rattle.std.proofs.Common.{sym, ◌∙◌, ap, List, ℕ}
use Rattle.lis_record_read.specs.FrontReading.{symbols_left}
use Rattle.lis_record_read.proofs.Places.{symbols_left-none}
use Rattle.lis_record_read.proofs.escapes.BorrowedSymbols.next.Goals as goal

pub returns-in-Some-first_symbol : goal.returns-in-Some-first_symbol
returns-in-Some-first_symbol c =
    let i = c.self.inside in
    sym c.self.view_is ∙ ap (λ (l : List ℕ). symbols_left i.delimiters l i.text.now) c.in_default.ensures
    ∙ symbols_left-none i.delimiters i.text.now ∙ c.in-Some-first_symbol.ensures.0

pub returns-in-None : goal.returns-in-None
returns-in-None c =
    let i = c.self.inside in
    let none = sym c.self.view_is ∙ ap (λ (l : List ℕ). symbols_left i.delimiters l i.text.now) c.in_default.ensures
    ∙ symbols_left-none i.delimiters i.text.now ∙ c.in-None.ensures in
    (none, none)
