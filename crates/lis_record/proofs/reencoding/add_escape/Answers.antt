use Rattle.std.proofs.Common.{◌≡◌, ℕ, None, sym, ◌∙◌, ap, option_map, ◌+◌, ◌++◌, List, ◌∷◌, []}
use Rattle.lis_record_values.specs.declared.symbols.Sym.TheVariants.{Char}
use Rattle.lis_record_write.specs.Encoding.{encoded_symbol}
use Rattle.lis_record_values.specs.Shape.{Symbols}
use Rattle.lis_record_values.specs.Escapes.{escape_of}
use Rattle.lis_record_read.specs.FrontReading.{escape_at}
use Rattle.lis_record.proofs.AsIs.{escape_encoded}
use Rattle.lis_record_read.proofs.Places.{escape_at-found, escape_at-none}
use Rattle.lis_record.proofs.Runs.{escape_added, lone_added}
use Rattle.lis_record.proofs.reencoding.add_escape.Goals as goal
use Rattle.lis_record.proofs.reencoding.add_escape.Goals.{in-Some+in_default-escape_meaning, in_default}

pub returns-in-Some-escape_meaning-clause-same : goal.returns-in-Some-escape_meaning-clause-same
returns-in-Some-escape_meaning-clause-same c =
    escape_added c.args.delimiters c.escape-escape.result c.escape-escape.ensures c.args.out.now.items
    c.add_symbol.new.out.items c.add_raw.new.out.items c.args.text.now c.split_at.result.1.now
    c.in-Some-escape_meaning.digits.now c.in-Some.end c.in-Some-escape_meaning.symbol
    (sym c.place_of.ensures ∙ c.in-Some.is)
    (ap (escape_of c.args.delimiters) (sym c.split_at.ensures.front) ∙ c.in-Some-escape_meaning.ensures.0)
    c.split_at.ensures.back c.in_ok-add_symbol.ensures.ok c.in_ok-add_raw.ensures.ok

pub returns-clause-same : goal.returns-clause-same
returns-clause-same c =
    let d = c.args.delimiters in
    let text = c.args.text.now in
    let none : escape_at d text ≡ None =
    elim c.match-place_of.branch [
      | in-Some+in_default-escape_meaning w ↦
          let pair : Symbols → Symbols × ℕ = λ symbols. (symbols, w.in-Some.end + 1) in
          escape_at-found d text w.in-Some.end
          (rw c.escape-escape.ensures at (sym c.place_of.ensures ∙ w.in-Some.is))
          ∙ ap (option_map pair) (ap (escape_of d) (sym w.split_at.ensures.front)
          ∙ w.in_default-escape_meaning.ensures)
      | in_default w ↦
          escape_at-none d text (rw c.escape-escape.ensures at (sym c.place_of.ensures ∙ w.in_default.is))
    ] in
    let escape = c.escape-escape.result in
    let encoded : encoded_symbol d (Char escape) ≡ escape ∷ 69 ∷ escape ∷ [] =
    rw c.escape-escape.ensures (escape_encoded d c.field.ensures.shape) in
    lone_added d escape c.escape-escape.ensures c.args.out.now.items c.extend_from_slice.new.self.items text none
    (c.in_ok-extend_from_slice.ensures.items ∙ ap (λ (l : List ℕ). c.args.out.now.items ++ l) (sym encoded))
