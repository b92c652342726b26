use Rattle.std.proofs.Common.{◌≡◌, ◌^◌, ◌-◌, min, Ok, Err, sym, ◌∙◌, ap, refl, arith}
use Rattle.lis_record_values.specs.Shape.{Repeats}
use Rattle.lis_record_write.specs.declared.faults.WriteFault.TheVariants as write_faults
use Rattle.lis_record.specs.Borrowed.{Borrowed}
use Rattle.lis_record_write.specs.Encoding.{encoded_field}
use Rattle.lis_record_read.proofs.Places.{Lacks-position, is_some_none}
use Rattle.lis_record.proofs.Reencoded.{field_as_is}
use Rattle.lis_record_write.proofs.WriteLaws.{WroteAny-same}
use Rattle.lis_record.proofs.borrowed.BorrowedParts+Repeat.put.Goals as goal

pub returns-in-Ok-clause-wrote : goal.returns-in-Ok-clause-wrote
returns-in-Ok-clause-wrote g c =
    let i = c.self.inside in
    let none = is_some_none c.place_of.result (sym c.is_some.ensures ∙ c.if-is_some.false) in
    let free = rw c.escape.ensures at (Lacks-position c.escape.result i.text.now (sym c.place_of.ensures ∙ none)) in
    WroteAny-same (encoded_field c.args.self.now.delimiters c.args.self.now.content) i.text.now
    (g.W.Sink.taken c.args.sink.now) (g.W.Sink.taken c.write_all.new.sink) (Ok tt)
    (ap (λ (f : Borrowed Repeats). encoded_field f.delimiters f.content) (sym c.self.view_is)
    ∙ field_as_is i.delimiters c.field.ensures.shape i.text.now c.self.invariant free)
    (refl, c.in-Ok.ensures.ok)

pub returns-in-Err-clause-wrote : goal.returns-in-Err-clause-wrote
returns-in-Err-clause-wrote g c =
    let i = c.self.inside in
    let none = is_some_none c.place_of.result (sym c.is_some.ensures ∙ c.if-is_some.false) in
    let free = rw c.escape.ensures at (Lacks-position c.escape.result i.text.now (sym c.place_of.ensures ∙ none)) in
    let exact : c.in-Err.count ≡ min c.in-Err.count (2 ^ 64 - 1) = omega arith in
    WroteAny-same (encoded_field c.args.self.now.delimiters c.args.self.now.content) i.text.now
    (g.W.Sink.taken c.args.sink.now) (g.W.Sink.taken c.write_all.new.sink) (Err (write_faults.Io c.in-Err.count))
    (ap (λ (f : Borrowed Repeats). encoded_field f.delimiters f.content) (sym c.self.view_is)
    ∙ field_as_is i.delimiters c.field.ensures.shape i.text.now c.self.invariant free)
    (refl, c.in-Err.count, exact, c.in-Err.ensures.err.0, c.in-Err.ensures.err.1)
