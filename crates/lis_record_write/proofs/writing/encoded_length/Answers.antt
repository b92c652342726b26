use Rattle.std.proofs.Common.{◌∙◌, ap, sym, length, length-append, append-nil, arith}
use Rattle.std.proofs.lemmas.Bool.{eqb-true}
use Rattle.lis_record_write.specs.Encoding.{encoded}
use Rattle.lis_record_write.proofs.writing.encoded_length.Goals as goal

pub returns : goal.returns
returns c =
    let i = c.loop-cursor.invariant in
    let none = eqb-true (length c.loop-cursor.chunk) 0 (sym c.is_empty.ensures ∙ c.loop-cursor-test.false) in
    let done = ap length (i.filled none) in
    let size = length-append c.loop-cursor.chunk c.loop-cursor.cursor in
    let whole = ap length (c.begin_record-cursor.ensures.whole
    ∙ append-nil (encoded c.args.delimiters.now c.args.entry.now)) in
    omega (arith, i.same, i.bound, none, done, size, whole)
