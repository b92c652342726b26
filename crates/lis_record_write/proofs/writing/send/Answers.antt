use Rattle.std.proofs.Common.{◌∙◌, sym, length, drop, Ok, Err, arith}
use Rattle.std.proofs.lemmas.Bool.{eqb-true}
use Rattle.lis_record_write.specs.declared.faults.WriteFault.TheVariants as write_faults
use Rattle.lis_record_write.proofs.Sinks.{Appends-nothing, Sent-more, Sent-part}
use Rattle.lis_record_write.proofs.writing.send.Goals as goal

pub returns-in-Err-clause-sent : goal.returns-in-Err-clause-sent
returns-in-Err-clause-sent g c =
    let i = c.loop-chunk.invariant in
    let bytes = rw c.as_slice.ensures.value at c.split_at.ensures.back in
    let failed = rw bytes at c.in-Err.ensures.err in
    i.goes_on (g.W.Sink.taken c.write_all.new.sink) (Err (write_faults.Io c.saturating_add.result))
    (Sent-part c.loop-chunk.passed c.saturating_add.result c.in-Err.count (drop c.loop-chunk.left c.loop-chunk.chunk)
    (g.S.Encoding.left c.loop-chunk.cursor) (g.W.Sink.taken c.loop-chunk.sink) (g.W.Sink.taken c.write_all.new.sink)
    c.saturating_add.ensures failed.0 failed.1)

pub loop-chunk-preserved : goal.loop-chunk-preserved
loop-chunk-preserved g c =
    let i = c.loop-chunk.invariant in
    let bytes = rw c.as_slice.ensures.value at c.split_at.ensures.back in
    let same = rw c.clear.ensures at c.fill.ensures.same in
    record {
      open_sink = c.in_default.ensures.failed;
      within = omega arith;
      filled = c.fill.ensures.done;
      goes_on = λ new r h. i.goes_on new r
          (Sent-more c.loop-chunk.passed c.saturating_add-passed.result (drop c.loop-chunk.left c.loop-chunk.chunk)
          (g.S.Encoding.left c.loop-chunk.cursor) (g.W.Sink.taken c.loop-chunk.sink)
          (g.W.Sink.taken c.write_all.new.sink) new r
          (rw bytes at c.saturating_add-passed.ensures) (rw bytes at c.in_default.ensures.ok) (rw same at h));
    }

pub returns-clause-sent : goal.returns-clause-sent
returns-clause-sent g c =
    let i = c.loop-chunk.invariant in
    let none = eqb-true (length c.loop-chunk.chunk) 0 (sym c.is_empty.ensures ∙ c.loop-chunk-test.false) in
    i.goes_on (g.W.Sink.taken c.loop-chunk.sink) (Ok tt)
    (Appends-nothing (g.W.Sink.taken c.loop-chunk.sink) c.loop-chunk.chunk (g.S.Encoding.left c.loop-chunk.cursor)
    c.loop-chunk.left none (i.filled none))
