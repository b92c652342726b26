use Rattle.std.proofs.Common.{◌∙◌, ap, drop}
use Rattle.lis_record_write.specs.WriteFaults.{check_fault}
use Rattle.lis_record_write.specs.Encoding.{written}
use Rattle.lis_record_write.proofs.WriteLaws.{Wrote-sent, Wrote-refused, is_io-refused, short-written}
use Rattle.lis_record_write.proofs.writing.write_record_from.Goals as goal

pub returns-in-Err-clause-wrote : goal.returns-in-Err-clause-wrote
returns-in-Err-clause-wrote g c =
    Wrote-refused c.args.delimiters.now c.args.entry.now c.in-Err.fault c.args.skip
    (written c.args.delimiters.now c.args.entry.now) (g.W.Sink.taken c.args.sink.now) c.in-Err.ensures.fault

pub returns-in-Err-clause-failed : goal.returns-in-Err-clause-failed
returns-in-Err-clause-failed g c = c.requires.open_sink
    ∙ is_io-refused c.args.delimiters.now c.args.entry.now c.in-Err.fault c.in-Err.ensures.fault

pub returns-clause-wrote : goal.returns-clause-wrote
returns-clause-wrote g c =
    let d = c.args.delimiters.now in
    let content = c.args.entry.now in
    Wrote-sent (check_fault d content) c.args.skip (written d content) _ (g.W.Sink.taken c.args.sink.now)
    (g.W.Sink.taken c.send.new.sink) c.send.result
    c.in_default.ensures.fault c.requires.skip (short-written d content c.in_default.ensures.fault)
    (c.pass_over-left.ensures.rest ∙ ap (drop c.args.skip) c.begin_record-cursor.ensures.whole) c.send.ensures.sent
