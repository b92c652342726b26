use Rattle.std.proofs.lemmas.Bool.{iff_false}
use Rattle.lis_record_write.proofs.Sinks.{Keeps-same}
use Rattle.lis_record_write.proofs.WriteLaws.{Wrote-field}
use Rattle.lis_record_write.proofs.writing.write_field.Goals as goal

pub returns-then-is_too_long-clause-wrote : goal.returns-then-is_too_long-clause-wrote
returns-then-is_too_long-clause-wrote g c =
    (c.is_too_long.ensures.0 c.if-is_too_long.true, Keeps-same (g.W.Sink.taken c.args.sink.now))

pub returns-clause-wrote : goal.returns-clause-wrote
returns-clause-wrote g c =
    Wrote-field c.args.delimiters.now c.args.field.now (g.W.Sink.taken c.args.sink.now)
    (g.W.Sink.taken c.put_field.new.sink) c.put_field.result
    (iff_false c.is_too_long.ensures c.if-is_too_long.false) c.put_field.ensures.wrote
