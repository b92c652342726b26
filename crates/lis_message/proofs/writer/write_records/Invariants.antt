use Rattle.std.proofs.Common.{length}
use Rattle.lis_message.proofs.WritingLaws.{IsUnderWay}
use Rattle.lis_message.proofs.writer.write_records.Given as goal

abbrev pub invariant-loop-entry : goal.invariant-loop-entry
invariant-loop-entry g l =
    IsUnderWay l.delimiters (g.W.Sink.failed l.sink) l.walk l.at l.passed (g.W.Sink.taken l.sink) l.fn.walk l.fn.place
    l.fn.skip (g.W.Sink.taken l.fn.sink)

abbrev pub decreases-loop-entry : goal.decreases-loop-entry
decreases-loop-entry g l = length l.walk
