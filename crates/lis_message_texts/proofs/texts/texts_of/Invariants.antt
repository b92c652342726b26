use Rattle.std.proofs.Common.{◌≡◌, ◌++◌, map, length}
use Rattle.lis_record_write.specs.Encoding.{written}
use Rattle.lis_message.specs.Writing.{AreWritable}
use Rattle.lis_message_texts.proofs.texts.texts_of.Given as goal

abbrev pub invariant-loop-entry : goal.invariant-loop-entry
invariant-loop-entry l =
    AreWritable l.delimiters l.walk × (map (written l.delimiters) l.fn.walk ≡ l.texts
    ++ map (written l.delimiters) l.walk)

abbrev pub decreases-loop-entry : goal.decreases-loop-entry
decreases-loop-entry l = length l.walk
