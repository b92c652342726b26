use Rattle.std.proofs.Common.{length}
use Rattle.lis_record_read.specs.inside.FrontReading.{stops}
use Rattle.lis_table.proofs.StopLaws.{AreAfter}
use Rattle.lis_table.proofs.stops.stops_by_one.Given as goal

abbrev pub invariant-loop-byte : goal.invariant-loop-byte
invariant-loop-byte l = AreAfter (stops l.delimiters l.delimiters.escape) l.text l.rest l.bits

abbrev pub decreases-loop-byte : goal.decreases-loop-byte
decreases-loop-byte l = length l.rest
