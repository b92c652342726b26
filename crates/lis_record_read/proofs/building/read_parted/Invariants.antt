use Rattle.std.proofs.Common.{length}
use Rattle.lis_record_read.proofs.Fronts.{Parting}
use Rattle.lis_record_read.proofs.building.read_parted.Given as goal

abbrev pub invariant-loop-delimiter : goal.invariant-loop-delimiter
invariant-loop-delimiter l = Parting l.delimiters l.repeat l.text l.rest l.window

abbrev pub decreases-loop-delimiter : goal.decreases-loop-delimiter
decreases-loop-delimiter l = length l.rest
