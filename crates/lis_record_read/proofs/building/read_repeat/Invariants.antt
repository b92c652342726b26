use Rattle.std.proofs.Common.{◌≡◌, ◌++◌, length, map}
use Rattle.lis_record_read.specs.FrontReading.{symbols_of, components_of, parts_following}
use Rattle.lis_record_read.proofs.building.read_repeat.Given as goal

abbrev pub invariant-loop-delimiter : goal.invariant-loop-delimiter
invariant-loop-delimiter l = l.repeat ++ map (symbols_of l.delimiters) (parts_following l.delimiters.component l.rest)
    ≡ components_of l.delimiters l.text

abbrev pub decreases-loop-delimiter : goal.decreases-loop-delimiter
decreases-loop-delimiter l = length l.rest
