use Rattle.std.proofs.Common.{◌≡◌, slice_get}
use Rattle.lis_record_read.specs.FrontReading.{parts_of}
use Rattle.lis_record.proofs.known_parts.part_at.Given as goal

abbrev pub invariant-loop-left : goal.invariant-loop-left
invariant-loop-left l = slice_get (parts_of l.delimiter l.rest) l.left ≡ slice_get (parts_of l.delimiter l.text) l.place

abbrev pub decreases-loop-left : goal.decreases-loop-left
decreases-loop-left l = l.left
