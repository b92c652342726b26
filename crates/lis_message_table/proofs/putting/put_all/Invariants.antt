-- The places of the records so far are put; there are no more records than bytes.
use Rattle.std.proofs.Common.{◌≡◌, ◌≤◌, ◌+◌, List, length}
use Rattle.std.specs.Prelude.{map}
use Rattle.lis_message_table.specs.Put.{over, placed_record}
use Rattle.lis_message_table.specs.declared.places.RecordPlace.{RecordPlace}
use Rattle.lis_message_table.specs.inside.Reading.{IsReading}
use Rattle.lis_message_table.proofs.putting.put_all.Given as goal

abbrev pub invariant-loop-found : goal.invariant-loop-found
invariant-loop-found l =
    (places : List RecordPlace) × IsReading l.records l.fn.text places l.above l.rest × (l.count ≡ length places)
    × (l.count + length l.rest ≤ length l.fn.text) × (l.out ≡ over l.initial.out (map placed_record places))

abbrev pub decreases-loop-found : goal.decreases-loop-found
decreases-loop-found l = length l.rest
