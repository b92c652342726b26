-- The records so far are read, and memory for no fewer places is there.
use Rattle.std.proofs.Common.{◌≤◌, length, vec_capacity}
use Rattle.lis_message_table.specs.inside.Reading.{IsReading}
use Rattle.lis_message_table.proofs.reading.take_all.Given as goal

abbrev pub invariant-loop-found : goal.invariant-loop-found
invariant-loop-found l =
    IsReading l.records l.fn.text l.places.items l.above l.rest
    × (vec_capacity l.initial.places ≤ vec_capacity l.places)

abbrev pub decreases-loop-found : goal.decreases-loop-found
decreases-loop-found l = length l.rest
