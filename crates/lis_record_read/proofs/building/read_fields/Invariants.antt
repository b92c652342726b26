use Rattle.std.proofs.Common.{◌≤◌, length}
use Rattle.lis_record_read.proofs.PaddedTexts.{Reading}
use Rattle.lis_record_read.proofs.building.read_fields.Given as goal

abbrev pub invariant-loop-delimiter : goal.invariant-loop-delimiter
invariant-loop-delimiter l = Reading l.delimiters l.fn.kind l.«record» l.end l.rest l.text

abbrev pub decreases-loop-delimiter : goal.decreases-loop-delimiter
decreases-loop-delimiter l = length l.rest

abbrev pub invariant-loop-last_delimiter : goal.invariant-loop-last_delimiter
invariant-loop-last_delimiter l =
    (Reading l.delimiters l.fn.kind l.«record» l.end l.rest l.text) × (length l.rest ≤ 16)

abbrev pub decreases-loop-last_delimiter : goal.decreases-loop-last_delimiter
decreases-loop-last_delimiter l = length l.rest
