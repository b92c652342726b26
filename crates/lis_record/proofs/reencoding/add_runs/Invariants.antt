use Rattle.std.proofs.Common.{length}
use Rattle.lis_record.specs.inside.Reencoding.{reencoded}
use Rattle.lis_record.proofs.Grown.{Adds}
use Rattle.lis_record.proofs.reencoding.add_runs.Given as goal

abbrev pub invariant-loop-escape : goal.invariant-loop-escape
invariant-loop-escape l =
    Adds l.initial.out.items (reencoded l.delimiters l.text) l.out.items (reencoded l.delimiters l.rest)

abbrev pub decreases-loop-escape : goal.decreases-loop-escape
decreases-loop-escape l = length l.rest
