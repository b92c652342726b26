use Rattle.lis_record_commands.proofs.ResultLaws.{Added}
use Rattle.lis_record_commands.proofs.results.add_each.Given as goal

-- so many of fields 3 to 7 are added
abbrev pub invariant-loop-field : goal.invariant-loop-field
invariant-loop-field l = Added l.fn.entry.delimiters l.fn.entry.content l._field l.fields l.fn.lines.bytes.items
    l.lines.bytes.items
