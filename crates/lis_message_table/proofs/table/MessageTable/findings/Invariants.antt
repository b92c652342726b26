-- The records so far are numbered, and what was found are the findings on them.
use Rattle.std.proofs.Common.{◌≡◌, [], take}
use Rattle.lis_tree.specs.Findings.{HasNumbered, findings_from}
use Rattle.lis_message_table.specs.Table.{contents_of}
use Rattle.lis_message_table.proofs.table.MessageTable.findings.Given as goal

abbrev pub invariant-loop-index : goal.invariant-loop-index
invariant-loop-index l =
    HasNumbered l.numbering (take l.index (contents_of l.self))
    × (l.found ≡ findings_from [] 1 (take l.index (contents_of l.self)))
