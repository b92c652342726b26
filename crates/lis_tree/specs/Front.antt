-- A message that isn't closed yet: the header with its notes, and the patients and queries so far.
use Rattle.std.specs.Prelude.{List}
use Rattle.lis_record_values.specs.declared.kinds.Kind.TheVariants as kinds
use Rattle.lis_record_values.specs.Delimiters.{DelimiterBytes}
use Rattle.lis_record_values.specs.Shape.{RecordContent}
use Rattle.lis_tree.specs.declared.tree.Group.{Group}
use Rattle.lis_tree.specs.Nodes.{Branch}
use Rattle.lis_tree.specs.Tree.{IsBranch, IsGroup, MessageTree, branch_records, group_records}

abbrev pub front_records : Branch Group → List RecordContent
front_records = branch_records group_records

abbrev pub IsFront : Branch Group → Type 0
IsFront = IsBranch kinds.H IsGroup

-- the message that a record closes
abbrev pub message_tree : DelimiterBytes → Branch Group → RecordContent → MessageTree
message_tree delimiters front closing = record {
  delimiters = delimiters;
  header = front.top.head;
  notes = front.top.notes;
  groups = front.below;
  closing = closing;
}
