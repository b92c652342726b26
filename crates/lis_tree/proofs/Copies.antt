-- A message of copied parts.
use Rattle.std.proofs.Common.{◌≡◌, refl, sym}
use Rattle.lis_record_values.specs.Delimiters.{DelimiterBytes}
use Rattle.lis_record_values.specs.Shape.{RecordContent}
use Rattle.lis_tree.specs.declared.tree.Group.{Group}
use Rattle.lis_tree.specs.Nodes.{Branch}
use Rattle.lis_tree.specs.Tree.{MessageTree}
use Rattle.lis_tree.specs.Front.{message_tree}

pub copied_message : (reported own : DelimiterBytes) (front inside : Branch Group) (closing last : RecordContent)
    (m : MessageTree) → message_tree own inside last ≡ m → reported ≡ m.delimiters → front ≡ inside → closing ≡ last
    → message_tree reported front closing ≡ m
copied_message reported own front inside closing last m is marks fronts ends = rw (marks, fronts, ends, sym is) refl
