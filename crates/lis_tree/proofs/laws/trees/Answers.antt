use Rattle.std.proofs.Common.{◌++◌, ◌∷◌, [], ap, ◌∙◌}
use Rattle.lis_record_values.specs.declared.kinds.Kind.{Kind}
use Rattle.lis_tree.proofs.Flatten.{front_tree}
use Rattle.lis_tree.proofs.Levels.{map_append}
use Rattle.lis_tree.proofs.ListFaults.{tree_kinds}
use Rattle.lis_tree.proofs.Viable.{viable_from}
use Rattle.lis_tree.specs.Level.{kinds_of}
use Rattle.lis_tree.specs.Tree.{flatten}
use Rattle.lis_tree.specs.Front.{front_records}
use Rattle.lis_tree.proofs.laws.trees.Goals as goal

pub returns-clause-viable : goal.returns-clause-viable
returns-clause-viable c = λ m is. viable_from (kinds_of (flatten m)) (tree_kinds m is).0

pub returns-clause-allowed : goal.returns-clause-allowed
returns-clause-allowed c = λ m is. (tree_kinds m is).0

pub returns-clause-closed : goal.returns-clause-closed
returns-clause-closed c = λ m is. (
  kinds_of (front_records (front_tree m)),
  map_append (front_records (front_tree m)) (m.closing ∷ [])
      ∙ ap (λ (k : Kind). kinds_of (front_records (front_tree m)) ++ k ∷ []) is.closing,
)
