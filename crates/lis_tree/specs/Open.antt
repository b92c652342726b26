-- What an open message keeps.
use Rattle.std.specs.Prelude.{◌≡◌, ℕ, length}
use Rattle.std.specs.List.{AllByRecursion}
use Rattle.lis_record_values.specs.Delimiters.{DelimiterBytes, IsDelimiters}
use Rattle.lis_record_values.specs.Shape.{IsRecordShape}
use Rattle.lis_tree.specs.declared.tree.Group.{Group}
use Rattle.lis_tree.specs.Front.{IsFront, front_records}
use Rattle.lis_tree.specs.Nodes.{Branch}
use Rattle.lis_bytes.specs.Capped.{capped}

pub record IsOpen (delimiters : DelimiterBytes) (front : Branch Group) (count : ℕ) : Type 0 where
  pub marks : IsDelimiters delimiters
  pub shape : IsFront front
  pub records : AllByRecursion IsRecordShape (front_records front)
  pub counted : count ≡ capped (length (front_records front))
