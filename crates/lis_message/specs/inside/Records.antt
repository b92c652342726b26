-- What a reader of records answers at the end of a record, and what a reader of messages adds then.
use Rattle.std.specs.Prelude.{◌≡◌, ℕ, List, [], ◌++◌, Option, Some}
use Rattle.std.specs.Option.{option_to_list}
use Rattle.lis_record_values.specs.Shape.{RecordContent}
use Rattle.lis_message.specs.inside.Feeding.{Unended}
use Rattle.lis_message.specs.Kept.{RecordsState, opened_of}
use Rattle.lis_message.specs.Taking.{ComesNext, Completes, left_after}
use Rattle.lis_record.specs.Borrowed.{Borrowed}
use Rattle.lis_tree.specs.Begun.{Begun}
use Rattle.lis_tree.specs.Tree.{MessageTree}

-- what was held and this text come next, as the record that was split
pub record EndsHeld (before after : RecordsState) (left : Option Begun) (text : List ℕ) : Type 0 where
  pub entry : Borrowed RecordContent
  pub comes : ComesNext left (before.held ++ text) entry
  pub opened : after.opened ≡ opened_of (left_after left entry entry.content.kind)
  pub reported : after.split ≡ Some entry
  pub text_is : after.split_text ≡ before.held ++ text
  pub empty : after.held ≡ []

-- A message that the record completes is added to the others.
pub record Adds (left : Option Begun) (entry : Borrowed RecordContent) (before after : List MessageTree) : Type 0 where
  pub message : Option MessageTree
  pub completes : Completes left entry message
  pub added : after ≡ before ++ option_to_list message

abbrev pub unended : Option Begun → RecordsState → Unended
unended left reader = record { left = left; held = reader.held }
