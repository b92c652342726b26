-- Where bytes lead a reader of messages, whatever came before them.
use Rattle.std.specs.Prelude.{◌≡◌, ℕ, List, ◌++◌, Option, ◌<◌, length}
use Rattle.lis_record_values.specs.declared.faults.MessageFault.{MessageFault}
use Rattle.lis_tree.specs.Begun.{Begun}
use Rattle.lis_message.specs.Stream.{IsSplit}
use Rattle.lis_tree.specs.Tree.{MessageTree}
use Rattle.lis_message.specs.Feeding.{StopsReading}

-- what follows the whole messages of a stream: a message that isn't closed, and bytes of a record that isn't ended
pub record Unended : Type 0 where
  pub left : Option Begun
  pub held : List ℕ

-- These bytes lead from what is kept to what is kept then, and add to the messages, whatever came before.
abbrev pub LeadsTo : Unended → List MessageTree → List ℕ → Unended → List MessageTree → Type 0
LeadsTo before messages bytes after more =
    (past : List ℕ) (base : List MessageTree) → IsSplit past (base ++ messages) before.left before.held
    → IsSplit (past ++ bytes) (base ++ more) after.left after.held

-- These bytes, up to those after, lead there; there is one at least.
pub record LeadsBefore (before : Unended) (messages : List MessageTree) (bytes following : List ℕ) (after : Unended)
    (more : List MessageTree) : Type 0 where
  pub front : List ℕ
  pub whole : bytes ≡ front ++ following
  pub shorter : length following < length bytes
  pub goes : LeadsTo before messages front after more

-- The reading stops in these bytes, with these messages, whatever came before.
abbrev pub StopsIn : Unended → List MessageTree → List ℕ → List MessageTree → MessageFault → Type 0
StopsIn before messages bytes more fault =
    (past : List ℕ) (base : List MessageTree) → IsSplit past (base ++ messages) before.left before.held
    → StopsReading (past ++ bytes) (base ++ more) fault
