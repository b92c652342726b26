-- What `check` keeps while the records of a message come.
use Rattle.std.specs.Prelude.{◌≡◌, ℕ, List, [], length, Option}
use Rattle.std.specs.List.{flat_map}
use Rattle.lis_message.specs.Taking.{records_of}
use Rattle.lis_tree.specs.declared.numbering.Numbering.{Numbering}
use Rattle.lis_tree.specs.Begun.{Begun}
use Rattle.lis_tree.specs.Findings.{HasNumbered, findings_from}
use Rattle.lis_tree.specs.Tree.{MessageTree}
use Rattle.lis_record_commands.specs.Check.{record_lines, finding_line, finding_count}

-- What waits of a message that isn't closed yet: the lines of its records, those of its findings, and how many these
-- are.
-- So many findings were said about the messages before it.
pub record IsChecking
    (records findings : List ℕ) (numbering : Numbering) (found reported : ℕ) (messages : List MessageTree)
    (left : Option Begun) : Type 0 where
  pub record_lines_are : records ≡ record_lines 1 (records_of left)
  pub finding_lines_are : findings ≡ flat_map finding_line (findings_from [] 1 (records_of left))
  pub numbered : HasNumbered numbering (records_of left)
  pub found_is : found ≡ length (findings_from [] 1 (records_of left))
  pub reported_is : reported ≡ finding_count messages
