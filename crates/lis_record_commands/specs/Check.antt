-- What `check` writes: a line for each message and each of its records, its findings, and what is rejected.
use Rattle.std.specs.Prelude.{ℕ, ◌+◌, nat_lt, List, [], ◌∷◌, ◌++◌, length, codes, decimal, Option, None, Some}
use Rattle.std.specs.Prelude.{if◌then◌else◌}
use Rattle.std.specs.List.{flat_map}
use Rattle.lis_record_values.specs.declared.kinds.Kind.{Kind}
use Rattle.lis_record_values.specs.Kinds.{letter_of}
use Rattle.lis_record_values.specs.Shape.{RecordContent}
use Rattle.lis_report.specs.Codes.{refused_line}
use Rattle.lis_engine.specs.Parts.{joined}
use Rattle.lis_record_commands.specs.Messages.{MessageWrites}
use Rattle.lis_record_values.specs.declared.faults.MessageFault.{MessageFault}
use Rattle.lis_tree.specs.declared.numbering.Finding.{Finding}
use Rattle.lis_tree.specs.Findings.{findings_of}
use Rattle.lis_tree.specs.Tree.{MessageTree, flatten}

-- `message M`
abbrev pub message_line : ℕ → List ℕ
message_line number = joined (codes "message " ∷ decimal number ∷ codes "\n" ∷ [])

-- `P K F`: the place of a record in its message, its letter, and how many fields it has
abbrev pub record_line : (place : ℕ) → Kind → (fields : ℕ) → List ℕ
record_line place kind fields =
    joined (decimal place ∷ codes " " ∷ (letter_of kind ∷ []) ∷ codes " " ∷ decimal fields ∷ codes "\n" ∷ [])

-- the lines of records from this place on
abbrev pub record_lines : ℕ → List RecordContent → List ℕ
record_lines place [] = []
record_lines place (r ∷ records) = record_line place r.kind (length r.fields) ++ record_lines (place + 1) records

-- `finding P K E`: the number that the record should have
abbrev pub finding_line : Finding → List ℕ
finding_line f =
    joined (codes "finding " ∷ decimal f.place ∷ codes " " ∷ (letter_of f.kind ∷ []) ∷ codes " " ∷ decimal f.expected
    ∷ codes "\n" ∷ [])

abbrev pub check_message : ℕ → MessageTree → List ℕ
check_message before m = message_line (before + 1) ++ record_lines 1 (flatten m)
    ++ flat_map finding_line (findings_of m)

abbrev pub finding_count : List MessageTree → ℕ
finding_count [] = 0
finding_count (m ∷ messages) = length (findings_of m) + finding_count messages

-- where a record is rejected, it is in the message after so many
abbrev pub refused_part : ℕ → Option MessageFault → List ℕ
refused_part before None = []
refused_part before (Some fault) = refused_line (before + 1) fault

-- `messages M findings F`
abbrev pub sums_line : ℕ → ℕ → List ℕ
sums_line messages findings = joined (codes "messages " ∷ decimal messages ∷ codes " findings " ∷ decimal findings
    ∷ codes "\n" ∷ [])

-- the status is 1 where there is a finding
abbrev pub check_writes : MessageWrites
check_writes =
    record {
      message = check_message;
      last = λ messages fault. refused_part (length messages) fault
          ++ sums_line (length messages) (finding_count messages);
      status = λ messages. if nat_lt 0 (finding_count messages) then 1 else 0;
    }
