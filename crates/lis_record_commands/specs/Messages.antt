-- What a stream of record text gives, for a command that writes something for each of its messages (LIS02-A2).
use Rattle.std.specs.Prelude.{◌≡◌, ℕ, ◌+◌, Bool, true, false, List, [], ◌∷◌, ◌++◌, ◌⊎◌, length, Option, None, Some, Ok}
use Rattle.std.specs.Prelude.{Err}
use Rattle.lis_record_values.specs.Shape.{RecordContent}
use Rattle.lis_message.specs.Feeding.{EndsEarly}
use Rattle.lis_message.specs.Kept.{RecordsState}
use Rattle.lis_message.specs.Records.{HasLeft}
use Rattle.lis_message.specs.Stream.{IsSplit, IsRefused}
use Rattle.lis_message.specs.Taking.{begun_with, records_of}
use Rattle.lis_record.specs.Borrowed.{Borrowed}
use Rattle.lis_report.specs.Answers.{Report, Outcome}
use Rattle.lis_engine.specs.Outcome.{going}
use Rattle.lis_engine.specs.declared.fault.ToolFault.TheVariants.{OutOfMemory}
use Rattle.lis_tree.specs.Begun.{Begun}
use Rattle.lis_record_values.specs.declared.faults.MessageFault.{MessageFault}
use Rattle.lis_tree.specs.Tree.{MessageTree, flatten}

-- what a command writes for a message after so many others, and after them all, where a record is rejected or none is;
-- and its status where none is
pub record MessageWrites : Type 0 where
  pub message : (before : ℕ) → MessageTree → List ℕ
  pub last : List MessageTree → Option MessageFault → List ℕ
  pub status : List MessageTree → ℕ

-- all that is written for messages after so many others
abbrev pub messages_text : MessageWrites → ℕ → List MessageTree → List ℕ
messages_text w before [] = []
messages_text w before (m ∷ messages) = w.message before m ++ messages_text w (before + 1) messages

-- the report after these messages: a rejected record is in the message after them
abbrev pub report_after : MessageWrites → List MessageTree → Option MessageFault → Report
report_after w messages (Some fault) =
    record { status = 1; refused = Some (record { message = length messages + 1; fault = fault }) }
report_after w messages None = record { status = w.status messages; refused = None }

-- these messages are all that is read
abbrev pub whole_outcome : MessageWrites → List MessageTree → Option MessageFault → Outcome
whole_outcome w messages fault =
    record {
      text = messages_text w 0 messages;
      closing = w.last messages fault;
      halt =
          Some (Ok (report_after w messages fault));
    }

-- What bytes give. A record of them is rejected, after whole messages. Or they are whole messages and a part of
-- one: that goes on, and is rejected where the input ends. Or they are whole messages, and the input ends.
pub data HasOutcome (w : MessageWrites) (bytes : List ℕ) (ended : Bool) (outcome : Outcome) : Type 0 where
  refused : (messages : List MessageTree) (fault : MessageFault) → IsRefused bytes messages fault
      → outcome ≡ whole_outcome w messages (Some fault) → HasOutcome w bytes ended outcome
  goes_on : (messages : List MessageTree) (left : Option Begun) (held : List ℕ) → IsSplit bytes messages left held
      → ended ≡ false
      → outcome ≡ going (messages_text w 0 messages) → HasOutcome w bytes ended outcome
  ended_early : (messages : List MessageTree) (fault : MessageFault) → EndsEarly bytes messages fault → ended ≡ true
      → outcome ≡ whole_outcome w messages (Some fault) → HasOutcome w bytes ended outcome
  complete : (messages : List MessageTree) → IsSplit bytes messages None [] → ended ≡ true
      → outcome ≡ whole_outcome w messages None → HasOutcome w bytes ended outcome

-- memory ran out after these messages, which are read of a prefix of the bytes
pub record IsStarved (w : MessageWrites) (bytes : List ℕ) (outcome : Outcome) : Type 0 where
  pub front : List ℕ
  pub more : List ℕ
  pub joined : bytes ≡ front ++ more
  pub messages : List MessageTree
  pub left : Option Begun
  pub held : List ℕ
  pub split : IsSplit front messages left held
  pub outcome_is : outcome ≡ record { text = messages_text w 0 messages; closing = []; halt = Some (Err OutOfMemory) }

-- what a run gives
abbrev pub RunGives : MessageWrites → List ℕ → Bool → Outcome → Type 0
RunGives w bytes ended outcome = HasOutcome w bytes ended outcome ⊎ IsStarved w bytes outcome

-- ---- while it runs

-- how many records messages have
abbrev pub record_count : List MessageTree → ℕ
record_count [] = 0
record_count (m ∷ messages) = length (flatten m) + record_count messages

-- it has read these bytes, no record of them is rejected, and this is the text for their messages
pub record IsReadingMessages
    (w : MessageWrites) (represents : List MessageTree → Option Begun → Type 0) (reader : RecordsState) (count : ℕ)
    (bytes text : List ℕ) : Type 0 where
  pub messages : List MessageTree
  pub left : Option Begun
  pub has : HasLeft reader left
  pub split : IsSplit bytes messages left reader.held
  pub represented : represents messages left
  pub count_is : count ≡ length messages
  pub text_is : text ≡ messages_text w 0 messages

-- ---- by steps

-- what is left with one more record, the closing one too
abbrev pub with_record : Option Begun → Borrowed RecordContent → Option Begun
with_record left entry = begun_with entry.delimiters (records_of left ++ entry.content ∷ [])

-- a whole message, before it is released
abbrev pub whole_begun : MessageTree → Option Begun
whole_begun m = begun_with m.delimiters (flatten m)
