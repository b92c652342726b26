-- What a message reader keeps of a stream, and what it answers to a piece of it.
use Rattle.std.specs.Prelude.{◌≡◌, ℕ, List, [], ◌++◌, Option, Some, None, Result, Ok, Err, ◌⊎◌, ◌+◌}
use Rattle.lis_record_values.specs.declared.faults.MessageFault.{MessageFault}
use Rattle.lis_record_values.specs.declared.faults.Reason.TheVariants as reasons
use Rattle.lis_tree.specs.Begun.{Begun}
use Rattle.lis_bytes.specs.Capped.{capped}
use Rattle.lis_message.specs.Stream.{IsSplit, IsRefused, count_of}
use Rattle.lis_tree.specs.Tree.{MessageTree}

-- what a reader keeps: a message that isn't closed, bytes of a record that isn't ended, and the fault that it met
pub record ReaderState : Type 0 where
  pub left : Option Begun
  pub held : List ℕ
  pub fault : Option MessageFault

-- the place of the next record, from 1 for a header
abbrev pub next_place : Option Begun → ℕ
next_place left = capped (count_of left + 1)

-- Memory runs out while a record is read: the messages are those before that record, and the fault has its place.
pub record IsOutOfMemory (stream : List ℕ) (messages : List MessageTree) (fault : MessageFault) : Type 0 where
  pub front : List ℕ
  pub left : Option Begun
  pub more : List ℕ
  pub whole : stream ≡ front ++ more
  pub split : IsSplit front messages left []
  pub place : fault.place ≡ next_place left
  pub why : fault.reason ≡ reasons.OutOfMemory

-- Memory runs out, or a record is.
abbrev pub StopsReading : List ℕ → List MessageTree → MessageFault → Type 0
StopsReading stream messages fault = IsOutOfMemory stream messages fault ⊎ IsRefused stream messages fault

-- what a reader reports and keeps of a stream
abbrev pub ReadsStream : List ℕ → List MessageTree → ReaderState → Option MessageFault → Type 0
ReadsStream stream messages reader None = (reader.fault ≡ None) × IsSplit stream messages reader.left reader.held
ReadsStream stream messages reader (Some fault) = (reader.fault ≡ Some fault) × StopsReading stream messages fault

-- the answer at the end of the stream
abbrev pub answer_at_end : Option Begun → List ℕ → Result (Unit {0}) MessageFault
answer_at_end None [] = Ok tt
answer_at_end left held = Err (record { place = next_place left; reason = reasons.Unfinished })

abbrev pub finished : ReaderState → Result (Unit {0}) MessageFault
finished reader = elim reader.fault [ None ↦ answer_at_end reader.left reader.held | Some fault ↦ Err fault ]

-- These messages are read of the stream, and its end comes too early.
pub record EndsEarly (stream : List ℕ) (messages : List MessageTree) (fault : MessageFault) : Type 0 where
  pub left : Option Begun
  pub held : List ℕ
  pub split : IsSplit stream messages left held
  pub why : answer_at_end left held ≡ Err fault

-- what is read of a stream that ends here
abbrev pub ReadsWhole : List ℕ → List MessageTree → Option MessageFault → Type 0
ReadsWhole stream messages None = IsSplit stream messages None []
ReadsWhole stream messages (Some fault) = StopsReading stream messages fault ⊎ EndsEarly stream messages fault
