-- What a reader of records answers to a piece of a stream.
use Rattle.std.specs.Prelude.{◌≡◌, ℕ, List, [], ◌∷◌, ◌++◌, ◌⊎◌, ◌<◌, ◌≤◌, length, Option, None, Some, is_some, true, ⊤}
use Rattle.lis_record_values.specs.Shape.{RecordContent}
use Rattle.lis_message.specs.declared.records.RecordFound.{RecordFound}
use Rattle.lis_message.specs.declared.records.RecordFound.TheVariants as found
use Rattle.lis_message.specs.Feeding.{next_place}
use Rattle.lis_message.specs.Kept.{RecordsState, opened_of}
use Rattle.lis_message.specs.Stream.{IsSplit, IsRefusedText, LacksReturn, refusal}
use Rattle.lis_message.specs.Taking.{ComesNext, left_after}
use Rattle.lis_record.specs.Borrowed.{Borrowed}
use Rattle.lis_record_values.specs.Text.{record_limit}
use Rattle.lis_record_values.specs.declared.faults.MessageFault.{MessageFault}
use Rattle.lis_record_values.specs.declared.faults.Reason.{Reason}
use Rattle.lis_record_values.specs.declared.faults.Reason.TheVariants as reasons
use Rattle.lis_tree.specs.Begun.{Begun}
use Rattle.lis_tree.specs.Tree.{MessageTree}

-- This is what is left of the stream that the reader has read, next to the bytes that it holds.
pub record HasLeft (reader : RecordsState) (left : Option Begun) : Type 0 where
  pub no_fault : reader.fault ≡ None
  pub opened : reader.opened ≡ opened_of left

-- What was held and the bytes before the first CR are a record that comes next, and left is then the message with it,
-- or nothing after the closing record.
pub record ReadsRecord (before after : RecordsState) (left : Option Begun) (bytes following : List ℕ)
    (entry : Borrowed RecordContent) : Type 0 where
  pub text : List ℕ
  pub whole : bytes ≡ text ++ 13 ∷ following
  pub lacks : LacksReturn text
  pub comes : ComesNext left (before.held ++ text) entry
  pub left_then : HasLeft after (left_after left entry entry.content.kind)
  pub empty : after.held ≡ []

-- No CR is among the bytes, and all of them are held; no record was split.
pub record ReadsOn (before after : RecordsState) (left : Option Begun) (bytes following : List ℕ) : Type 0 where
  pub all : following ≡ []
  pub lacks : LacksReturn bytes
  pub held : after.held ≡ before.held ++ bytes
  pub short : length after.held ≤ record_limit
  pub left_then : HasLeft after left
  pub uncut : after.split ≡ None

-- What was held and the first of the bytes are too long for a record, or a record that can't come next.
pub record CantCome (left : Option Begun) (held bytes : List ℕ) (reason : Reason) : Type 0 where
  pub text : List ℕ
  pub more : List ℕ
  pub whole : bytes ≡ text ++ more
  pub lacks : LacksReturn text
  pub refused : IsRefusedText left (held ++ text) more reason
      ⊎ ((reason ≡ reasons.RecordTooLong) × (record_limit < length (held ++ text)))

-- A record is rejected, or memory runs out: only where bytes are to be held.
abbrev pub IsStopped : Option Begun → (held bytes : List ℕ) → Reason → Type 0
IsStopped left held bytes reason =
    ((reason ≡ reasons.OutOfMemory) × (held ≡ [] → LacksReturn bytes)) ⊎ CantCome left held bytes reason

-- The reader reports the fault, from now on too, and holds nothing; what was open stays open, and no record was split.
pub record Refuses (before after : RecordsState) (left : Option Begun) (bytes following : List ℕ)
    (fault : MessageFault) : Type 0 where
  pub none_read : following ≡ bytes
  pub place : fault.place ≡ next_place left
  pub why : IsStopped left before.held bytes fault.reason
  pub kept : after.fault ≡ Some fault
  pub empty : after.held ≡ []
  pub opened : after.opened ≡ before.opened
  pub uncut : after.split ≡ None

-- What it answers to bytes, and what it then keeps: a record that was split too, with its text, and no other.
abbrev pub Reads : RecordsState → RecordsState → Option Begun → (bytes following : List ℕ) → RecordFound → Type 0
Reads before after left bytes following found.Nothing = ReadsOn before after left bytes following
Reads before after left bytes following (found.Record entry) =
    (after.split ≡ None) × ReadsRecord before after left bytes following entry
Reads before after left bytes following found.Held =
    (entry : Borrowed RecordContent) × (after.split ≡ Some entry)
    × (r : ReadsRecord before after left bytes following entry) × (after.split_text ≡ before.held ++ r.text)
Reads before after left bytes following (found.Refused fault) = Refuses before after left bytes following fault

-- Unless it reports a fault, it reads some of the bytes, where there are any. A record that was split can be had then.
abbrev pub ReadsSome : RecordsState → (bytes following : List ℕ) → RecordFound → Type 0
ReadsSome after bytes following found.Nothing = 0 < length bytes → length following < length bytes
ReadsSome after bytes following (found.Record entry) = length following < length bytes
ReadsSome after bytes following found.Held = (is_some after.split ≡ true) × (length following < length bytes)
ReadsSome after bytes following (found.Refused fault) = ⊤

-- ---- one record

-- a text that is too long, or can't come next
abbrev pub IsRecordRefusedFor : Option Begun → List ℕ → Reason → Type 0
IsRecordRefusedFor left text reason =
    ((reason ≡ reasons.RecordTooLong) × (record_limit < length text))
    ⊎ ((refusal left text ≡ Some reason) × (length text ≤ record_limit))

-- for some reason
abbrev pub IsRecordRefused : Option Begun → List ℕ → Type 0
IsRecordRefused left text = (reason : Reason) × IsRecordRefusedFor left text reason

-- ---- the reader of messages

-- What is open for the reader of records is the open message, until a fault is met; then nothing is kept.
abbrev pub IsOpenFor : RecordsState → Option Begun → Option MessageFault → Type 0
IsOpenFor reader left None = HasLeft reader left
IsOpenFor reader left (Some fault) = (reader.held ≡ []) × (left ≡ None)

-- ---- the stream

-- What is read of a stream with these bytes, up to those after.
abbrev pub IsReadUpTo : (stream bytes following : List ℕ) → List MessageTree → Option Begun → (held : List ℕ) → Type 0
IsReadUpTo stream bytes following messages left held =
    (front : List ℕ) × (bytes ≡ front ++ following) × IsSplit (stream ++ front) messages left held
