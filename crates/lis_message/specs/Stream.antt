-- A stream of record texts, each ended by CR, and the messages that it holds (LIS02-A2).
use Rattle.std.specs.Prelude.{◌≡◌, ◌≢◌, ℕ, ◌+◌, ◌≤◌, List, [], ◌∷◌, ◌++◌, length, Option, Some, None, option_map, ◌⊎◌}
use Rattle.std.specs.List.{AllZip, AllByRecursion, flat_map}
use Rattle.std.specs.Option.{option_or}
use Rattle.lis_record_values.specs.declared.kinds.Kind.{Kind}
use Rattle.lis_record_values.specs.declared.kinds.Kind.TheVariants as kinds
use Rattle.lis_record_values.specs.declared.faults.RecordFault.TheVariants as record_faults
use Rattle.lis_record_values.specs.Delimiters.{IsDelimiters}
use Rattle.lis_record.specs.Faults.{header_fault, record_fault}
use Rattle.lis_record_values.specs.Kinds.{kind_of}
use Rattle.lis_record_values.specs.Relation.{IsRecord}
use Rattle.lis_record_values.specs.declared.faults.MessageFault.{MessageFault}
use Rattle.lis_record_values.specs.declared.faults.Reason.{Reason}
use Rattle.lis_record_values.specs.declared.faults.Reason.TheVariants as reasons
use Rattle.lis_tree.specs.Begun.{Begun, level_of}
use Rattle.lis_tree.specs.Level.{outside, closed, kinds_of, level_after, misplaced, AllowedFrom}
use Rattle.lis_bytes.specs.Capped.{capped}
use Rattle.lis_tree.specs.Tree.{MessageTree, IsTree, flatten}
use Rattle.lis_record_values.specs.Text.{record_limit}

-- a text and its CR
abbrev pub line : List ℕ → List ℕ
line text = text ++ 13 ∷ []

-- texts, a CR after each
abbrev pub ended : List (List ℕ) → List ℕ
ended texts = flat_map line texts

-- no CR is there
abbrev pub LacksReturn : List ℕ → Type 0
LacksReturn bytes = AllByRecursion (λ b. b ≢ 13) bytes

-- These texts are the message's records, under the delimiters of its header's text.
pub record AreMessage (texts : List (List ℕ)) (message : MessageTree) : Type 0 where
  pub tree : IsTree message
  pub each : AllZip (IsRecord message.delimiters) texts (flatten message)

-- these bytes are the message
abbrev pub IsMessage : List ℕ → MessageTree → Type 0
IsMessage bytes message = (texts : List (List ℕ)) × (bytes ≡ ended texts) × AreMessage texts message

-- These texts are the records of a message that isn't closed yet.
pub record AreBegun (texts : List (List ℕ)) (begun : Begun) : Type 0 where
  pub delimiters : IsDelimiters begun.delimiters
  pub some : begun.records ≢ []
  pub each : AllZip (IsRecord begun.delimiters) texts begun.records
  pub placed : AllowedFrom outside (kinds_of begun.records)
  pub unclosed : level_after outside (kinds_of begun.records) ≢ closed

-- what follows the last whole message: nothing, or a message that isn't closed yet
abbrev pub AreLeft : List (List ℕ) → Option Begun → Type 0
AreLeft texts None = texts ≡ []
AreLeft texts (Some begun) = AreBegun texts begun

-- The stream is whole messages, then records of one that isn't closed yet, then bytes of a record that isn't ended.
pub record IsSplit (stream : List ℕ) (messages : List MessageTree) (left : Option Begun) (held : List ℕ) : Type 0 where
  pub groups : List (List (List ℕ))
  pub texts : List (List ℕ)
  pub whole : stream ≡ flat_map ended groups ++ ended texts ++ held
  pub read : AllZip AreMessage groups messages
  pub begun : AreLeft texts left
  pub lacks : LacksReturn held
  pub short : length held ≤ record_limit

-- ---- what can't be read

-- how many records of the message are read
abbrev pub count_of : Option Begun → ℕ
count_of None = 0
count_of (Some begun) = length begun.records

-- the first reason that a text with a letter of this kind can't come next
unfoldable pub kind_refusal : Option Begun → Kind → List ℕ → Option Reason
kind_refusal None kinds.H text = option_map reasons.BadRecord (header_fault text)
kind_refusal None kind text = Some reasons.NotHeader
kind_refusal (Some begun) kinds.H text = Some reasons.SecondHeader
kind_refusal (Some begun) kind text =
    option_or (option_map reasons.BadRecord (record_fault begun.delimiters text))
    (misplaced (level_of (Some begun)) kind)

-- the same with the letter's kind, which is absent for a byte that is no letter
abbrev pub letter_refusal : Option Begun → ℕ → Option Kind → List ℕ → Option Reason
letter_refusal left letter None text = Some (reasons.BadRecord (record_faults.UnknownKind letter))
letter_refusal left letter (Some kind) text = kind_refusal left kind text

-- the first reason that a text can't come next
unfoldable pub refusal : Option Begun → List ℕ → Option Reason
refusal left [] = Some (reasons.BadRecord record_faults.Empty)
refusal left (letter ∷ bytes) = letter_refusal left letter (kind_of letter) (letter ∷ bytes)

-- a text that is ended and rejected
pub record IsRefusedText (left : Option Begun) (text more : List ℕ) (reason : Reason) : Type 0 where
  pub rest : List ℕ
  pub ended_by : more ≡ 13 ∷ rest
  pub short : length text ≤ record_limit
  pub why : refusal left text ≡ Some reason

-- a text that is too long, whether or not it is ended
pub record IsLongText (text : List ℕ) (reason : Reason) : Type 0 where
  pub long : length text ≡ record_limit + 1
  pub why : reason ≡ reasons.RecordTooLong

-- These messages are read of the stream, and then a record is rejected.
pub record IsRefused (stream : List ℕ) (messages : List MessageTree) (fault : MessageFault) : Type 0 where
  pub front : List ℕ
  pub left : Option Begun
  pub text : List ℕ
  pub more : List ℕ
  pub whole : stream ≡ front ++ text ++ more
  pub split : IsSplit front messages left []
  pub lacks : LacksReturn text
  pub place : fault.place ≡ capped (count_of left + 1)
  pub refused : IsRefusedText left text more fault.reason ⊎ IsLongText text fault.reason

-- The stream is read, with these messages first: it is split, or a record of it is rejected.
abbrev pub IsReadFrom : List ℕ → List MessageTree → Type 0
IsReadFrom stream messages =
    (more : List MessageTree)
    × (((left : Option Begun) × (held : List ℕ) × IsSplit stream (messages ++ more) left held) ⊎
    ((fault : MessageFault) × IsRefused stream (messages ++ more) fault))
