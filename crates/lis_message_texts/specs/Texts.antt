-- Why a message has no texts.
use Rattle.std.specs.Prelude.{◌≡◌, ◌<◌, ◌≤◌, length, Some, None}
use Rattle.lis_message_texts.specs.declared.texts.TextsFault.{TextsFault}
use Rattle.lis_message_texts.specs.declared.texts.TextsFault.TheVariants.{BadRecord, TooMany, OutOfMemory}
use Rattle.lis_tree.specs.Tree.{MessageTree, flatten}
use Rattle.lis_message.specs.Writing.{write_refusal}

-- each record can be written, and there are no more of them than link texts in a session
abbrev pub FitsInTexts : MessageTree → Type 0
FitsInTexts message = (write_refusal message ≡ None) × (length (flatten message) ≤ 65536)

-- a record that can't be written, else too many records, else a lack of memory
abbrev pub HasNoTexts : MessageTree → TextsFault → Type 0
HasNoTexts message (BadRecord place fault) = write_refusal message ≡ Some (record { place = place; fault = fault })
HasNoTexts message TooMany = (write_refusal message ≡ None) × (65536 < length (flatten message))
HasNoTexts message OutOfMemory = FitsInTexts message
