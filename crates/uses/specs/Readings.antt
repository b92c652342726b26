-- What is read of the results of a message and of a stream (LIS02-A2).
use Rattle.std.specs.Prelude.{◌≡◌, ◌≢◌, ℕ, ◌+◌, List, [], ◌∷◌, ◌++◌, ◌⊎◌, length, Option, Some}
use Rattle.lis_record_values.specs.Shape.{Repeats, field_at, plain_field}
use Rattle.lis_message.specs.Feeding.{EndsEarly, StopsReading}
use Rattle.lis_record_values.specs.declared.faults.MessageFault.{MessageFault}
use Rattle.lis_tree.specs.Results.{ResultNode, results_of}
use Rattle.lis_tree.specs.Tree.{MessageTree}
use Rattle.uses.specs.declared.results.Reading.{Reading}

-- the text of a field that is one component of characters alone; of any other, and of one that is absent, no byte
pub data IsPlainOrEmpty (field : Option Repeats) (bytes : List ℕ) : Type 0 where
  plain : field ≡ Some (plain_field bytes) → IsPlainOrEmpty field bytes
  other : ((text : List ℕ) → field ≢ Some (plain_field text)) → bytes ≡ [] → IsPlainOrEmpty field bytes

-- the sample is in field 3 of the order, the value and its units in fields 4 and 5 of the result
pub record IsReading (node : ResultNode) (reading : Reading) : Type 0 where
  pub sample : IsPlainOrEmpty (field_at node.order.top.head 3) reading.sample.items
  pub value : IsPlainOrEmpty (field_at node.entry.head 4) reading.value.items
  pub units : IsPlainOrEmpty (field_at node.entry.head 5) reading.units.items

-- how many results messages have
abbrev pub result_count : List MessageTree → ℕ
result_count [] = 0
result_count (message ∷ messages) = length (results_of message) + result_count messages

-- The reading stops in a prefix of the stream, or at its end.
pub record IsUnread (stream : List ℕ) (fault : MessageFault) : Type 0 where
  pub front : List ℕ
  pub rest : List ℕ
  pub whole : stream ≡ front ++ rest
  pub messages : List MessageTree
  pub stops : StopsReading front messages fault ⊎ ((rest ≡ []) × EndsEarly front messages fault)
