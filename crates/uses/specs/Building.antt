-- The message of one result, record by record, and why there may be none (LIS02-A2).
use Rattle.std.specs.Prelude.{◌≡◌, ℕ, List, [], ◌∷◌, codes, map, ⊤}
use Rattle.lis_record_values.specs.declared.kinds.Kind.{Kind}
use Rattle.lis_record_values.specs.declared.kinds.Kind.TheVariants.{H, P, O, R, L}
use Rattle.lis_record_values.specs.Delimiters.{usual}
use Rattle.lis_record_values.specs.Shape.{RecordContent, Repeats, plain_component, plain_field}
use Rattle.lis_message_texts.specs.Texts.{HasNoTexts}
use Rattle.lis_record_values.specs.declared.faults.Reason.TheVariants.{OutOfMemory}
use Rattle.lis_tree.specs.Tree.{MessageTree, flatten}
use Rattle.uses.specs.declared.building.BuildFault.{BuildFault}
use Rattle.uses.specs.declared.building.BuildFault.TheVariants.{Memory, Message, Texts}

-- a record whose fields are these texts
abbrev pub plain_record : Kind → List (List ℕ) → RecordContent
plain_record kind texts = record { kind = kind; fields = map plain_field texts }

-- the test `^^^GLU`
abbrev pub glucose_test : Repeats
glucose_test = ([] ∷ [] ∷ [] ∷ plain_component (codes "GLU") ∷ []) ∷ []

-- the result of that test
abbrev pub glucose_record : List ℕ → RecordContent
glucose_record value =
    record {
      kind = R;
      fields = plain_field (codes "1") ∷ glucose_test ∷ plain_field value ∷ plain_field (codes "mmol/L") ∷ [];
    }

-- the header, a patient, an order for the sample, its result, and the record that closes the message
abbrev pub result_records : (sample value : List ℕ) → List RecordContent
result_records sample value =
    plain_record H [] ∷ plain_record P (codes "1" ∷ []) ∷ plain_record O (codes "1" ∷ sample ∷ [])
    ∷ glucose_record value
    ∷ plain_record L (codes "1" ∷ codes "N" ∷ []) ∷ []

-- the message of these records
pub record IsResultMessage (sample value : List ℕ) (message : MessageTree) : Type 0 where
  pub delimiters : message.delimiters ≡ usual
  pub records : flatten message ≡ result_records sample value

-- memory ran out
abbrev pub IsMemory : BuildFault → Type 0
IsMemory (Memory refused) = ⊤
IsMemory (Message fault) = fault.reason ≡ OutOfMemory
IsMemory (Texts fault) = ⊥

-- memory ran out, or the message has no texts
abbrev pub HasNoResultTexts : (sample value : List ℕ) → BuildFault → Type 0
HasNoResultTexts sample value (Texts fault) = (message : MessageTree) × IsResultMessage sample value message
    × HasNoTexts message fault
HasNoResultTexts sample value fault = IsMemory fault
