-- The records of one result are a message, unless memory runs out.
use Rattle.std.proofs.Common.{◌≡◌, ◌⊎◌, inl, inr, List, [], ◌∷◌, ◌++◌, Some, refl, ℕ, Result, Ok, Err, MatchResult}
use Rattle.std.specs.Result.{IfErr, IsErrAnd, IsOkAnd, OnOk}
use Rattle.std.specs.Prelude.{⊤}
use Rattle.lis_record_values.specs.Shape.{RecordContent}
use Rattle.lis_record_values.specs.declared.kinds.Kind.{Kind}
use Rattle.lis_record_values.specs.declared.faults.MessageFault.{MessageFault}
use Rattle.lis_record_values.specs.declared.faults.Reason.TheVariants.{OutOfMemory}
use Rattle.lis_tree.specs.Level.{AllowedFrom, closed, kinds_of, level_after, outside}
use Rattle.lis_tree.specs.ListFaults.{IsListFault}
use Rattle.lis_tree.specs.Tree.{MessageTree}
use Rattle.uses.specs.declared.building.BuildFault.{BuildFault}
use Rattle.uses.specs.declared.building.BuildFault.TheVariants.{Message}
use Rattle.uses.specs.Building.{IsMemory, result_records}

-- what holds where there is a value
pub where_ok : {T E P : Type 0} (made : Result T E) → OnOk made P → IsOkAnd made (λ _. ⊤) → P
where_ok (Ok value) holds is = holds
where_ok (Err e) holds is = elim is [ ]

-- a list of records in the hierarchy whose last one closes it has no fault
abbrev pub HasNoFault : Type 0
HasNoFault = (ks : List Kind) (fault : MessageFault) → AllowedFrom outside ks → level_after outside ks ≡ closed
    → IsListFault ks fault → ⊥

-- so memory alone can run out
pub only_memory : HasNoFault → (sample value : List ℕ) (records : List RecordContent)
    (made : Result MessageTree MessageFault) (result : Result MessageTree BuildFault)
    → records ≡ result_records sample value
    → IfErr made (λ fault. (fault.reason ≡ OutOfMemory) ⊎ IsListFault (kinds_of records) fault)
    → MatchResult made (λ message. result ≡ Ok message) (λ fault. IsErrAnd result (λ reported. reported
    ≡ Message fault))
    → IfErr result IsMemory
only_memory whole sample value records (Ok message) result are refused is = rw is (record {})
only_memory whole sample value records (Err fault) (Ok message) are refused is = elim is [ ]
only_memory whole sample value records (Err fault) (Err reported) are refused is =
    rw is (elim refused [
      | inl memory ↦ memory
      | inr was ↦
          absurd (whole _ fault (refl, (refl, (refl, (refl, (refl, tt))))) refl (rw are at was))
    ])
