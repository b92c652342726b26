-- What reading a text answered, where it is known to be a record.
use Rattle.std.proofs.Common.{◌≡◌, Result, Ok, Err, subst}
use Rattle.lis_record_values.specs.Shape.{RecordContent}
use Rattle.lis_record_values.specs.declared.faults.RecordFault.{RecordFault}
use Rattle.lis_record.specs.Borrowed.{Borrowed}

pub found_is :
    (result : Result (Borrowed RecordContent) RecordFault) (found wanted : Borrowed RecordContent) →
    result ≡ Ok found → result ≡ Ok wanted → found ≡ wanted
found_is result found wanted is only = cc

-- what holds of the record that was found holds of that one
pub of_found :
    (result : Result (Borrowed RecordContent) RecordFault) (found wanted : Borrowed RecordContent) →
    result ≡ Ok found → result ≡ Ok wanted →
    (Holds : Borrowed RecordContent → Type 0) → Holds found → Holds wanted
of_found result found wanted is only Holds holds = subst Holds (found_is result found wanted is only) holds

pub no_fault :
    (result : Result (Borrowed RecordContent) RecordFault) (fault : RecordFault) (wanted : Borrowed RecordContent) →
    result ≡ Err fault → result ≡ Ok wanted → ⊥
no_fault result fault wanted is only = cc
