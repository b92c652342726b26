-- Four bytes are delimiters exactly if fault_of finds nothing, by DelimiterFaults.
use Rattle.std.proofs.Common.{refl}
use Rattle.lis_record_values.specs.Delimiters.{delimiters_of}
use Rattle.lis_record_values.proofs.DelimiterFaults.{IsDelimiters-delimiters_of, delimiter_fault-IsDelimiters}
use Rattle.lis_record_values.proofs.delimiting.Delimiters.new.Goals as goal

pub returns-in-Some-clause-only : goal.returns-in-Some-clause-only
returns-in-Some-clause-only c = λ good.
    let a = c.args in
    let none = delimiter_fault-IsDelimiters (delimiters_of a.field a.repeat a.component a.escape) good in
    cc

pub invariant_of-result : goal.invariant_of-result
invariant_of-result c =
    let a = c.args in
    IsDelimiters-delimiters_of a.field a.repeat a.component a.escape (cc)

pub returns-clause-found : goal.returns-clause-found
returns-clause-found c = let a = c.args in (
  refl,
  IsDelimiters-delimiters_of a.field a.repeat a.component a.escape (cc),
)
