use Rattle.lis_record.proofs.FaultlessTexts.{fault_of_header, fault_of_record, header_without_fault}
use Rattle.lis_record.proofs.FaultlessTexts.{record_without_fault}
use Rattle.lis_record.proofs.laws.record_or_fault.Goals as goal

pub returns-clause-found : goal.returns-clause-found
returns-clause-found c = record_without_fault

pub returns-clause-no_fault : goal.returns-clause-no_fault
returns-clause-no_fault c = fault_of_record

pub returns-clause-header_found : goal.returns-clause-header_found
returns-clause-header_found c = header_without_fault

pub returns-clause-no_header_fault : goal.returns-clause-no_header_fault
returns-clause-no_header_fault c = fault_of_header
