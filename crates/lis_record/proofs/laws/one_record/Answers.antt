use Rattle.lis_record.proofs.RecordTexts.{IsRecord-header_one, IsRecord-kind, IsRecord-one}
use Rattle.lis_record.proofs.laws.one_record.Goals as goal

pub returns-clause-content : goal.returns-clause-content
returns-clause-content c = λ d text r s good. IsRecord-one d good text r s

pub returns-clause-kind : goal.returns-clause-kind
returns-clause-kind c = IsRecord-kind

pub returns-clause-header : goal.returns-clause-header
returns-clause-header c = λ d e text r s good. IsRecord-header_one d e good text r s
