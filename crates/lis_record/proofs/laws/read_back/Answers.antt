use Rattle.lis_record_write.proofs.ReadBack.{IsRecord-encoded}
use Rattle.lis_record.proofs.RecordTexts.{IsRecord-one}
use Rattle.lis_record_write.specs.Encoding.{encoded}
use Rattle.lis_record.proofs.laws.read_back.Goals as goal

pub returns-clause-related : goal.returns-clause-related
returns-clause-related c = λ d content good shape none. IsRecord-encoded d good content shape none

pub returns-clause-alone : goal.returns-clause-alone
returns-clause-alone c = λ d content other good shape none r.
    IsRecord-one d good (encoded d content) other content r (IsRecord-encoded d good content shape none)
