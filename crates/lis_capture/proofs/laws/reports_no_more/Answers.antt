use Rattle.lis_capture.specs.Capture.{capture}
use Rattle.lis_capture.proofs.SizeLemmas.{length-size, size-capture}
use Rattle.lis_capture.proofs.laws.reports_no_more.Goals as goal

pub returns : goal.returns
returns c = λ past ended. (size-capture past ended, length-size (capture past ended).lines)
