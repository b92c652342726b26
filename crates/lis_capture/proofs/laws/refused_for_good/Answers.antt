use Rattle.lis_capture.proofs.CaptureLemmas.{capture-refused}
use Rattle.lis_capture.proofs.laws.refused_for_good.Goals as goal

pub returns : goal.returns
returns c = capture-refused
