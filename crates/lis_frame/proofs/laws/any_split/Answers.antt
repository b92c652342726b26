use Rattle.lis_frame.proofs.StreamLaws.{signals_after-append}
use Rattle.lis_frame.proofs.laws.any_split.Goals as goal

pub returns : goal.returns
returns c = λ limit past xs ys. signals_after-append limit xs ys past
