use Rattle.lis_frame.proofs.HeardLaws.{heard_encoded}
use Rattle.lis_frame.proofs.laws.heard_is_a_frame.Goals as goal

pub returns : goal.returns
returns c = heard_encoded
