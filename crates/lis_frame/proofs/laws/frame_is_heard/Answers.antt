use Rattle.lis_frame.proofs.FrameLaws.{IsFrame-frame_bytes}
use Rattle.lis_frame.proofs.StreamLaws.{heard_frame}
use Rattle.lis_frame.proofs.laws.frame_is_heard.Goals as goal

pub returns-clause-heard : goal.returns-clause-heard
returns-clause-heard c = λ limit past bytes frame is_frame. (heard_frame limit past bytes frame is_frame).0

pub returns-clause-written : goal.returns-clause-written
returns-clause-written c = IsFrame-frame_bytes
