use Rattle.std.proofs.Common.{◌&&◌}
use Rattle.lis_capture.proofs.LowerLemmas.{pair_lowered}
use Rattle.lis_capture.proofs.digits.lower_pair.Goals as goal

pub returns : goal.returns
returns c =
    pair_lowered c.args.high c.args.low c.args.lowered.now _ c.requires
    (λ i. c.is_digit.ensures i && c.is_digit-2.ensures i)
