use Rattle.std.proofs.Common.{arith}
use Rattle.hex.specs.Hex.{lower_digits}
use Rattle.lis_engine.proofs.EncodeLemmas.{digits_of_lanes, lanes_fit}
use Rattle.lis_engine.proofs.digits.digits_of.Goals as goal

pub swizzle : goal.swizzle
swizzle c = lanes_fit c.args.values 0 (omega (arith, c.requires.lanes)) c.requires.small

pub returns : goal.returns
returns c = digits_of_lanes lower_digits c.args.values 0 (omega (arith, c.requires.lanes)) c.requires.small
