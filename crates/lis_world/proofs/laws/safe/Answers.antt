use Rattle.std.proofs.Common.{arith}
use Rattle.lis_world.proofs.Safety.{always_safe}
use Rattle.lis_world.proofs.laws.safe.Goals as goal

pub returns : goal.returns
returns c = always_safe 240 (record { at_least = omega arith; at_most = omega arith })
