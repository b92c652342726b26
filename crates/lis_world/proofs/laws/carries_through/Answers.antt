use Rattle.std.proofs.Common.{arith}
use Rattle.lis_world.proofs.Carrying.{carries_through}
use Rattle.lis_world.proofs.laws.carries_through.Goals as goal

pub returns : goal.returns
returns c = carries_through 240 (record { at_least = omega arith; at_most = omega arith })
