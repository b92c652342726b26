use Rattle.std.proofs.Common.{arith}
use Rattle.lis_world.proofs.Overcoming.{overcomes_loss}
use Rattle.lis_world.proofs.laws.overcomes_loss.Goals as goal

pub returns : goal.returns
returns c = overcomes_loss 240 (record { at_least = omega arith; at_most = omega arith })
