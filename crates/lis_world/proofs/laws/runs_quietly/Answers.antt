use Rattle.std.proofs.Common.{arith}
use Rattle.lis_world.proofs.Carrying.{runs_quietly}
use Rattle.lis_world.proofs.laws.runs_quietly.Goals as goal

pub returns : goal.returns
returns c = runs_quietly 240 (record { at_least = omega arith; at_most = omega arith })
