use Rattle.std.proofs.Common.{arith}
use Rattle.lis_frame.specs.Limit.{IsLimit}
use Rattle.lis_world.proofs.Recovering.{recovers, recovers_quietly}
use Rattle.lis_world.proofs.laws.recovers.Goals as goal

usual : IsLimit 240
usual = record { at_least = omega arith; at_most = omega arith }

pub returns-clause-enough : goal.returns-clause-enough
returns-clause-enough c = recovers 240 usual

pub returns-clause-undisturbed : goal.returns-clause-undisturbed
returns-clause-undisturbed c = recovers_quietly 240 usual
