use Rattle.lis_world.proofs.Recovering.{recovers, recovers_quietly}
use Rattle.lis_world.proofs.laws.recovers_of.Goals as goal

pub returns-clause-enough : goal.returns-clause-enough
returns-clause-enough g c = recovers g.row.N c.requires

pub returns-clause-undisturbed : goal.returns-clause-undisturbed
returns-clause-undisturbed g c = recovers_quietly g.row.N c.requires
