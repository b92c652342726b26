use Rattle.lis_message.proofs.OneRefusal.{refused_one}
use Rattle.lis_message.proofs.Reading.{split_one}
use Rattle.lis_message.proofs.Refusals.{refused_uncut}
use Rattle.lis_message.proofs.laws.one_split.Goals as goal

pub returns-clause-one : goal.returns-clause-one
returns-clause-one c = split_one

pub returns-clause-none : goal.returns-clause-none
returns-clause-none c = λ stream m n fault l h r k. refused_uncut stream m n fault l h r k

pub returns-clause-refusal : goal.returns-clause-refusal
returns-clause-refusal c = refused_one
