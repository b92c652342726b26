use Rattle.lis_message.proofs.EveryStream.{every_stream, goes_on}
use Rattle.lis_message.proofs.laws.every_stream.Goals as goal

pub returns-clause-read : goal.returns-clause-read
returns-clause-read c = every_stream

pub returns-clause-longer : goal.returns-clause-longer
returns-clause-longer c = λ front more messages left held split. goes_on more front messages left held split
