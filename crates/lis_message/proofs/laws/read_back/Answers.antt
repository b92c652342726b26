use Rattle.lis_message.proofs.ReadBack.{message_back, messages_split, messages_one}
use Rattle.lis_message.proofs.laws.read_back.Goals as goal

pub returns-clause-message : goal.returns-clause-message
returns-clause-message c = message_back

pub returns-clause-split : goal.returns-clause-split
returns-clause-split c = messages_split

pub returns-clause-alone : goal.returns-clause-alone
returns-clause-alone c = messages_one
