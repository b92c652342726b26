use Rattle.lis_message_table.proofs.OneWay.{read_one}
use Rattle.lis_message_table.proofs.laws.read_in_one_way.Goals as goal

pub returns : goal.returns
returns c = read_one
