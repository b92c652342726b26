use Rattle.lis_message_table.proofs.ResultLaws.{results_are}
use Rattle.lis_message_table.proofs.laws.results.Goals as goal

pub returns : goal.returns
returns c = results_are
