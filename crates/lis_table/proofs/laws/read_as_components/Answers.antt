use Rattle.lis_table.proofs.EntryLaws.{table_read}
use Rattle.lis_table.proofs.laws.read_as_components.Goals as goal

pub returns : goal.returns
returns c = table_read
