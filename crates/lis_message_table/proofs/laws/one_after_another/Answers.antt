use Rattle.lis_message_table.proofs.TableLaws.{one_message, reads_before}
use Rattle.lis_message_table.proofs.laws.one_after_another.Goals as goal

pub returns-clause-one : goal.returns-clause-one
returns-clause-one c = one_message

pub returns-clause-reads : goal.returns-clause-reads
returns-clause-reads c = reads_before
