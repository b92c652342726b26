use Rattle.lis_message_table.proofs.TableLaws.{components, contents}
use Rattle.lis_message_table.proofs.laws.read_as_tree.Goals as goal

pub returns-clause-records : goal.returns-clause-records
returns-clause-records c = contents

pub returns-clause-components : goal.returns-clause-components
returns-clause-components c = components
