use Rattle.lis_message.proofs.Lines.{text_lacks}
use Rattle.lis_message.proofs.records.next_line.Goals as goal

pub returns-in_default-clause-none : goal.returns-in_default-clause-none
returns-in_default-clause-none c = text_lacks c.args.bytes.now c.in_default.ensures.text

pub returns-clause-lacks : goal.returns-clause-lacks
returns-clause-lacks c = rw c.split_at.ensures.front (text_lacks _ c.in-Some.ensures.texts)
