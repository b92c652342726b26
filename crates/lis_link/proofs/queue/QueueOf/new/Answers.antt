use Rattle.lis_link.proofs.QueueLaws.{left-start}
use Rattle.lis_link.proofs.queue.QueueOf.new.Goals as goal

pub returns-clause-left : goal.returns-clause-left
returns-clause-left g c = left-start g.row.N (g.T.SessionTexts.texts c.args.texts)
