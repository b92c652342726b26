use Rattle.lis_frame.proofs.ScannerLemmas.{represents_signal}
use Rattle.lis_frame.proofs.scanner.ScannerOf.peek.Goals as goal

pub returns-clause-signal : goal.returns-clause-signal
returns-clause-signal g c = λ past h. rw c.peek_held.ensures.signal
    (represents_signal g.row.N c.args.self.now past c.args.byte h)
