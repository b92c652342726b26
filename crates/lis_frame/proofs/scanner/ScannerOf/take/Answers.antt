use Rattle.lis_frame.proofs.ScannerLemmas.{HoldsAtMost-held_after, represents_after}
use Rattle.lis_frame.proofs.scanner.ScannerOf.take.Goals as goal

pub returns-clause-after : goal.returns-clause-after
returns-clause-after g c = λ past h. rw c.hold.ensures (represents_after g.row.N c.args.self.now past c.args.byte h)

pub returns-clause-kept : goal.returns-clause-kept
returns-clause-kept g c = rw c.hold.ensures (HoldsAtMost-held_after g.row.N c.args.self.now c.args.byte)
