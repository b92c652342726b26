use Rattle.lis_frame.proofs.ScannerLemmas.{represents_new}
use Rattle.lis_frame.proofs.scanner.ScannerOf.new.Goals as goal

pub returns : goal.returns
returns g c = represents_new g.row.N
