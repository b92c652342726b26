use Rattle.lis_bytes.proofs.MarkLemmas.{compared_16}
use Rattle.lis_bytes.proofs.marks.bits_of.Goals as goal

pub returns : goal.returns
returns c = search (compared_16)
