use Rattle.lis_bytes.proofs.MarkLemmas.{compared_32}
use Rattle.lis_bytes.proofs.marks.bits_of_32.Goals as goal

pub returns : goal.returns
returns c = search (compared_32)
