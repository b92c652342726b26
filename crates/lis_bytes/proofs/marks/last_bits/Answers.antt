use Rattle.lis_bytes.proofs.LastBits.{last_shifted}
use Rattle.lis_bytes.proofs.marks.last_bits.Goals as goal

pub returns : goal.returns
returns c = search (last_shifted)
