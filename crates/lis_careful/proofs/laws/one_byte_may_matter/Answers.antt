use Rattle.lis_careful.proofs.OneByteRows.{may_matter}
use Rattle.lis_careful.proofs.laws.one_byte_may_matter.Goals as goal

pub returns : goal.returns
returns c = may_matter
