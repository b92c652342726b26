use Rattle.lis_bytes.proofs.SearchLemmas.{all_found}
use Rattle.lis_record_read.proofs.search.BadBytesByteSet.lacks.Goals as goal

pub returns-clause-seen : goal.returns-clause-seen
returns-clause-seen c = λ none. absurd (all_found c.args._bytes.now c.requires none)
