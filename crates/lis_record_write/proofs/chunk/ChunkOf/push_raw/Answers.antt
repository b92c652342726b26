use Rattle.std.proofs.Common.{arith}
use Rattle.std.proofs.lemmas.Grind.{common_steps}
use Rattle.lis_record_write.specs.Encoding.{encoded_symbol}
use Rattle.lis_record_write.proofs.Pushes.{digits-whole}
use Rattle.lis_record_write.proofs.chunk.ChunkOf.push_raw.Goals as goal

pub returns : goal.returns
unfolding encoded_symbol
returns g c = grind (arith, common_steps, digits-whole)
