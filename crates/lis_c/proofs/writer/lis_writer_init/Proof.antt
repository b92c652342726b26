-- `lis_writer_init` puts a new handle's state into the block.
use Rattle.lis_c.proofs.HandleLaws.{begins}
use Rattle.lis_c.proofs.Handles.{writer}
use Rattle.lis_c.proofs.record_builder.WriterHandleState.new.Met as new
use Rattle.lis_c.proofs.writer.lis_writer_init.Code as code
use Rattle.lis_c.proofs.writer.lis_writer_init.Statement.{statement}
use Rattle.lis_c.specs.contracts.record_builder.WriterHandleState.new as n
use Rattle.lis_c.specs.contracts.writer.lis_writer_init as f

pub lis_writer_init_spec : {M : Type 1} → statement M
lis_writer_init_spec 𝓤 𝓛 𝓜 𝓡 wired =
    begins writer _ n.Key.name 𝓤 𝓛 𝓜 𝓡 f.Key.name
    (new.met 𝓤 𝓛 𝓜 𝓡 (code.calls-lis_c::record_builder::WriterHandleState::new 𝓡.env wired))
    (code.unfolded 𝓤 𝓛.H 𝓜 𝓡 wired)
