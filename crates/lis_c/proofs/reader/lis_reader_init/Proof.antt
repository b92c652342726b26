-- `lis_reader_init` puts a new handle's state into the block.
use Rattle.lis_c.proofs.HandleLaws.{begins}
use Rattle.lis_c.proofs.Handles.{reader}
use Rattle.lis_c.proofs.handle_state.ReaderHandleState.new.Met as new
use Rattle.lis_c.proofs.reader.lis_reader_init.Code as code
use Rattle.lis_c.proofs.reader.lis_reader_init.Statement.{statement}
use Rattle.lis_c.specs.contracts.handle_state.ReaderHandleState.new as n
use Rattle.lis_c.specs.contracts.reader.lis_reader_init as f

pub lis_reader_init_spec : {M : Type 1} → statement M
lis_reader_init_spec 𝓤 𝓛 𝓜 𝓡 wired =
    begins reader _ n.Key.name 𝓤 𝓛 𝓜 𝓡 f.Key.name
    (new.met 𝓤 𝓛 𝓜 𝓡 (code.calls-lis_c::handle_state::ReaderHandleState::new 𝓡.env wired))
    (code.unfolded 𝓤 𝓛.H 𝓜 𝓡 wired)
