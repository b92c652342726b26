-- `lis_reader_end` takes the handle's state out of its block and releases it.
use Rattle.lis_c.proofs.HandleLaws.{ends}
use Rattle.lis_c.proofs.Handles.{reader}
use Rattle.lis_c.proofs.handle_state.release_reader.Met as gone
use Rattle.lis_c.proofs.reader.lis_reader_end.Code as code
use Rattle.lis_c.proofs.reader.lis_reader_end.Statement.{statement}
use Rattle.lis_c.specs.contracts.handle_state.release_reader as g
use Rattle.lis_c.specs.contracts.reader.lis_reader_end as f

pub lis_reader_end_spec : {M : Type 1} → statement M
lis_reader_end_spec 𝓤 𝓛 𝓜 𝓡 wired =
    ends reader g.Key.name 𝓤 𝓛 𝓜 𝓡 f.Key.name
    (gone.met 𝓤 𝓛 𝓜 𝓡 (code.calls-lis_c::handle_state::release_reader 𝓡.env wired)) (code.unfolded 𝓤 𝓛.H 𝓜 𝓡 wired)
