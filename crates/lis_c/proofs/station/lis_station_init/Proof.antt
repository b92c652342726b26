-- `lis_station_init` puts a new handle's state into the block.
use Rattle.lis_c.proofs.HandleLaws.{begins}
use Rattle.lis_c.proofs.Handles.{station}
use Rattle.lis_c.proofs.station_state.StationHandleState.new.Met as new
use Rattle.lis_c.proofs.station.lis_station_init.Code as code
use Rattle.lis_c.proofs.station.lis_station_init.Statement.{statement}
use Rattle.lis_c.specs.contracts.station_state.StationHandleState.new as n
use Rattle.lis_c.specs.contracts.station.lis_station_init as f

pub lis_station_init_spec : {M : Type 1} → statement M
lis_station_init_spec 𝓤 𝓛 𝓜 𝓡 wired =
    begins station _ n.Key.name 𝓤 𝓛 𝓜 𝓡 f.Key.name
    (new.met 𝓤 𝓛 𝓜 𝓡 (code.calls-lis_c::station_state::StationHandleState::new 𝓡.env wired))
    (code.unfolded 𝓤 𝓛.H 𝓜 𝓡 wired)
