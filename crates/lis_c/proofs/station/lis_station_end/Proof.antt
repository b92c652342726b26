-- `lis_station_end` takes the handle's state out of its block and releases it.
use Rattle.lis_c.proofs.HandleLaws.{ends}
use Rattle.lis_c.proofs.Handles.{station}
use Rattle.lis_c.proofs.station_state.release_station.Met as gone
use Rattle.lis_c.proofs.station.lis_station_end.Code as code
use Rattle.lis_c.proofs.station.lis_station_end.Statement.{statement}
use Rattle.lis_c.specs.contracts.station_state.release_station as g
use Rattle.lis_c.specs.contracts.station.lis_station_end as f

pub lis_station_end_spec : {M : Type 1} → statement M
lis_station_end_spec 𝓤 𝓛 𝓜 𝓡 wired =
    ends station g.Key.name 𝓤 𝓛 𝓜 𝓡 f.Key.name
    (gone.met 𝓤 𝓛 𝓜 𝓡 (code.calls-lis_c::station_state::release_station 𝓡.env wired)) (code.unfolded 𝓤 𝓛.H 𝓜 𝓡 wired)
