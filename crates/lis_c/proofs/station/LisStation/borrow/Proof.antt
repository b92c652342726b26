-- `borrow` borrows what the handle's pointer points to, and the handle follows it.
use Rattle.lis_c.proofs.HandleLaws.{borrows}
use Rattle.lis_c.proofs.Handles.{station}
use Rattle.lis_c.proofs.station.LisStation.borrow.Code as code
use Rattle.lis_c.proofs.station.LisStation.borrow.Statement.{statement}
use Rattle.lis_c.specs.contracts.station.LisStation.borrow as f

pub borrow_spec : {M : Type 1} → statement M
borrow_spec 𝓤 𝓛 𝓜 𝓡 wired = borrows station 𝓤 𝓛 𝓜 𝓡 f.Key.name (code.unfolded 𝓤 𝓛.H 𝓜 𝓡 wired)
