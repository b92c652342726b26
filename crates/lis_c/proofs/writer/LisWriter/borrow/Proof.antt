-- `borrow` borrows what the handle's pointer points to, and the handle follows it.
use Rattle.lis_c.proofs.HandleLaws.{borrows}
use Rattle.lis_c.proofs.Handles.{writer}
use Rattle.lis_c.proofs.writer.LisWriter.borrow.Code as code
use Rattle.lis_c.proofs.writer.LisWriter.borrow.Statement.{statement}
use Rattle.lis_c.specs.contracts.writer.LisWriter.borrow as f

pub borrow_spec : {M : Type 1} → statement M
borrow_spec 𝓤 𝓛 𝓜 𝓡 wired = borrows writer 𝓤 𝓛 𝓜 𝓡 f.Key.name (code.unfolded 𝓤 𝓛.H 𝓜 𝓡 wired)
