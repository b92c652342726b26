-- `lis_writer_end` takes the handle's state out of its block and releases it.
use Rattle.lis_c.proofs.HandleLaws.{ends}
use Rattle.lis_c.proofs.Handles.{writer}
use Rattle.lis_c.proofs.record_builder.release_writer.Met as gone
use Rattle.lis_c.proofs.writer.lis_writer_end.Code as code
use Rattle.lis_c.proofs.writer.lis_writer_end.Statement.{statement}
use Rattle.lis_c.specs.contracts.record_builder.release_writer as g
use Rattle.lis_c.specs.contracts.writer.lis_writer_end as f

pub lis_writer_end_spec : {M : Type 1} → statement M
lis_writer_end_spec 𝓤 𝓛 𝓜 𝓡 wired =
    ends writer g.Key.name 𝓤 𝓛 𝓜 𝓡 f.Key.name
    (gone.met 𝓤 𝓛 𝓜 𝓡 (code.calls-lis_c::record_builder::release_writer 𝓡.env wired)) (code.unfolded 𝓤 𝓛.H 𝓜 𝓡 wired)
