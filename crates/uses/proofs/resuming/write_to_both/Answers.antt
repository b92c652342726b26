use Rattle.std.proofs.Common.{Err, sym, ap, ◌∙◌}
use Rattle.lis_record_write.specs.declared.faults.WriteFault.{WriteFault}
use Rattle.lis_record_write.specs.Writing.{is_io}
use Rattle.uses.specs.Resuming.{both}
use Rattle.uses.proofs.resuming.write_to_both.Goals as goal

pub returns-in-Some : goal.returns-in-Some
returns-in-Some g c =
    both c.in-Some.place c.in-Some.skip (rw c.in-Some.ensures.0 c.in-Some.ensures.2)
    (rw (c.in-Some.ensures.0, sym c.in-Some.ensures.1) (rw c.in-Err.is at c.write_message.ensures.wrote))
    ((rw c.in-Err.is at c.write_message.ensures.failed)
    ∙ ap (λ (fault : WriteFault). is_io (Err fault)) c.in-Some.ensures.1)
    c.write_message_from.ensures.wrote c.write_message_from.ensures.failed
