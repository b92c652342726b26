use Rattle.std.proofs.Common.{rules, refl}
use Rattle.lis_engine.specs.inside.Steps.{had_failed, is_unsent}
use Rattle.lis_engine.proofs.machine.halted.Goals as goal

pub returns-in-Err-Write-clause-halted : goal.returns-in-Err-Write-clause-halted
returns-in-Err-Write-clause-halted g c = had_failed c.in-Err-Write.field-0-0 (search rules) (search rules) refl

pub returns-in_err-send-clause-halted : goal.returns-in_err-send-clause-halted
returns-in_err-send-clause-halted g c =
    is_unsent c.in_err-send.field-0.0 (search rules) (search rules) c.in_err-send.ensures
