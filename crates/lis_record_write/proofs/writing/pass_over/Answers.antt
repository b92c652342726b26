use Rattle.std.proofs.Common.{◌<◌, length, arith}
use Rattle.lis_record_write.proofs.Sinks.{pass_step}
use Rattle.lis_record_write.proofs.writing.pass_over.Goals as goal

pub loop-left-preserved : goal.loop-left-preserved
loop-left-preserved c =
    let i = c.loop-left.invariant in
    let past : length c.loop-left.chunk < c.loop-left.left = omega (arith, c.len.ensures.len) in
    let same = rw c.clear.ensures at c.fill.ensures.same in
    let step = pass_step c.loop-left.chunk c.loop-left.cursor c.fill.new.chunk c.fill.new.self _ c.loop-left.left past
    same i.rest i.within in
    record {
      rest = rw c.len-left.ensures.len step.0;
      within = rw c.len-left.ensures.len step.1;
      filled = c.fill.ensures.done;
    }
