use Rattle.std.proofs.Common.{arith}
use Rattle.lis_port.proofs.Sinks.{WrittenOn-more}
use Rattle.lis_port.proofs.port.write_all.Goals as goal

pub loop-rest-preserved : goal.loop-rest-preserved
loop-rest-preserved g c =
    let i = c.loop-rest.invariant in
    let more = WrittenOn-more _ _ _ _ _ _ _ i.within i.rest i.taken c.in-Ok.ensures.bytes c.split_at.ensures.back
    c.split_at.ensures.back_len in
    record {
      open_sink = c.in-Ok.ensures.failed;
      within = omega (arith, i.within, c.split_at.ensures.back_len);
      rest = more.rest;
      taken = more.taken;
    }
