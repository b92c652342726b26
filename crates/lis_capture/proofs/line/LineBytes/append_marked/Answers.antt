use Rattle.std.proofs.Common.{length-append, arith}
use Rattle.lis_capture.proofs.line.LineBytes.append_marked.Goals as goal

pub append-requires-2 : goal.append-requires-2
append-requires-2 g c =
    omega (
      arith,
      c.requires.room,
      c.requires.mark,
      c.append_to.ensures.short,
      rw c.append.ensures at c.append_to.ensures.short,
      length-append c.args.out.now.waits c.args.mark.now,
    )
