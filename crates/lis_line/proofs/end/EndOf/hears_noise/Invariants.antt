use Rattle.std.proofs.Common.{drop}
use Rattle.lis_frame.specs.Stream.{signals_after}
use Rattle.lis_link.specs.Receiver.{ReceiverState}
use Rattle.lis_link.specs.Representation.{IsIn}
use Rattle.lis_world.specs.Steps.{is_noticed}
use Rattle.lis_world.specs.inside.Playing.{IsNoticing}
use Rattle.lis_line.specs.inside.Kept.{load_in}
use Rattle.lis_line.proofs.end.EndOf.hears_noise.Given as goal

abbrev pub invariant-loop-byte : goal.invariant-loop-byte
invariant-loop-byte g l =
    (r : ReceiverState)
    → IsIn g.row.N l.self.station.receiver r
    → IsNoticing g.row.N (load_in l.item) l.is_bad l.scanner (drop l.byte-index l.bytes)
    (is_noticed (load_in l.item) (signals_after g.row.N r.past l.bytes))
