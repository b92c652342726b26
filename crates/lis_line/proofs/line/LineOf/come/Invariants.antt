use Rattle.std.proofs.Common.{drop}
use Rattle.lis_link.specs.Receiver.{ReceiverState}
use Rattle.lis_link.specs.Representation.{IsIn}
use Rattle.lis_station.specs.Line.{comes}
use Rattle.lis_line.specs.inside.Kept.{line_at, IsComing}
use Rattle.lis_line.proofs.line.LineOf.come.Given as goal

abbrev pub invariant-loop-byte : goal.invariant-loop-byte
invariant-loop-byte g l =
    (r q : ReceiverState)
    → IsIn g.row.N l.fn.self.near.station.receiver r
    → IsIn g.row.N l.fn.self.far.station.receiver q
    → IsComing g.row.N l.item l.self (drop l.byte-index l.bytes)
    (comes g.row.N l.item l.bytes (line_at l.fn.self r q))
