use Rattle.std.proofs.Common.{◌++◌, arith}
use Rattle.lis_frame.specs.inside.FrameBody.{body_of}
use Rattle.lis_frame.proofs.KeptLemmas.{ended-few, kept-parts, reported-parts}
use Rattle.lis_frame.proofs.frame_body.FrameBodyOf.borrowed.Goals as goal

pub returns-then-self-lt-FRAMING-clause-reported : goal.returns-then-self-lt-FRAMING-clause-reported
returns-then-self-lt-FRAMING-clause-reported g c =
    let kept = c.self.inside in
    rw (← c.self.view_is)
    (ended-few g.row.N kept.count kept.number (kept.front ++ kept.back) c.if-self-lt-FRAMING.true)

pub returns-clause-reported : goal.returns-clause-reported
returns-clause-reported g c =
    let kept = c.self.inside in
    let s = body_of kept.number c.split_at.result.0.now
    c.byte_at_place.result c.byte_at_place-2.result c.byte_at_place-3.result c.byte_at_place-4.result in
    rw (← c.self.view_is)
    (reported-parts g.row.N kept.count kept.number (kept.front ++ kept.back) s _ (omega arith)
    (rw (
      c.split_at.ensures.front,
      c.byte_at_place.ensures,
      c.byte_at_place-2.ensures,
      c.byte_at_place-3.ensures,
      c.byte_at_place-4.ensures,
    )
    (kept-parts kept.count kept.number kept.front kept.back (omega arith) (omega arith) (omega arith)))
    c.borrowed.ensures.places)
