use Rattle.std.proofs.Common.{◌∙◌, sym}
use Rattle.lis_frame.specs.inside.FrameBody.{body_of}
use Rattle.lis_frame.proofs.FrameLaws.{found-content}
use Rattle.lis_frame.proofs.FrameBodyLemmas.{body_fault-parts, content_of-body_of}
use Rattle.lis_frame.proofs.read.Parts.borrowed.Goals as goal

pub returns-in-Some-clause-places : goal.returns-in-Some-clause-places
returns-in-Some-clause-places g c = body_fault-parts _ _ _ _ _ _ g.row.N c.requires ∙ sym c.in-Some.ensures

pub returns-in-None-clause-places : goal.returns-in-None-clause-places
returns-in-None-clause-places g c = (
  c.of_parts.ensures ∙ sym (content_of-body_of _ _ _ _ _ _),
  body_fault-parts _ _ _ _ _ _ g.row.N c.requires ∙ sym c.in-None.ensures,
)

pub returns-in-None-clause-content : goal.returns-in-None-clause-content
returns-in-None-clause-content g c =
    let parts = c.args.self.now in
    found-content g.row.N (body_of parts.number parts.text.now parts.end parts.high parts.low parts.close) _
    (c.of_parts.ensures ∙ sym (content_of-body_of _ _ _ _ _ _))
    (body_fault-parts _ _ _ _ _ _ g.row.N c.requires ∙ sym c.in-None.ensures)
