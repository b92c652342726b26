use Rattle.std.proofs.Common.{◌≡◌, length, sym, ap, ◌∙◌, subst, arith}
use Rattle.lis_frame.specs.Pieces.{session_frames}
use Rattle.lis_link.specs.Queue.{frames_of, IsSender}
use Rattle.lis_link.proofs.SenderLaws.{advanced_sender}
use Rattle.lis_link.proofs.sender.SenderOver.count_off.Goals as goal

pub unreachable-requires : goal.unreachable-requires
unreachable-requires g c =
    let frames = ap (λ s. length s.frames) (sym c.self.view_is)
    ∙ ap (λ q. length (frames_of g.row.N q)) c.in_default.is in
    let some = c.requires in
    absurd (omega (arith, frames))

pub invariant_of-self : goal.invariant_of-self
invariant_of-self g c =
    let queue_is = c.in-Some.is in
    let frames : length c.args.self.now.frames ≡ length (session_frames g.row.N c.in-Some.queue.texts) =
    ap (λ s. length s.frames) (sym c.self.view_is) ∙ ap (λ q. length (frames_of g.row.N q)) queue_is in
    let counted : c.args.self.now.acknowledged ≡ c.self.inside.acknowledged =
    ap (λ s. s.acknowledged) (sym c.self.view_is) in
    let some = c.requires in
    advanced_sender g.row.N c.in-Some.queue c.advance.new.self c.self.inside.acknowledged c.self.inside.phase
    c.self.inside.tries
    (subst (λ q. IsSender g.row.N q c.self.inside.acknowledged c.self.inside.phase c.self.inside.tries) queue_is
    c.self.invariant)
    (omega arith) c.advance.ensures.texts c.advance.ensures.left
