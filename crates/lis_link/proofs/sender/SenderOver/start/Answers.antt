use Rattle.std.proofs.Common.{arith, sym, ◌∙◌}
use Rattle.lis_link.proofs.StartLaws.{faultless-start}
use Rattle.lis_link.proofs.SenderLaws.{started_sender}
use Rattle.lis_link.proofs.sender.SenderOver.start.Goals as goal

pub new-requires : goal.new-requires
new-requires g c = (
  omega arith,
  (
    c.self.invariant.is_limit,
    faultless-start c.args.self.now.phase (g.T.SessionTexts.texts c.args.texts)
        (sym c.start_fault.ensures ∙ c.in_default.is),
  ),
)

pub invariant_of-self : goal.invariant_of-self
invariant_of-self g c =
    let texts = g.T.SessionTexts.texts c.args.texts in
    started_sender g.row.N c.new.result texts c.self.invariant.is_limit
    (faultless-start c.args.self.now.phase texts (sym c.start_fault.ensures ∙ c.in_default.is))
    c.new.ensures.few c.new.ensures.texts c.new.ensures.left
