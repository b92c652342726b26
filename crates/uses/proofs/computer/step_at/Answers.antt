use Rattle.uses.proofs.ReceptionLaws.{answers_byte}
use Rattle.uses.proofs.computer.step_at.Goals as goal

pub returns-in-Byte : goal.returns-in-Byte
returns-in-Byte c = (
  λ e. cc,
  λ r is. rw c.in-Byte.is
      (answers_byte c.in-Byte.byte _ r c.byte.result _ (c.byte.ensures.step r is) (c.byte.ensures.refused r is)),
)
