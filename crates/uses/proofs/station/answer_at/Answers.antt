use Rattle.uses.proofs.StationLaws.{answers_byte}
use Rattle.uses.proofs.station.answer_at.Goals as goal

pub returns-in-Byte : goal.returns-in-Byte
returns-in-Byte c = (
  λ e. cc,
  λ s is. rw c.in-Byte.is
      (answers_byte c.in-Byte.byte s _ _ c.byte.result c.byte.ensures.step c.byte.ensures.refused
      c.byte.ensures.memory is),
)
