-- A receiver's answer in numbers.
use Rattle.std.specs.Prelude.{◌≡◌, ℕ, List}
use Rattle.lis_link.specs.declared.receiver.Step.{Step}
use Rattle.lis_c.specs.Codes.{note_code, note_detail, note_place, reply_code}
use Rattle.lis_c.specs.declared.out.LisStep.{LisStep}
use Rattle.lis_c.specs.Steps.{HoldsText}

-- the answer of a receiver, in numbers
pub record ReportsStep (step : Step) (before : List ℕ) (out : LisStep) (text : List ℕ) : Type 0 where
  pub reply_is : out.reply ≡ reply_code step.reply
  pub note_is : out.note ≡ note_code step.note
  pub detail_is : out.detail ≡ note_detail step.note
  pub place_is : out.place ≡ note_place step.note
  pub text_is : HoldsText step.message out.has_text before text
