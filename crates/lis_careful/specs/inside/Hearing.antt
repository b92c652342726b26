-- What the private calls of careful hearing answer.
use Rattle.std.specs.Prelude.{◌≡◌, ◌≢◌, ◌==◌, ◌||◌, ◌∷◌, ℕ, Bool, false, List, [], drop, None}
use Rattle.lis_text.specs.Control.{STX, EOT, ENQ}
use Rattle.lis_link.specs.declared.receiver.Note.TheVariants.{OutOfMemory, Quiet}
use Rattle.lis_link.specs.Kept.{Kept}
use Rattle.lis_link.specs.Receiver.{ReceiverState, ReceiverStep, answers, heard_on}
use Rattle.lis_link.specs.Representation.{IsStepMade, RefusesFrame, SpareAfter}
use Rattle.lis_careful.specs.Careful.{on_bytes_by, noise_by, counted_on, heard_only}
use Rattle.lis_careful.specs.declared.receiver.CarefulHearing.{CarefulHearing}

-- the front of bytes was heard: all but its last byte were quiet, this step is meant for the last, and it was made or
-- rejected; where it is quiet too, nothing has changed but the stream
pub record HearsFront (limit : ℕ) (hear : ℕ → ReceiverState → ReceiverStep) (bytes : List ℕ) (r : ReceiverState)
    (spare : ℕ) (result : CarefulHearing) (new : Kept) : Type 0 where
  pub meant : ReceiverStep
  pub goes_on : on_bytes_by hear bytes r
      ≡ heard_on result.count meant.note meant (on_bytes_by hear (drop result.count bytes) meant.after)
  pub noise_is : noise_by hear bytes r
      ≡ counted_on result.noise meant.note (noise_by hear (drop result.count bytes) meant.after)
  pub quiet : meant.note ≡ Quiet → meant ≡ answers None Quiet (heard_only meant r)
  pub makes : result.step.note ≢ OutOfMemory → IsStepMade limit meant result.step new
  pub refused : result.step.note ≡ OutOfMemory → RefusesFrame limit spare meant (heard_only meant r) result.step new
  pub spare_after : SpareAfter spare new.spare meant.taken

-- the answer to bytes is that of the definition
pub record IsHeard (limit : ℕ) (hear : ℕ → ReceiverState → ReceiverStep) (bytes : List ℕ) (r : ReceiverState)
    (spare : ℕ) (hearing : CarefulHearing) (new : Kept) : Type 0 where
  pub count_is : hearing.count ≡ (on_bytes_by hear bytes r).count
  pub noise_is : hearing.noise ≡ noise_by hear bytes r
  pub makes : hearing.step.note ≢ OutOfMemory → IsStepMade limit (on_bytes_by hear bytes r).step hearing.step new
  pub refused : hearing.step.note ≡ OutOfMemory
      → RefusesFrame limit spare (on_bytes_by hear bytes r).step
      (heard_only (on_bytes_by hear bytes r).step r) hearing.step new
  pub spare_after : SpareAfter spare new.spare (on_bytes_by hear bytes r).step.taken

-- bytes that are heard as themselves in whatever state are not special
abbrev pub is_special : ℕ → Bool
is_special b = b == STX || (b == ENQ || b == EOT)

abbrev pub AreUnspecial : List ℕ → Type 0
AreUnspecial [] = Unit {0}
AreUnspecial (b ∷ bytes) = (is_special b ≡ false) × AreUnspecial bytes
