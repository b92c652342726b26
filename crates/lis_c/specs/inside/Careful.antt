-- Bytes that were heard carefully, or as ever.
use Rattle.std.specs.Prelude.{◌≡◌, ◌≢◌, ℕ, Bool, List, Option, take}
use Rattle.lis_link.specs.Kept.{Kept}
use Rattle.lis_link.specs.declared.receiver.Note.TheVariants.{OutOfMemory}
use Rattle.lis_link.specs.Receiver.{ReceiverState}
use Rattle.lis_link.specs.Representation.{IsStepMade, RefusesFrame, SpareAfter}
use Rattle.lis_careful.specs.declared.receiver.CarefulHearing.{CarefulHearing}
use Rattle.lis_c.specs.Careful.{heard_set, noises_set, on_bytes_set}

-- the answer is that of the definition, and memory may run out
pub record IsHeardSet (careful : Bool) (limit : ℕ) (most : Option ℕ) (bytes : List ℕ) (r : ReceiverState) (spare : ℕ)
    (hearing : CarefulHearing) (new : Kept) : Type 0 where
  pub count_is : hearing.count ≡ (on_bytes_set careful limit most bytes r).count
  pub noise_is : hearing.noise ≡ noises_set careful limit most bytes r
  pub makes : hearing.step.note ≢ OutOfMemory → IsStepMade limit (on_bytes_set careful limit most bytes r).step
      hearing.step new
  pub refused : hearing.step.note ≡ OutOfMemory →
      RefusesFrame limit spare (on_bytes_set careful limit most bytes r).step
      (heard_set careful (on_bytes_set careful limit most bytes r).step (take hearing.count bytes) r) hearing.step new
  pub spare_after : SpareAfter spare new.spare (on_bytes_set careful limit most bytes r).step.taken
