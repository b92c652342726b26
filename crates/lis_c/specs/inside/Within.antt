-- Bytes that were heard with a limit on a text.
use Rattle.std.specs.Prelude.{◌≡◌, ◌≢◌, ℕ, List, Some, take}
use Rattle.lis_link.specs.Kept.{Kept}
use Rattle.lis_link.specs.declared.receiver.Hearing.{Hearing}
use Rattle.lis_link.specs.declared.receiver.Note.TheVariants.{OutOfMemory}
use Rattle.lis_link.specs.Receiver.{ReceiverState, with_heard}
use Rattle.lis_link.specs.Representation.{IsStepMade, RefusesFrame, SpareAfter}
use Rattle.lis_c.specs.Within.{on_bytes_within}

-- the answer is that of the definition, and memory may run out
pub record IsHeardWithin (limit most : ℕ) (bytes : List ℕ) (r : ReceiverState) (spare : ℕ) (hearing : Hearing)
    (new : Kept) : Type 0 where
  pub count_is : hearing.count ≡ (on_bytes_within limit (Some most) bytes r).count
  pub makes : hearing.step.note ≢ OutOfMemory → IsStepMade limit (on_bytes_within limit (Some most) bytes r).step
      hearing.step new
  pub refused : hearing.step.note ≡ OutOfMemory →
      RefusesFrame limit spare (on_bytes_within limit (Some most) bytes r).step
      (with_heard (take hearing.count bytes) r) hearing.step new
  pub spare_after : SpareAfter spare new.spare (on_bytes_within limit (Some most) bytes r).step.taken
