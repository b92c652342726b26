-- What the private calls answer.
use Rattle.std.specs.Prelude.{◌≡◌, ◌≢◌, ℕ, List, None}
use Rattle.lis_link.specs.Kept.{Kept}
use Rattle.lis_link.specs.Receiver.{ReceiverState, ReceiverStep}
use Rattle.lis_link.specs.declared.receiver.Note.{Note}
use Rattle.lis_link.specs.declared.receiver.Note.TheVariants.{Quiet, OutOfMemory}
use Rattle.lis_link.specs.declared.receiver.Step.{Step}
use Rattle.lis_link.specs.Representation.{IsStepMade, RefusesFrame, SpareAfter}
use Rattle.lis_careful.specs.Careful.{on_bytes_by, noise_by, heard_only}
use Rattle.lis_careful.specs.inside.Hearing.{HearsFront}
use Rattle.lis_careful.specs.declared.receiver.CarefulHearing.{CarefulHearing}
use Rattle.lis_station.specs.declared.station.AnswerOf.{AnswerOf}
use Rattle.lis_station.specs.declared.station.AnswerOf.TheVariants.{Emits, Hears}
use Rattle.lis_station.specs.Representation.{KeptStation}
use Rattle.lis_station.specs.Station.{turn_reply, turn_after_note, asks_after}

abbrev pub heard_step : {limit : ℕ} → AnswerOf limit → Step
heard_step (Emits emit) = record { reply = None; message = None; note = Quiet }
heard_step (Hears step) = step

-- a step of the receiver with regard to the turn, and what the station keeps after it
pub record IsTurned (old : KeptStation) (raw result : Step) (new : KeptStation) : Type 0 where
  pub result_is : result ≡ record raw { reply = turn_reply raw.note old.asks_turn raw.reply }
  pub after_is : new ≡ record old {
    receiver = new.receiver;
    turn = turn_after_note raw.note old.turn;
    asks_turn = asks_after raw.note old.asks_turn;
  }

-- the receiver has heard the front of bytes, with this step of its own
pub record HearsFrontOf (limit : ℕ) (hear : ℕ → ReceiverState → ReceiverStep) (bytes : List ℕ) (r : ReceiverState)
    (old : KeptStation) (result : CarefulHearing) (new : KeptStation) : Type 0 where
  pub raw : Step
  pub turned : IsTurned old raw result.step new
  pub front : HearsFront limit hear bytes r old.receiver.spare (record result { step = raw }) new.receiver

-- it has heard bytes, with this step of its own
pub record IsHeardOf (limit : ℕ) (hear : ℕ → ReceiverState → ReceiverStep) (bytes : List ℕ) (r : ReceiverState)
    (old : KeptStation) (result : CarefulHearing) (new : KeptStation) : Type 0 where
  pub raw : Step
  pub turned : IsTurned old raw result.step new
  pub count_is : result.count ≡ (on_bytes_by hear bytes r).count
  pub noise_is : result.noise ≡ noise_by hear bytes r
  pub makes : raw.note ≢ OutOfMemory → IsStepMade limit (on_bytes_by hear bytes r).step raw new.receiver
  pub refused : raw.note ≡ OutOfMemory
      → RefusesFrame limit old.receiver.spare (on_bytes_by hear bytes r).step
      (heard_only (on_bytes_by hear bytes r).step r) raw new.receiver
  pub spare_after : SpareAfter old.receiver.spare new.receiver.spare (on_bytes_by hear bytes r).step.taken
