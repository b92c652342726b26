-- A station's answer as it goes through the program: what is sent is put, and the receiver's step is given on.
use Rattle.std.specs.Prelude.{◌≡◌, ℕ, true, false, List, Option, None, Some}
use Rattle.std.specs.Option.{option_to_list}
use Rattle.lis_link.specs.Kept.{Kept}
use Rattle.lis_link.specs.Duties.{emitted_bytes}
use Rattle.lis_link.specs.declared.receiver.Note.TheVariants.{OutOfMemory}
use Rattle.lis_link.specs.declared.receiver.Step.{Step}
use Rattle.lis_link.specs.Receiver.{ReceiverState, ReceiverStep}
use Rattle.lis_link.specs.Representation.{IsStepMade, RefusesFrame}
use Rattle.lis_station.specs.declared.station.AnswerOf.{AnswerOf}
use Rattle.lis_station.specs.declared.station.AnswerOf.TheVariants.{Emits, Hears}
use Rattle.lis_station.specs.Representation.{KeptStation, station_at}
use Rattle.lis_station.specs.Station.{StationAnswer, StationStep, sends, hears}
use Rattle.lis_c.specs.Emitted.{HoldsBytes, HoldsEmitted}
use Rattle.lis_c.specs.Stations.{NoStep}
use Rattle.lis_c.specs.inside.Steps.{ReportsStep}
use Rattle.lis_c.specs.declared.out.LisAnswer.{LisAnswer}
use Rattle.lis_c.specs.declared.out.LisBytes.{LisBytes}

-- an answer was put: what the sender emits, or the reply of the receiver's step
abbrev pub PutsAnswer : {limit : ℕ} → AnswerOf limit → Option Step → LisBytes → Type 0
PutsAnswer {limit} (Emits emit) None out = HoldsEmitted limit out (emitted_bytes emit)
PutsAnswer (Emits emit) (Some step) out = ⊥
PutsAnswer (Hears answer) None out = ⊥
PutsAnswer (Hears answer) (Some step) out = (step ≡ answer) × HoldsBytes out (option_to_list answer.reply)

-- memory ran out for a frame's text
abbrev pub IsMemoryOut : Option Step → Type 0
IsMemoryOut None = ⊥
IsMemoryOut (Some step) = step.note ≡ OutOfMemory

-- what was put is the answer of the definition
abbrev pub PutsStep : (limit : ℕ) → StationAnswer limit → Option Step → LisBytes → Kept → Kept → Type 0
PutsStep limit (sends step) None out old new = HoldsEmitted limit out (emitted_bytes step.emit) × (new ≡ old)
PutsStep limit (sends step) (Some result) out old new = ⊥
PutsStep limit (hears step) None out old new = ⊥
PutsStep limit (hears step) (Some result) out old new =
    HoldsBytes out (option_to_list result.reply) × IsStepMade limit step result new

-- the step was made
pub record Answers {limit : ℕ} (step : StationStep limit) (result : Option Step) (out : LisBytes)
    (old new : KeptStation) : Type 0 where
  pub puts : PutsStep limit step.answer result out old.receiver new.receiver
  pub station_is : station_at new step.after.receiver ≡ step.after

-- or the receiver rejects a frame because memory ran out
abbrev pub RejectsFrame :
    (limit : ℕ) → ReceiverStep → ReceiverState → Option Step → LisBytes → KeptStation → KeptStation → Type 0
RejectsFrame limit step r None out old new = ⊥
RejectsFrame limit step r (Some result) out old new =
    RefusesFrame limit old.receiver.spare step r result new.receiver × HoldsBytes out (option_to_list result.reply)
    × (new ≡ record old { receiver = new.receiver })

-- the step that was given on is reported
abbrev pub ReportsAnswer : Option Step → List ℕ → LisAnswer → List ℕ → Type 0
ReportsAnswer None before out text = (out.is_step ≡ false) × NoStep out.step × (text ≡ before)
ReportsAnswer (Some step) before out text = (out.is_step ≡ true) × ReportsStep step before out.step text
