-- What a station of the program represents.
use Rattle.std.specs.Prelude.{◌≡◌, ℕ, Bool}
use Rattle.lis_link.specs.Kept.{Kept}
use Rattle.lis_link.specs.Sender.{SenderState}
use Rattle.lis_link.specs.Receiver.{ReceiverState, ReceiverStep}
use Rattle.lis_link.specs.Representation.{IsIn, IsStepMade, RefusesFrame, KeepsRoom, room_of}
use Rattle.lis_link.specs.declared.receiver.Note.TheVariants.{OutOfMemory}
use Rattle.lis_station.specs.declared.station.Role.{Role}
use Rattle.lis_station.specs.declared.station.Turn.{Turn}
use Rattle.lis_station.specs.declared.station.AnswerOf.{AnswerOf}
use Rattle.lis_station.specs.declared.station.AnswerOf.TheVariants.{Emits, Hears}
use Rattle.lis_station.specs.Station.{StationState, StationAnswer, StationStep, sends, hears}

-- what the program keeps
pub record KeptStation : Type 0 where
  pub role : Role
  pub sender : SenderState
  pub receiver : Kept
  pub turn : Turn
  pub asks_turn : Bool

-- with a state that the receiver is in
abbrev pub station_at : KeptStation → ReceiverState → StationState
station_at kept r = record {
  role = kept.role;
  sender = kept.sender;
  receiver = r;
  turn = kept.turn;
  asks_turn = kept.asks_turn;
}

-- it is in this state
pub record IsStation (limit : ℕ) (kept : KeptStation) (s : StationState) : Type 0 where
  pub receiver_is : IsIn limit kept.receiver s.receiver
  pub station_is : station_at kept s.receiver ≡ s

-- memory ran out for a frame's text
abbrev pub IsOutOfMemory : {limit : ℕ} → AnswerOf limit → Type 0
IsOutOfMemory (Emits emit) = ⊥
IsOutOfMemory (Hears step) = step.note ≡ OutOfMemory

-- the program's answer is that of the end
abbrev pub AnswersAs : (limit : ℕ) → StationAnswer limit → AnswerOf limit → Kept → Kept → Type 0
AnswersAs limit (sends step) (Emits emit) old new = (emit ≡ step.emit) × (new ≡ old)
AnswersAs limit (sends step) (Hears result) old new = ⊥
AnswersAs limit (hears step) (Emits emit) old new = ⊥
AnswersAs limit (hears step) (Hears result) old new = IsStepMade limit step result new

-- the step was made
pub record IsAnswer (limit : ℕ) (old : KeptStation) (step : StationStep limit) (result : AnswerOf limit)
    (new : KeptStation) : Type 0 where
  pub answers : AnswersAs limit step.answer result old.receiver new.receiver
  pub station_is : station_at new step.after.receiver ≡ step.after

-- or the receiver rejects a frame because memory ran out, after which it is in this state
abbrev pub IsRefused :
    (limit : ℕ) → KeptStation → ReceiverStep → ReceiverState → AnswerOf limit → KeptStation → Type 0
IsRefused limit old step r (Emits emit) new = ⊥
IsRefused limit old step r (Hears result) new =
    RefusesFrame limit old.receiver.spare step r result new.receiver × (new ≡ record old { receiver = new.receiver })

-- the room for held text after an answer
abbrev pub KeepsStationRoom : {limit : ℕ} → AnswerOf limit → Kept → Kept → Type 0
KeepsStationRoom (Emits emit) old new = new ≡ old
KeepsStationRoom (Hears step) old new = KeepsRoom step.note step.message (room_of old) (room_of new)
