-- What C gets of a station's answer, and what is in a station's block.
use Rattle.std.specs.Prelude.{◌≡◌, ℕ, ◌≤◌, ◌<◌, ◌⊎◌, Bool, true, false, List, [], ◌∷◌, length, Option, None, Some}
use Rattle.std.specs.Prelude.{if◌then◌else◌, nat_lt}
use Rattle.std.specs.Option.{option_to_list}
use Rattle.lis_text.specs.Control.{NAK}
use Rattle.lis_text.specs.LinkText.{longest_text, most_texts}
use Rattle.lis_frame.specs.Frame.{FrameContent}
use Rattle.lis_link.specs.declared.receiver.Note.TheVariants.{Quiet}
use Rattle.lis_link.specs.Duties.{emitted_bytes}
use Rattle.lis_link.specs.Receiver.{ReceiverState, ReceiverStep}
use Rattle.lis_link.specs.Representation.{IsIn}
use Rattle.lis_link.specs.Sender.{started}
use Rattle.lis_station.specs.declared.station.Role.{Role}
use Rattle.lis_station.specs.declared.station.Role.TheVariants.{Analyzer, Computer}
use Rattle.lis_station.specs.declared.station.StationFault.{StationFault}
use Rattle.lis_station.specs.declared.station.StationFault.TheVariants.{LineOpen, Start}
use Rattle.lis_station.specs.declared.station.Turn.TheVariants.{Free}
use Rattle.lis_station.specs.Representation.{KeptStation, IsStation, station_at}
use Rattle.lis_station.specs.Station.{StationAnswer, StationState, StationStep, new_station, sends, hears}
use Rattle.lis_c.specs.Codes.{note_code, note_detail, note_place, reply_code}
use Rattle.lis_c.specs.Emitted.{HoldsBytes, HoldsEmitted}
use Rattle.lis_c.specs.Limits.{LimitStatus}
use Rattle.lis_c.specs.Status.{BAD_NUMBER, FULL, OK, start_index, start_place, start_status}
use Rattle.lis_c.specs.Steps.{HoldsText}
use Rattle.lis_c.specs.declared.borrowed.LisText.{LisText}
use Rattle.lis_c.specs.declared.out.LisAnswer.{LisAnswer}
use Rattle.lis_c.specs.declared.out.LisStep.{LisStep}
use Rattle.lis_c.specs.declared.station_state.StationHandleState.{StationHandleState}
use Rattle.lis_c.specs.declared.stationing.AnyStation.{AnyStation}
use Rattle.lis_c.specs.declared.stationing.AnyStation.TheVariants as stations

-- the other side has the line
abbrev pub LINE_OPEN : ℕ
LINE_OPEN = 18

abbrev pub role_code : Role → ℕ
role_code Analyzer = 0
role_code Computer = 1

-- ---- what is in a block

-- the limit of a station, what it keeps, and its spare room
abbrev pub station_limit : AnyStation → ℕ
station_limit (stations.Usual kept) = 240
station_limit (stations.Long long) = 63993

abbrev pub station_kept : AnyStation → KeptStation
station_kept (stations.Usual kept) = kept
station_kept (stations.Long long) = long.value

abbrev pub station_spare : AnyStation → ℕ
station_spare station = (station_kept station).receiver.spare

-- its receiver is in this state; the station's state with it
abbrev pub Hears : AnyStation → ReceiverState → Type 0
Hears station r = IsIn (station_limit station) (station_kept station).receiver r

abbrev pub state_of : AnyStation → ReceiverState → StationState
state_of station r = station_at (station_kept station) r

-- it is in this state
abbrev pub IsNow : AnyStation → StationState → Type 0
IsNow station s = IsStation (station_limit station) (station_kept station) s

-- a new station of a role and a limit, which has reserved nothing
pub record NewStation (role : Role) (limit : ℕ) (station : AnyStation) : Type 0 where
  pub limit_is : station_limit station ≡ limit
  pub state_is : IsNow station (new_station role)
  pub spare_is : station_spare station ≡ 0

-- after a text there is the room that was reserved, unless memory ran out for it
abbrev pub HasReserved : Bool → StationHandleState → Type 0
HasReserved has_text new = has_text ≡ true → new.lacks_room ≡ false → new.reserved ≤ longest_text →
    new.reserved ≤ station_spare new.station

-- it was made anew: the role is one of the two, the limit too, and memory may run out for the long one
abbrev pub BeginStatus : (status role limit : ℕ) → Type 0
BeginStatus status role limit = ((status ≡ BAD_NUMBER) × (2 ≤ role)) ⊎ ((role < 2) × LimitStatus status limit)

-- ---- a session is started

-- a session can be started, or why it can't, and which text and which byte of it is at fault
abbrev pub station_start_status : Option StationFault → ℕ
station_start_status None = OK
station_start_status (Some LineOpen) = LINE_OPEN
station_start_status (Some (Start fault)) = start_status (Some fault)

-- the same with the texts of an array: that there are too many is reported first
abbrev pub station_borrowed_status : List LisText → Option StationFault → ℕ
station_borrowed_status texts fault =
    if nat_lt most_texts (length texts) then FULL else station_start_status fault

abbrev pub station_start_index : Option StationFault → ℕ
station_start_index None = 0
station_start_index (Some LineOpen) = 0
station_start_index (Some (Start fault)) = start_index (Some fault)

abbrev pub station_start_place : Option StationFault → ℕ
station_start_place None = 0
station_start_place (Some LineOpen) = 0
station_start_place (Some (Start fault)) = start_place (Some fault)

-- the sender is in a session of these texts, and nobody waits for a turn
pub record StartsSession (texts : List (List ℕ)) (old new : AnyStation) : Type 0 where
  pub limit_is : station_limit new ≡ station_limit old
  pub station_is : station_kept new ≡ record (station_kept old) {
    sender = started (station_limit old) texts;
    turn = Free;
  }

-- ---- an answer

-- the receiver's step, in numbers
pub record StepReported (step : ReceiverStep) (before : List ℕ) (out : LisStep) (text : List ℕ) : Type 0 where
  pub reply_is : out.reply ≡ reply_code step.reply
  pub note_is : out.note ≡ note_code step.note
  pub detail_is : out.detail ≡ note_detail step.note
  pub place_is : out.place ≡ note_place step.note
  pub text_is : HoldsText step.message out.has_text before text

-- there is no step
pub record NoStep (out : LisStep) : Type 0 where
  pub reply_is : out.reply ≡ 0
  pub note_is : out.note ≡ note_code Quiet
  pub detail_is : out.detail ≡ 0
  pub place_is : out.place ≡ 0
  pub text_is : out.has_text ≡ false

-- it was for the sender, and what it emits goes on the link; or for the receiver, and its reply does
abbrev pub AnswerReported :
    (limit : ℕ) → StationAnswer limit → StationHandleState → LisAnswer → StationHandleState → Type 0
AnswerReported limit (sends step) old out new =
    (out.is_step ≡ false) × HoldsEmitted limit out.send (emitted_bytes step.emit) × NoStep out.step
    × (new.text ≡ old.text) × ((station_kept new.station).receiver ≡ (station_kept old.station).receiver)
AnswerReported limit (hears step) old out new =
    (out.is_step ≡ true) × HoldsBytes out.send (option_to_list step.reply)
    × StepReported step old.text out.step new.text
    × IsIn limit (station_kept new.station).receiver step.after

-- the step was made and reported
pub record MakesAnswer {limit : ℕ} (step : StationStep limit) (old : StationHandleState) (out : LisAnswer)
    (new : StationHandleState) : Type 0 where
  pub reported : AnswerReported limit step.answer old out new
  pub station_is : station_at (station_kept new.station) step.after.receiver ≡ step.after

-- memory ran out for a frame that would be accepted and is longer than the spare room: NAK, and nothing else; what
-- was reserved stays
pub record RejectsForMemory (step : ReceiverStep) (r : ReceiverState) (old : StationHandleState) (out : LisAnswer)
    (new : StationHandleState) : Type 0 where
  pub frame : FrameContent
  pub would_accept : step.taken ≡ Some frame
  pub too_long : station_spare old.station < length frame.text
  pub is_step : out.is_step ≡ true
  pub sends_is : HoldsBytes out.send (NAK ∷ [])
  pub reply_is : out.step.reply ≡ NAK
  pub detail_is : out.step.detail ≡ 0
  pub place_is : out.step.place ≡ 0
  pub text_is : HoldsText None out.step.has_text old.text new.text
  pub spare_kept : station_spare old.station ≤ station_spare new.station
  pub state : Hears new.station r
  pub station_is : station_kept new.station
      ≡ record (station_kept old.station) { receiver = (station_kept new.station).receiver }

-- ---- seconds

-- the seconds of a timer, if one runs
abbrev pub SecondsReported : Option ℕ → Bool → ℕ → Type 0
SecondsReported None runs seconds = (runs ≡ false) × (seconds ≡ 0)
SecondsReported (Some n) runs seconds = (runs ≡ true) × (seconds ≡ n)

-- 0 for none
abbrev pub seconds_code : Option ℕ → ℕ
seconds_code None = 0
seconds_code (Some n) = n
