-- What the calls within a station's loop answer and do.
use Rattle.std.specs.Prelude.{List, Option}
use Rattle.lis_link.specs.declared.receiver.Step.{Step}
use Rattle.lis_station.specs.declared.station.AnswerOf.{AnswerOf}
use Rattle.lis_station.specs.Station.{StationState}
use Rattle.lis_station.specs.Representation.{KeptStation, IsStation}
use Rattle.uses.specs.declared.connection.Event.{Event}
use Rattle.uses.specs.declared.station.Ran.{Ran}
use Rattle.uses.specs.Connection.{LogEvent, GoesOn}
use Rattle.uses.specs.Station.{IsStationAnswer, IsTurn, IsHeard}

-- an answer was given, and the station is in the state after it
pub record AnswersStation (event : Event) (s : StationState) (answer : AnswerOf 240) (new : KeptStation) : Type 0 where
  pub after : StationState
  pub answer_is : IsStationAnswer event s answer after
  pub state : IsStation 240 new after

-- one event was answered
pub record WasTurn (event : Event) (s : StationState) (past now : Option (List LogEvent)) (ran : Option Ran)
    (new : KeptStation) : Type 0 where
  pub event_log : List LogEvent
  pub done : GoesOn past now event_log
  pub last : StationState
  pub turn : IsTurn event s event_log ran last
  pub state : IsStation 240 new last

-- a step of the receiver was taken
pub record WasHeard (s : StationState) (step : Step) (past now : Option (List LogEvent)) (ran : Option Ran)
    (new : KeptStation) : Type 0 where
  pub event_log : List LogEvent
  pub done : GoesOn past now event_log
  pub last : StationState
  pub heard_is : IsHeard s step event_log ran last
  pub state : IsStation 240 new last
