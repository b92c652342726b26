use Rattle.lis_station.specs.Station.{StationState}
use Rattle.lis_station.specs.Representation.{IsStation}
use Rattle.uses.proofs.StationLaws.{IsRunSoFar}
use Rattle.uses.proofs.station.run_station.Given as goal

-- what was done so far goes on as the station that is kept does
abbrev pub invariant-loop-turn : goal.invariant-loop-turn
invariant-loop-turn g l = (s : StationState) → IsStation 240 l.fn.station s
    → IsRunSoFar s (g.H.Connection.event_log l.fn.host) (g.H.Connection.event_log l.host) l._turn l.station
