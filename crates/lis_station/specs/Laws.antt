-- The statements of the laws of a station.
use Rattle.std.specs.Prelude.{◌≡◌, ℕ, Bool, true, false, List, None}
use Rattle.lis_station.specs.declared.station.Role.{Role}
use Rattle.lis_station.specs.Station.{StationState, new_station, awaits_reply, on_station_byte, on_station_bytes}
use Rattle.lis_station.specs.Station.{on_station_timer, station_fault, station_started, session_given_up, line_closed}
use Rattle.lis_station.specs.Station.{station_restarted, readied, turn_asked_for}

-- no reply is awaited while the receiver's line is open
abbrev pub IsExclusive : StationState → Type 0
IsExclusive s = s.receiver.is_open ≡ true → awaits_reply s.sender.phase ≡ false

-- so it is at first, and after each step
pub record StaysExclusive : Type 0 where
  pub at_first : (role : Role) → IsExclusive (new_station role)
  pub byte : (limit b : ℕ) (s : StationState) → IsExclusive s → IsExclusive (on_station_byte limit b s).after
  pub bytes : (limit : ℕ) (bytes : List ℕ) (s : StationState) → IsExclusive s
      → IsExclusive (on_station_bytes limit bytes s).step.after
  pub timer : (limit : ℕ) (s : StationState) → IsExclusive s → IsExclusive (on_station_timer {limit = limit} s).after
  pub start : (limit : ℕ) (s : StationState) (texts : List (List ℕ)) → station_fault s texts ≡ None
      → IsExclusive (station_started limit texts s)
  pub given_up : (s : StationState) → IsExclusive s → IsExclusive (session_given_up s)
  pub closed : (s : StationState) → IsExclusive (line_closed s)
  pub restarted : (s : StationState) → IsExclusive (station_restarted s)
  pub readiness : (ready : Bool) (s : StationState) → IsExclusive s → IsExclusive (readied ready s)
  pub asked_for : (s : StationState) → IsExclusive s → IsExclusive (turn_asked_for s)
