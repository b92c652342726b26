-- A station that hears carefully what is for its receiver (LIS01-A2, 6.2 to 6.6).
use Rattle.std.specs.Prelude.{ℕ, Bool, true, false, List}
use Rattle.lis_careful.specs.Careful.{on_byte_carefully, on_bytes_carefully, noise_in}
use Rattle.lis_station.specs.Station.{StationState, StationStep, StationHearing, awaits_reply, heard, replied}
use Rattle.lis_station.specs.Station.{routed_bytes}

-- a byte, by whether a reply is awaited
abbrev pub routed_carefully : (limit : ℕ) → Bool → ℕ → StationState → StationStep limit
routed_carefully limit true b s = replied b s
routed_carefully limit false b s = heard (on_byte_carefully limit b s.receiver) s

abbrev pub on_station_byte_carefully : (limit : ℕ) → ℕ → StationState → StationStep limit
on_station_byte_carefully limit b s = routed_carefully limit (awaits_reply s.sender.phase) b s

-- one of the bytes while a reply is awaited, else as many as the receiver hears
abbrev pub routed_bytes_carefully : (limit : ℕ) → Bool → List ℕ → StationState → StationHearing limit
routed_bytes_carefully limit true bytes s = routed_bytes limit true bytes s
routed_bytes_carefully limit false bytes s = record {
  count = (on_bytes_carefully limit bytes s.receiver).count;
  step = heard (on_bytes_carefully limit bytes s.receiver).step s;
}

abbrev pub on_station_bytes_carefully : (limit : ℕ) → List ℕ → StationState → StationHearing limit
on_station_bytes_carefully limit bytes s = routed_bytes_carefully limit (awaits_reply s.sender.phase) bytes s

-- the noise among them: none while a reply is awaited
abbrev pub noise_routed : ℕ → Bool → List ℕ → StationState → ℕ
noise_routed limit true bytes s = 0
noise_routed limit false bytes s = noise_in limit bytes s.receiver

abbrev pub noise_at : ℕ → List ℕ → StationState → ℕ
noise_at limit bytes s = noise_routed limit (awaits_reply s.sender.phase) bytes s
