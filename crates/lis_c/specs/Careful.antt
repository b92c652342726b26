-- What a handle hears that hears carefully, and one that doesn't.
use Rattle.std.specs.Prelude.{◌≡◌, ℕ, ◌+◌, ◌-◌, ◌^◌, Bool, true, false, List, [], ◌∷◌, Option, min}
use Rattle.lis_frame.specs.Stream.{open_body}
use Rattle.lis_link.specs.Receiver.{ReceiverState, ReceiverStep, ReceiverHearing, on_byte, on_bytes, with_heard}
use Rattle.lis_careful.specs.Careful.{ends_session, session_ended, heard_as, heard_only, is_noise, noise_of, noise_by}
use Rattle.lis_careful.specs.Careful.{on_byte_carefully, on_bytes_by, on_bytes_carefully}
use Rattle.lis_station.specs.Station.{StationState, StationStep, StationHearing, awaits_reply, on_station_byte}
use Rattle.lis_station.specs.Station.{on_station_bytes}
use Rattle.lis_careful_station.specs.Station.{noise_at, on_station_byte_carefully, on_station_bytes_carefully}
use Rattle.lis_c.specs.Within.{on_byte_within, on_bytes_within}

-- ---- a receiver

-- a byte, with a limit on a text or without one
abbrev pub careful_within : Bool → (limit : ℕ) → Option ℕ → ℕ → ReceiverState → ReceiverStep
careful_within true limit most b r = session_ended r
careful_within false limit most b r = on_byte_within limit most (heard_as (open_body r.past) b) r

-- by whether the receiver hears carefully
abbrev pub on_byte_set : Bool → (limit : ℕ) → Option ℕ → ℕ → ReceiverState → ReceiverStep
on_byte_set false limit most b r = on_byte_within limit most b r
on_byte_set true limit most b r = careful_within (ends_session r b) limit most b r

abbrev pub on_bytes_set : Bool → (limit : ℕ) → Option ℕ → List ℕ → ReceiverState → ReceiverHearing
on_bytes_set false limit most bytes r = on_bytes_within limit most bytes r
on_bytes_set true limit most bytes r = on_bytes_by (on_byte_set true limit most) bytes r

-- the state in which bytes were heard, the last of them with a step that was not made
abbrev pub heard_set : Bool → ReceiverStep → List ℕ → ReceiverState → ReceiverState
heard_set false step bytes r = with_heard bytes r
heard_set true step bytes r = heard_only step r

-- the noise of a byte, and of bytes: none unless the receiver hears carefully
abbrev pub noise_set : Bool → ReceiverState → ℕ → ℕ
noise_set false r b = 0
noise_set true r b = noise_of (is_noise r b)

abbrev pub noises_set : Bool → (limit : ℕ) → Option ℕ → List ℕ → ReceiverState → ℕ
noises_set false limit most bytes r = 0
noises_set true limit most bytes r = noise_by (on_byte_set true limit most) bytes r

-- so much noise was heard before, and so much more now; a count has an end
abbrev pub counted : ℕ → ℕ → ℕ
counted noise more = min (noise + more) (2 ^ 64 - 1)

-- ---- a station

abbrev pub on_station_byte_set : (limit : ℕ) → Bool → ℕ → StationState → StationStep limit
on_station_byte_set limit false b s = on_station_byte limit b s
on_station_byte_set limit true b s = on_station_byte_carefully limit b s

abbrev pub on_station_bytes_set : (limit : ℕ) → Bool → List ℕ → StationState → StationHearing limit
on_station_bytes_set limit false bytes s = on_station_bytes limit bytes s
on_station_bytes_set limit true bytes s = on_station_bytes_carefully limit bytes s

-- what its receiver hears
abbrev pub on_own_byte : Bool → (limit : ℕ) → ℕ → ReceiverState → ReceiverStep
on_own_byte false limit b r = on_byte limit b r
on_own_byte true limit b r = on_byte_carefully limit b r

abbrev pub on_own_bytes : Bool → (limit : ℕ) → List ℕ → ReceiverState → ReceiverHearing
on_own_bytes false limit bytes r = on_bytes limit bytes r
on_own_bytes true limit bytes r = on_bytes_carefully limit bytes r

-- the noise: none while a reply is awaited
abbrev pub station_noise : Bool → Bool → ReceiverState → ℕ → ℕ
station_noise careful true r b = 0
station_noise careful false r b = noise_set careful r b

abbrev pub station_noise_set : Bool → ℕ → StationState → ℕ
station_noise_set careful b s = station_noise careful (awaits_reply s.sender.phase) s.receiver b

abbrev pub station_noises_set : (limit : ℕ) → Bool → List ℕ → StationState → ℕ
station_noises_set limit false bytes s = 0
station_noises_set limit true bytes s = noise_at limit bytes s
