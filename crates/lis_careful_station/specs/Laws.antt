-- The statement of the law.
use Rattle.std.specs.Prelude.{◌≡◌, ℕ, true, false, Option, None}
use Rattle.lis_frame.specs.Stream.{open_body}
use Rattle.lis_careful.specs.Careful.{ends_session, heard_as}
use Rattle.lis_station.specs.Station.{StationState, StationAnswer, sends, hears, awaits_reply, on_station_byte}
use Rattle.lis_station.specs.Station.{on_station_timer, line_closed}
use Rattle.lis_station.specs.Line.{roomed}
use Rattle.lis_careful_station.specs.Station.{on_station_byte_carefully}

-- what goes out of a station to the other side's sender
abbrev pub reply_of : {limit : ℕ} → StationAnswer limit → Option ℕ
reply_of (sends step) = None
reply_of (hears step) = step.reply

-- while a reply is awaited each byte is what it is; else a byte that ends the session is the timer and then
-- `close_line`, with no reply and the room that there was, and any other is the byte that it is heard as
pub record IsAsPinned : Type 0 where
  pub reply : (limit b : ℕ) (s : StationState) → awaits_reply s.sender.phase ≡ true
      → on_station_byte_carefully limit b s ≡ on_station_byte limit b s
  pub closed : (limit b : ℕ) (s : StationState) → awaits_reply s.sender.phase ≡ false
      → ends_session s.receiver b ≡ true
      → (on_station_byte_carefully limit b s).after
      ≡ roomed s.receiver.room (line_closed (on_station_timer {limit = limit} s).after)
  pub silent : (limit b : ℕ) (s : StationState) → awaits_reply s.sender.phase ≡ false
      → ends_session s.receiver b ≡ true → reply_of (on_station_byte_carefully limit b s).answer ≡ None
  pub other : (limit b : ℕ) (s : StationState) → awaits_reply s.sender.phase ≡ false
      → ends_session s.receiver b ≡ false
      → on_station_byte_carefully limit b s ≡ on_station_byte limit (heard_as (open_body s.receiver.past) b) s
