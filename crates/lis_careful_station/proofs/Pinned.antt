-- Each careful step of a station is one of a station as the profile has it, or two.
use Rattle.std.proofs.Common.{◌≡◌, ℕ, Bool, true, false, Option, None, ap, sym, ◌∙◌}
use Rattle.std.specs.Prelude.{◌==◌, ◌&&◌, ◌||◌}
use Rattle.lis_text.specs.Control.{EOT, ENQ}
use Rattle.lis_frame.specs.Stream.{open_body}
use Rattle.lis_link.specs.Receiver.{ReceiverStep, timer_by}
use Rattle.lis_careful.specs.Careful.{ends_session, heard_as, careful_by}
use Rattle.lis_careful.proofs.Receiving.{not_ended, open_then}
use Rattle.lis_station.specs.Station.{StationState, StationStep, awaits_reply, heard, routed, timed_by, line_closed}
use Rattle.lis_station.specs.Station.{on_station_byte, on_station_timer}
use Rattle.lis_station.specs.Line.{roomed}
use Rattle.lis_careful_station.specs.Station.{routed_carefully, on_station_byte_carefully}
use Rattle.lis_careful_station.specs.Laws.{IsAsPinned, reply_of}

pub as_reply : (limit b : ℕ) (s : StationState) → awaits_reply s.sender.phase ≡ true
    → on_station_byte limit b s ≡ on_station_byte_carefully limit b s
as_reply limit b s awaits =
    ap (λ a. routed limit a b s) awaits ∙ sym (ap (λ a. routed_carefully limit a b s) awaits)

-- while none is awaited the receiver hears
pub as_heard : (limit b : ℕ) (s : StationState) → awaits_reply s.sender.phase ≡ false
    → on_station_byte_carefully limit b s ≡ heard (careful_by (ends_session s.receiver b) limit b s.receiver) s
as_heard limit b s rests = ap (λ a. routed_carefully limit a b s) rests

pub as_ended : (limit b : ℕ) (s : StationState) → awaits_reply s.sender.phase ≡ false
    → ends_session s.receiver b ≡ true
    → on_station_byte_carefully limit b s ≡ heard (careful_by true limit b s.receiver) s
as_ended limit b s rests ends =
    as_heard limit b s rests ∙ ap (λ t. heard {limit = limit} (careful_by t limit b s.receiver) s) ends

pub closed_is : (limit b : ℕ) (s : StationState) → awaits_reply s.sender.phase ≡ false
    → ends_session s.receiver b ≡ true
    → (on_station_byte_carefully limit b s).after
    ≡ roomed s.receiver.room (line_closed (on_station_timer {limit = limit} s).after)
closed_is limit b s rests ends =
    let is_open : s.receiver.is_open ≡ true = open_then s.receiver.is_open (b == ENQ || b == EOT) ends in
    let room : Bool = s.receiver.room in
    ap (λ (step : StationStep limit). step.after) (as_ended limit b s rests ends)
    ∙ ap (λ t. roomed room (line_closed (heard {limit = limit} (timer_by t s.receiver) s).after)) (sym is_open)
    ∙ ap (λ t. roomed room (line_closed (timed_by {limit = limit} t s).after)) (sym is_open)

pub silent_is : (limit b : ℕ) (s : StationState) → awaits_reply s.sender.phase ≡ false
    → ends_session s.receiver b ≡ true → reply_of (on_station_byte_carefully limit b s).answer ≡ None
silent_is limit b s rests ends =
    ap (λ (step : StationStep limit). reply_of step.answer) (as_ended limit b s rests ends)

pub other_is : (limit b : ℕ) (s : StationState) → awaits_reply s.sender.phase ≡ false
    → ends_session s.receiver b ≡ false
    → on_station_byte_carefully limit b s ≡ on_station_byte limit (heard_as (open_body s.receiver.past) b) s
other_is limit b s rests goes =
    let c : ℕ = heard_as (open_body s.receiver.past) b in
    as_heard limit b s rests
    ∙ ap (λ (step : ReceiverStep). heard {limit = limit} step s) (sym (not_ended limit b s.receiver goes))
    ∙ sym (ap (λ a. routed limit a c s) rests)

pub is_as_pinned : IsAsPinned
is_as_pinned = record {
  reply = λ limit b s awaits. sym (as_reply limit b s awaits);
  closed = closed_is;
  silent = silent_is;
  other = other_is;
}
