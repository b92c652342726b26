-- A station never awaits a reply while its receiver is open.
use Rattle.std.proofs.Common.{◌≡◌, ℕ, Bool, true, false, List, [], ◌∷◌, None, refl}
use Rattle.lis_link.specs.declared.sender.Phase.{Phase}
use Rattle.lis_link.specs.declared.sender.Phase.TheVariants.{Neutral, AwaitLine, Busy, Contention, AwaitReply}
use Rattle.lis_link.specs.Sender.{restart_in}
use Rattle.lis_station.specs.Station.{StationState, awaits_reply, routed, routed_bytes, timed_by, station_fault_by}
use Rattle.lis_station.specs.Station.{station_started}
use Rattle.lis_station.specs.Laws.{IsExclusive, StaysExclusive}

byte_exclusive :
    (limit b : ℕ) (s : StationState) (awaits : Bool)
    → awaits_reply s.sender.phase ≡ awaits
    → IsExclusive s
    → IsExclusive (routed limit awaits b s).after
byte_exclusive limit b s true is h = λ e.
    let none = h e in
    absurd (cc)
byte_exclusive limit b s false is h = λ e. is

bytes_exclusive :
    (limit : ℕ) (bytes : List ℕ) (s : StationState) (awaits : Bool)
    → awaits_reply s.sender.phase ≡ awaits
    → IsExclusive s
    → IsExclusive (routed_bytes limit awaits bytes s).step.after
bytes_exclusive limit [] s true is h = h
bytes_exclusive limit (b ∷ bytes) s true is h = byte_exclusive limit b s true is h
bytes_exclusive limit bytes s false is h = λ e. is

timer_exclusive :
    (limit : ℕ) (s : StationState) (is_open : Bool)
    → s.receiver.is_open ≡ is_open
    → IsExclusive (timed_by {limit = limit} is_open s).after
timer_exclusive limit s true is = λ e. absurd (cc)
timer_exclusive limit s false is = λ e. absurd (cc)

start_exclusive :
    (limit : ℕ) (s : StationState) (texts : List (List ℕ)) (is_open : Bool)
    → s.receiver.is_open ≡ is_open
    → station_fault_by is_open s texts ≡ None
    → IsExclusive (station_started limit texts s)
start_exclusive limit s texts true is none = absurd (cc)
start_exclusive limit s texts false is none = λ e. absurd (cc)

restart_exclusive :
    (s : StationState) (phase : Phase)
    → s.sender.phase ≡ phase
    → IsExclusive s
    → IsExclusive (record s { sender = restart_in phase s.sender })
restart_exclusive s Neutral is h = h
restart_exclusive s AwaitLine is h = λ e. refl
restart_exclusive s Busy is h = λ e. refl
restart_exclusive s Contention is h = λ e. refl
restart_exclusive s AwaitReply is h = λ e. refl

pub stays_exclusive : StaysExclusive
stays_exclusive = record {
  at_first = λ role e. refl;
  byte = λ limit b s h. byte_exclusive limit b s (awaits_reply s.sender.phase) refl h;
  bytes = λ limit bytes s h. bytes_exclusive limit bytes s (awaits_reply s.sender.phase) refl h;
  timer = λ limit s h. timer_exclusive limit s s.receiver.is_open refl;
  start = λ limit s texts none. start_exclusive limit s texts s.receiver.is_open refl none;
  given_up = λ s h. restart_exclusive s s.sender.phase refl h;
  closed = λ s e. absurd (cc);
  restarted = λ s e. absurd (cc);
  readiness = λ ready s h. h;
  asked_for = λ s h. h;
}
