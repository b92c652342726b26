-- What reaches a careful station is one of these for a station as the profile has it: the same, nothing, damage, or
-- its timer and `close_line` before what comes is lost or comes damaged.
use Rattle.std.proofs.Common.{◌≡◌, ℕ, ◌⊎◌, inl, inr, Bool, true, false, List, [], ◌∷◌, ◌++◌, Option, None, Some, refl}
use Rattle.std.proofs.Common.{ap, sym, ◌∙◌, subst}
use Rattle.std.specs.Prelude.{◌==◌, ◌&&◌, ◌||◌, not, if◌then◌else◌}
use Rattle.std.specs.List.{fold}
use Rattle.std.specs.Option.{option_map}
use Rattle.std.proofs.lemmas.Bool.{and_parts, eqb-true}
use Rattle.lis_text.specs.Control.{STX, ENQ, EOT, ACK, LF}
use Rattle.lis_frame.specs.declared.scanner.SignalOf.{SignalOf}
use Rattle.lis_frame.specs.declared.scanner.SignalOf.TheVariants.{Bad}
use Rattle.lis_frame.specs.Frame.{FrameContent, IsContent, frame_bytes}
use Rattle.lis_frame.specs.Stream.{open_body, signal_after, signals_after, with_signal}
use Rattle.lis_frame.proofs.FrameLaws.{IsFrame-frame_bytes}
use Rattle.lis_link.specs.Receiver.{ReceiverState, timer_by, with_room}
use Rattle.lis_world.specs.Unit.{enquiry, ending, one_frame, Load, Travelling}
use Rattle.lis_world.specs.Steps.{is_noticed}
use Rattle.lis_careful.specs.Careful.{DLE, ends_session, heard_as}
use Rattle.lis_careful.specs.World.{gives, careful_signal_by, careful_signals, with_heard_first}
use Rattle.lis_careful.specs.World.{is_noticed_carefully}
use Rattle.lis_careful.proofs.Receiving.{itself, none_ends, open_then}
use Rattle.lis_careful.proofs.Heard.{no_end, given_of}
use Rattle.lis_careful.proofs.Frames.{inner_of, encoding_of, unspecial_after_start, frame_within}
use Rattle.lis_careful.proofs.Histories.{Noticed, nothing, ending_in, one_bad, noticed_cases}
use Rattle.lis_station.specs.Laws.{IsExclusive}
use Rattle.lis_station.specs.Station.{awaits_reply, heard, line_closed, on_station_byte}
use Rattle.lis_station.specs.Line.{Item, sent, answered, TwoWay, with_station, steps, comes, item_bytes, left_line}
use Rattle.lis_station.specs.Line.{roomed, room_near, timed, is_single, is_noise_to_sender, is_noise, has_byte}
use Rattle.lis_station.specs.Line.{damaged_in}
use Rattle.lis_station.specs.Line.{StationEvent, arrive, arrive_without_room, damage, lose, timer, close_line, happens}
use Rattle.lis_station.proofs.Both.{IsLoad}
use Rattle.lis_station.proofs.Events.{shut_if_awaits, sender_noise}
use Rattle.lis_careful_station.specs.Station.{on_station_byte_carefully}
use Rattle.lis_careful_station.proofs.Pinned.{as_reply, other_is}
use Rattle.lis_careful_line.specs.Line.{comes_carefully, arrives_carefully, is_noise_carefully, damaged_in_carefully}
use Rattle.lis_careful_line.proofs.Steps.{unspecial_comes, plainly, closed_here, closed_line, end_step, ended, OnlyBad}
use Rattle.lis_careful_line.proofs.Steps.{room_comes, awaited_shut, shut_comes}

pub data Instead : Type 0 where
  not_at_all : Instead
  as_it_is : Instead
  bad : List ℕ → Instead
  lost_anew : Instead
  bad_anew : List ℕ → Instead

abbrev pub events_of : StationEvent → Instead → List StationEvent
events_of event not_at_all = []
events_of event as_it_is = event ∷ []
events_of event (bad bytes) = damage bytes ∷ []
events_of event lost_anew = timer ∷ close_line ∷ lose ∷ []
events_of event (bad_anew bytes) = timer ∷ close_line ∷ damage bytes ∷ []

-- the timer is the receiver's
abbrev pub OpensFor : Instead → TwoWay → Type 0
OpensFor lost_anew t = t.near.station.receiver.is_open ≡ true
OpensFor (bad_anew bytes) t = t.near.station.receiver.is_open ≡ true
OpensFor instead t = Unit {0}

abbrev pub from : ℕ → List StationEvent → TwoWay → TwoWay
from limit events t = fold (λ t event. happens limit event t) t events

pub record Becomes (limit : ℕ) (event : StationEvent) (after t : TwoWay) : Type 0 where
  pub instead : Instead
  pub opens : OpensFor instead t
  pub same : from limit (events_of event instead) t ≡ after

-- ---- what comes in the place of the front item

pub data Comes (limit : ℕ) (front : Item) (t : TwoWay) : Type 0 where
  as_ever : comes_carefully limit front (item_bytes front) t ≡ comes limit front (item_bytes front) t
      → Comes limit front t
  closes : t.near.station.receiver.is_open ≡ true
      → comes_carefully limit front (item_bytes front) t ≡ closed_line t → Comes limit front t
  comes_bad : (bytes : List ℕ) → awaits_reply t.near.station.sender.phase ≡ false
      → comes_carefully limit front (item_bytes front) t ≡ comes limit front bytes t
      → is_noise limit false front bytes t.near.station.receiver ≡ true
      → OnlyBad (signals_after limit t.near.station.receiver.past bytes) → Comes limit front t

-- one byte that is no STX, while no reply is awaited
abbrev AsOne : (limit b : ℕ) (item : Item) (t : TwoWay) → Type 0
AsOne limit b item t =
    (comes_carefully limit item (b ∷ []) t ≡ comes limit item (b ∷ []) t)
    ⊎ ((t.near.station.receiver.is_open ≡ true) × (comes_carefully limit item (b ∷ []) t ≡ closed_line t))

one_byte : (limit b : ℕ) (item : Item) (t : TwoWay) → awaits_reply t.near.station.sender.phase ≡ false
    → (b == STX) ≡ false
    → AsOne limit b item t
one_byte limit b item t rests other = by (ends_session t.near.station.receiver b) refl
  where
    by : (test : Bool) → ends_session t.near.station.receiver b ≡ test → AsOne limit b item t
    by true is =
        inr (open_then t.near.station.receiver.is_open (b == ENQ || b == EOT) is, end_step limit b item t rests is)
    by false is =
        inl (ap (λ step. steps item step t) (other_is limit b t.near.station rests is)
        ∙ ap (λ c. steps item (on_station_byte limit c t.near.station) t)
        (itself (open_body t.near.station.receiver.past) b other))

as_one : (limit : ℕ) (front : Item) (b : ℕ) (t : TwoWay) → item_bytes front ≡ b ∷ [] → AsOne limit b front t
    → Comes limit front t
as_one limit front b t is (inl same) =
    as_ever (subst (λ xs. comes_carefully limit front xs t ≡ comes limit front xs t) (sym is) same)
as_one limit front b t is (inr both) =
    closes both.0 (subst (λ xs. comes_carefully limit front xs t ≡ closed_line t) (sym is) both.1)

-- a byte as a reply
awaited_byte : (limit b : ℕ) (item : Item) (t : TwoWay) → awaits_reply t.near.station.sender.phase ≡ true
    → steps item (on_station_byte_carefully limit b t.near.station) t
    ≡ steps item (on_station_byte limit b t.near.station) t
awaited_byte limit b item t awaits = ap (λ step. steps item step t) (sym (as_reply limit b t.near.station awaits))

-- a frame whose first byte is heard as itself
frame_as_ever :
    (limit : ℕ) (item : Item) (frame : FrameContent) (t : TwoWay) → IsContent limit frame
    → steps item (on_station_byte_carefully limit STX t.near.station) t
    ≡ steps item (on_station_byte limit STX t.near.station) t
    → comes_carefully limit item (frame_bytes frame) t ≡ comes limit item (frame_bytes frame) t
frame_as_ever limit item frame t content first =
    let is_frame = IsFrame-frame_bytes limit frame content in
    let rest : List ℕ = inner_of frame is_frame.high is_frame.low ++ LF ∷ [] in
    let bytes_are : frame_bytes frame ≡ STX ∷ rest = encoding_of limit (frame_bytes frame) frame is_frame in
    ap (λ xs. comes_carefully limit item xs t) bytes_are
    ∙ ap (comes_carefully limit item rest) first
    ∙ unspecial_comes limit item rest (steps item (on_station_byte limit STX t.near.station) t)
    (unspecial_after_start limit (frame_bytes frame) frame is_frame)
    ∙ ap (λ xs. comes limit item xs t) (sym bytes_are)

module _ (limit : ℕ) (t : TwoWay) where
  frame_comes : (session : ℕ) (frame : FrameContent) → IsContent limit frame
      → awaits_reply t.near.station.sender.phase ≡ false
      → Comes limit (sent (record { session = session; load = one_frame frame })) t
  frame_comes session frame content rests = by (open_body t.near.station.receiver.past) refl
    where
      item : Item
      item = sent (record { session = session; load = one_frame frame })

      by : (within : Option (List ℕ)) → open_body t.near.station.receiver.past ≡ within → Comes limit item t
      by None e =
          as_ever (frame_as_ever limit item frame t content
          (ap (λ step. steps item step t) (other_is limit STX t.near.station rests
          (none_ends t.near.station.receiver.is_open)
          ∙ ap (λ o. on_station_byte limit (heard_as o STX) t.near.station) e)))
      by (Some body) e =
          let within = frame_within limit (frame_bytes frame) body frame t.near.station.receiver
          (IsFrame-frame_bytes limit frame content) e in
          let plain = plainly limit item (frame_bytes frame) t rests (ap no_end within.1) in
          let signals : signals_after limit t.near.station.receiver.past plain.bytes ≡ Bad within.0 ∷ [] =
          plain.signals_are ∙ ap given_of within.1 in
          comes_bad plain.bytes rests plain.same (ap (is_noticed (one_frame frame)) signals)
          (subst (λ (xs : List (SignalOf limit)). OnlyBad xs) (sym signals) tt)

  load_comes : (session : ℕ) (load : Load) → IsLoad limit load → (awaits : Bool)
      → awaits_reply t.near.station.sender.phase ≡ awaits
      → Comes limit (sent (record { session = session; load = load })) t
  load_comes session enquiry is true awaits =
      as_ever (awaited_byte limit ENQ (sent (record { session = session; load = enquiry })) t awaits)
  load_comes session ending is true awaits =
      as_ever (awaited_byte limit EOT (sent (record { session = session; load = ending })) t awaits)
  load_comes session (one_frame frame) is true awaits =
      let item : Item = sent (record { session = session; load = one_frame frame }) in
      as_ever (frame_as_ever limit item frame t is (awaited_byte limit STX item t awaits))
  load_comes session enquiry is false rests =
      let item : Item = sent (record { session = session; load = enquiry }) in
      as_one limit item ENQ t refl (one_byte limit ENQ item t rests refl)
  load_comes session ending is false rests =
      let item : Item = sent (record { session = session; load = ending }) in
      as_one limit item EOT t refl (one_byte limit EOT item t rests refl)
  load_comes session (one_frame frame) is false rests = frame_comes session frame is rests

  -- a reply
  dle_silent : (past : List ℕ) → signals_after limit past (DLE ∷ []) ≡ []
  unfolding signal_after
  dle_silent past = refl

  start_comes : awaits_reply t.near.station.sender.phase ≡ false → Comes limit (answered STX) t
  start_comes rests = by (open_body t.near.station.receiver.past) refl
    where
      first : on_station_byte_carefully limit STX t.near.station
          ≡ on_station_byte limit (heard_as (open_body t.near.station.receiver.past) STX) t.near.station
      first = other_is limit STX t.near.station rests (none_ends t.near.station.receiver.is_open)

      by : (within : Option (List ℕ)) → open_body t.near.station.receiver.past ≡ within
          → Comes limit (answered STX) t
      by None e =
          as_ever (ap (λ step. steps (answered STX) step t)
          (first ∙ ap (λ o. on_station_byte limit (heard_as o STX) t.near.station) e))
      by (Some body) e =
          let silent = dle_silent t.near.station.receiver.past in
          comes_bad (DLE ∷ []) rests
          (ap (λ step. steps (answered STX) step t)
          (first ∙ ap (λ o. on_station_byte limit (heard_as o STX) t.near.station) e))
          (ap (λ (xs : List (SignalOf limit)). is_noticed enquiry xs && true) silent)
          (subst (λ (xs : List (SignalOf limit)). OnlyBad xs) (sym silent) tt)

  reply_comes : (b : ℕ) (awaits : Bool) → awaits_reply t.near.station.sender.phase ≡ awaits
      → Comes limit (answered b) t
  reply_comes b true awaits = as_ever (awaited_byte limit b (answered b) t awaits)
  reply_comes b false rests = by (b == STX) refl
    where
      by : (start : Bool) → (b == STX) ≡ start → Comes limit (answered b) t
      by true is = subst (λ c. Comes limit (answered c) t) (sym (eqb-true b STX is)) (start_comes rests)
      by false is = as_one limit (answered b) b t refl (one_byte limit b (answered b) t rests is)

abbrev pub FrontLoad : ℕ → List Item → Type 0
FrontLoad limit [] = Unit {0}
FrontLoad limit (sent u ∷ items) = IsLoad limit u.load
FrontLoad limit (answered b ∷ items) = Unit {0}

front_comes : (limit : ℕ) (front : Item) (items : List Item) (t : TwoWay) → FrontLoad limit (front ∷ items)
    → Comes limit front t
front_comes limit (sent u) items t load =
    load_comes limit t u.session u.load load (awaits_reply t.near.station.sender.phase) refl
front_comes limit (answered b) items t load = reply_comes limit t b (awaits_reply t.near.station.sender.phase) refl

-- ---- the events

closes_line : (limit : ℕ) (t : TwoWay) → t.near.station.receiver.is_open ≡ true
    → t.near.station.receiver.room ≡ true
    → happens limit close_line (happens limit timer t) ≡ closed_line t
closes_line limit t is_open has_room =
    ap (λ o. happens limit close_line (timed limit o t)) is_open
    ∙ ap (λ o. record t {
      near = with_station (line_closed (heard {limit = limit} (timer_by o t.near.station.receiver)
          t.near.station).after) t.near;
    }) is_open
    ∙ ap (λ (room : Bool). record t {
      near = with_station (roomed room (closed_here t.near.station)) t.near;
    }) (sym has_room)

noticed : (limit : ℕ) (bytes : List ℕ) (front : Item) (items : List Item) (t : TwoWay) (awaits : Bool)
    → awaits_reply t.near.station.sender.phase ≡ awaits
    → is_noise limit awaits front bytes t.near.station.receiver ≡ true
    → damaged_in limit bytes (front ∷ items) t ≡ left_line front (comes limit front bytes (record t { inward = items }))
noticed limit bytes front items t awaits is noise =
    let here : is_noise limit (awaits_reply t.near.station.sender.phase) front bytes t.near.station.receiver ≡ true =
    ap (λ a. is_noise limit a front bytes t.near.station.receiver) is ∙ noise in
    rw here refl

room_left : (room : Bool) (front : Item) (t : TwoWay) → room_near room (left_line front t)
    ≡ left_line front (room_near room t)
room_left room (sent u) t = refl
room_left room (answered b) t = refl

-- the room is of no account to damage
noise_room : (limit : ℕ) (room : Bool) (front : Item) (bytes : List ℕ) (r : ReceiverState)
    → is_noise limit false front bytes r ≡ is_noise limit false front bytes (with_room room r)
noise_room limit room (sent u) bytes r = refl
noise_room limit room (answered b) bytes r = refl

module _ (limit : ℕ) (front : Item) (items : List Item) (t : TwoWay)
    (exclusive : IsExclusive t.near.station) (has_room : t.near.station.receiver.room ≡ true) where
  abbrev line : TwoWay
  line = record t { inward = front ∷ items }

  abbrev t0 : TwoWay
  t0 = record t { inward = items }

  lost_same : t.near.station.receiver.is_open ≡ true
      → from limit (timer ∷ close_line ∷ lose ∷ []) line ≡ left_line front (closed_line t0)
  lost_same is_open = ap (happens limit lose) (closes_line limit line is_open has_room)

  arrives_as : Comes limit front t0 → Becomes limit arrive (arrives_carefully limit (front ∷ items) line) line
  arrives_as (as_ever same) =
      record { instead = as_it_is; opens = tt; same = ap (left_line front) (sym same) }
  arrives_as (closes is_open same) =
      record { instead = lost_anew; opens = is_open; same = lost_same is_open ∙ ap (left_line front) (sym same) }
  arrives_as (comes_bad bytes rests same noise only) = record {
    instead = bad bytes;
    opens = tt;
    same = noticed limit bytes front items line false rests noise ∙ ap (left_line front) (sym same);
  }

  -- there is room again
  room_again : room_near true (room_near false t0) ≡ t0
  room_again = ap (λ room. room_near room t0) (sym has_room)

  closed_again : room_near true (closed_line (room_near false t0)) ≡ closed_line t0
  closed_again = ap (λ room. room_near room (closed_line t0)) (sym has_room)

  no_room_as : Comes limit front (room_near false t0)
      → Becomes limit arrive_without_room
      (room_near true (arrives_carefully limit (front ∷ items) (room_near false line))) line
  no_room_as (as_ever same) = record {
    instead = as_it_is;
    opens = tt;
    same = ap (λ x. room_near true (left_line front x)) (sym same);
  }
  no_room_as (closes is_open same) = record {
    instead = lost_anew;
    opens = is_open;
    same =
        lost_same is_open
        ∙ ap (left_line front) (sym closed_again)
        ∙ sym (room_left true front (closed_line (room_near false t0)))
        ∙ ap (λ x. room_near true (left_line front x)) (sym same);
  }
  no_room_as (comes_bad bytes rests same noise only) = record {
    instead = bad bytes;
    opens = tt;
    same =
        noticed limit bytes front items line false rests
        (noise_room limit false front bytes t.near.station.receiver ∙ noise)
        ∙ ap (λ x. left_line front (comes limit front bytes x)) (sym room_again)
        ∙ ap (left_line front) (sym (room_comes limit true front bytes (room_near false t0) rests only))
        ∙ sym (room_left true front (comes limit front bytes (room_near false t0)))
        ∙ ap (λ x. room_near true (left_line front x)) (sym same);
  }

  -- damage that is noticed carefully
  abbrev Damaged : List ℕ → Type 0
  Damaged bytes = Becomes limit (damage bytes) (left_line front (comes_carefully limit front bytes t0)) line

-- while no reply is awaited, in the place of a unit
unit_damaged : (limit : ℕ) (u : Travelling) (items : List Item) (t : TwoWay) (exclusive : IsExclusive t.near.station)
    (has_room : t.near.station.receiver.room ≡ true) (bytes : List ℕ)
    → awaits_reply t.near.station.sender.phase ≡ false
    → Noticed u.load (careful_signals limit bytes t.near.station.receiver)
    → Damaged limit (sent u) items t exclusive has_room bytes
unit_damaged limit u items t exclusive has_room bytes rests (nothing none) =
    let t0 : TwoWay = record t { inward = items } in
    let plain = plainly limit (sent u) bytes t0 rests (ap no_end none) in
    record {
      instead = bad plain.bytes;
      opens = tt;
      same =
          noticed limit plain.bytes (sent u) items (record t { inward = sent u ∷ items }) false rests
          (ap (is_noticed u.load) (plain.signals_are ∙ ap given_of none))
          ∙ ap (left_line (sent u)) (sym plain.same);
    }
unit_damaged limit u items t exclusive has_room bytes rests (ending_in one) =
    let t0 : TwoWay = record t { inward = items } in
    let line : TwoWay = record t { inward = sent u ∷ items } in
    let end = ended limit (sent u) bytes t0 rests one in
    record {
      instead = bad_anew end.bytes;
      opens = end.was_open;
      same =
          ap (happens limit (damage end.bytes)) (closes_line limit line end.was_open has_room)
          ∙ noticed limit end.bytes (sent u) items (closed_line line) false rests (ap (is_noticed u.load) end.silent)
          ∙ ap (left_line (sent u)) (sym end.same);
    }
unit_damaged limit u items t exclusive has_room bytes rests (one_bad frame fault load_is one) =
    let t0 : TwoWay = record t { inward = items } in
    let plain = plainly limit (sent u) bytes t0 rests (ap no_end one) in
    let signals : signals_after limit t.near.station.receiver.past plain.bytes ≡ Bad fault ∷ [] =
    plain.signals_are ∙ ap given_of one in
    record {
      instead = bad plain.bytes;
      opens = tt;
      same =
          noticed limit plain.bytes (sent u) items (record t { inward = sent u ∷ items }) false rests
          (ap (is_noticed u.load) signals ∙ ap (λ load. is_noticed {limit = limit} load (Bad fault ∷ [])) load_is)
          ∙ ap (left_line (sent u)) (sym plain.same);
    }

-- in the place of a reply
silent_if : {limit : ℕ} (signal : Option (SignalOf limit))
    → is_noticed_carefully enquiry (with_heard_first (option_map gives signal) []) ≡ true → signal ≡ None
silent_if None e = refl
silent_if (Some signal) e = cc

reply_damaged : (limit c b : ℕ) (items : List Item) (t : TwoWay) (exclusive : IsExclusive t.near.station)
    (has_room : t.near.station.receiver.room ≡ true)
    → awaits_reply t.near.station.sender.phase ≡ false
    → is_noticed_carefully enquiry (careful_signals limit (b ∷ []) t.near.station.receiver) ≡ true
    → Damaged limit (answered c) items t exclusive has_room (b ∷ [])
reply_damaged limit c b items t exclusive has_room rests seen = by (ends_session t.near.station.receiver b) refl
  where
    t0 : TwoWay
    t0 = record t { inward = items }

    line : TwoWay
    line = record t { inward = answered c ∷ items }

    by : (test : Bool) → ends_session t.near.station.receiver b ≡ test
        → Damaged limit (answered c) items t exclusive has_room (b ∷ [])
    by true is =
        let was_open = open_then t.near.station.receiver.is_open (b == ENQ || b == EOT) is in
        record {
          instead = lost_anew;
          opens = was_open;
          same =
              lost_same limit (answered c) items t exclusive has_room was_open
              ∙ sym (end_step limit b (answered c) t0 rests is);
        }
    by false is =
        let d : ℕ = heard_as (open_body t.near.station.receiver.past) b in
        let none = silent_if (signal_after limit t.near.station.receiver.past d)
        (subst (λ test. is_noticed_carefully enquiry (with_heard_first (careful_signal_by test
        (signal_after limit t.near.station.receiver.past d)) []) ≡ true) is seen) in
        record {
          instead = bad (d ∷ []);
          opens = tt;
          same =
              noticed limit (d ∷ []) (answered c) items line false rests
              (ap (λ (signal : Option (SignalOf limit)). is_noticed enquiry (with_signal signal []) && true) none)
              ∙ ap (λ step. steps (answered c) step t0) (sym (other_is limit b t.near.station rests is));
        }

-- while one is awaited
module _ (limit : ℕ) (items : List Item) (t : TwoWay) (exclusive : IsExclusive t.near.station)
    (has_room : t.near.station.receiver.room ≡ true) (awaits : awaits_reply t.near.station.sender.phase ≡ true) where
  noise_again : (b : ℕ) (bytes others : List ℕ) → is_noise_to_sender (b ∷ bytes) ≡ true → has_byte ACK others ≡ false
      → has_byte ENQ others ≡ false → is_noise_to_sender (b ∷ others) ≡ true
  noise_again b bytes others noise no_ack no_enquiry =
      let last = and_parts (not (b == ACK) && not (has_byte ACK bytes)) (not (has_byte ENQ bytes)) noise in
      let both = and_parts (not (b == ACK)) (not (has_byte ACK bytes)) last.0 in
      ap (λ x. x && not (has_byte ACK others) && not (has_byte ENQ others)) both.0
      ∙ ap (λ x. not x && not (has_byte ENQ others)) no_ack
      ∙ ap not no_enquiry

  awaited_unit : (u : Travelling) (bytes : List ℕ) → is_noise_to_sender bytes ≡ true
      → Damaged limit (sent u) items t exclusive has_room bytes
  awaited_unit u [] noise = record {
    instead = as_it_is;
    opens = tt;
    same = noticed limit [] (sent u) items (record t { inward = sent u ∷ items }) true awaits noise;
  }
  awaited_unit u (b ∷ bytes) noise =
      let t0 : TwoWay = record t { inward = items } in
      let next : TwoWay = steps (sent u) (on_station_byte limit b t.near.station) t0 in
      let parts = sender_noise b bytes noise in
      let later = shut_comes limit (sent u) bytes next
      (awaited_shut limit b (sent u) t0 awaits (shut_if_awaits t.near.station exclusive awaits)) parts.lacks_enq
      parts.lacks_ack in
      record {
        instead = bad (b ∷ later.bytes);
        opens = tt;
        same =
            noticed limit (b ∷ later.bytes) (sent u) items (record t { inward = sent u ∷ items }) true awaits
            (noise_again b bytes later.bytes noise later.lacks_ack later.lacks_enquiry)
            ∙ ap (left_line (sent u)) (sym (ap (comes_carefully limit (sent u) bytes)
            (awaited_byte limit b (sent u) t0 awaits) ∙ later.same));
      }

  awaited_reply : (c : ℕ) (bytes : List ℕ) → is_noise_to_sender bytes ≡ true → is_single bytes ≡ true
      → Damaged limit (answered c) items t exclusive has_room bytes
  awaited_reply c [] noise single = cc
  awaited_reply c (b ∷ []) noise single = record {
    instead = as_it_is;
    opens = tt;
    same =
        noticed limit (b ∷ []) (answered c) items (record t { inward = answered c ∷ items }) true awaits
        (ap (λ x. x && true) noise)
        ∙ sym (awaited_byte limit b (answered c) (record t { inward = items }) awaits);
  }
  awaited_reply c (b ∷ d ∷ bytes) noise single = cc

noise_as : (limit : ℕ) (front : Item) (items : List Item) (t : TwoWay) (exclusive : IsExclusive t.near.station)
    (has_room : t.near.station.receiver.room ≡ true) (bytes : List ℕ) (awaits : Bool)
    → awaits_reply t.near.station.sender.phase ≡ awaits
    → is_noise_carefully limit awaits front bytes t.near.station.receiver ≡ true
    → Damaged limit front items t exclusive has_room bytes
noise_as limit (sent u) items t exclusive has_room bytes true is noise =
    awaited_unit limit items t exclusive has_room is u bytes noise
noise_as limit (answered c) items t exclusive has_room bytes true is noise =
    let parts = and_parts (is_noise_to_sender bytes) (is_single bytes) noise in
    awaited_reply limit items t exclusive has_room is c bytes parts.0 parts.1
noise_as limit (sent u) items t exclusive has_room bytes false is noise =
    unit_damaged limit u items t exclusive has_room bytes is
    (noticed_cases u.load (careful_signals limit bytes t.near.station.receiver) noise)
noise_as limit (answered c) items t exclusive has_room [] false is noise =
    let parts = and_parts (is_noticed_carefully enquiry (careful_signals limit [] t.near.station.receiver))
    (is_single []) noise in
    absurd (cc)
noise_as limit (answered c) items t exclusive has_room (b ∷ []) false is noise =
    let parts = and_parts (is_noticed_carefully enquiry (careful_signals limit (b ∷ []) t.near.station.receiver))
    (is_single (b ∷ [])) noise in
    reply_damaged limit c b items t exclusive has_room is parts.0
noise_as limit (answered c) items t exclusive has_room (b ∷ d ∷ bytes) false is noise =
    let parts = and_parts (is_noticed_carefully enquiry (careful_signals limit (b ∷ d ∷ bytes)
    t.near.station.receiver)) (is_single (b ∷ d ∷ bytes)) noise in
    absurd (cc)

damaged_as : (limit : ℕ) (front : Item) (items : List Item) (t : TwoWay) (exclusive : IsExclusive t.near.station)
    (has_room : t.near.station.receiver.room ≡ true) (bytes : List ℕ)
    → Becomes limit (damage bytes) (damaged_in_carefully limit bytes (front ∷ items) (record t {
      inward = front ∷ items;
    })) (record t { inward = front ∷ items })
damaged_as limit front items t exclusive has_room bytes =
    by (is_noise_carefully limit (awaits_reply t.near.station.sender.phase) front bytes t.near.station.receiver) refl
  where
    by : (seen : Bool)
        → is_noise_carefully limit (awaits_reply t.near.station.sender.phase) front bytes t.near.station.receiver
        ≡ seen
        → Becomes limit (damage bytes)
        (if seen then left_line front (comes_carefully limit front bytes (record t { inward = items }))
        else record t { inward = front ∷ items }) (record t { inward = front ∷ items })
    by true e =
        noise_as limit front items t exclusive has_room bytes (awaits_reply t.near.station.sender.phase) refl e
    by false e = record { instead = not_at_all; opens = tt; same = refl }

-- ---- whatever comes

-- what has to hold of the line
pub record Fits (limit : ℕ) (t : TwoWay) : Type 0 where
  pub exclusive : IsExclusive t.near.station
  pub has_room : t.near.station.receiver.room ≡ true
  pub load : FrontLoad limit t.inward

pub arrive_as : (limit : ℕ) (items : List Item) (t : TwoWay) → Fits limit (record t { inward = items })
    → Becomes limit arrive (arrives_carefully limit items (record t { inward = items })) (record t { inward = items })
arrive_as limit [] t fits = record { instead = as_it_is; opens = tt; same = refl }
arrive_as limit (front ∷ items) t fits =
    arrives_as limit front items t fits.exclusive fits.has_room
    (front_comes limit front items (record t { inward = items }) fits.load)

pub arrive_without_room_as : (limit : ℕ) (items : List Item) (t : TwoWay) → Fits limit (record t { inward = items })
    → Becomes limit arrive_without_room
    (room_near true (arrives_carefully limit items (room_near false (record t { inward = items }))))
    (record t { inward = items })
arrive_without_room_as limit [] t fits = record { instead = as_it_is; opens = tt; same = refl }
arrive_without_room_as limit (front ∷ items) t fits =
    no_room_as limit front items t fits.exclusive fits.has_room
    (front_comes limit front items (room_near false (record t { inward = items })) fits.load)

pub damage_as : (limit : ℕ) (bytes : List ℕ) (items : List Item) (t : TwoWay) → Fits limit (record t { inward = items })
    → Becomes limit (damage bytes) (damaged_in_carefully limit bytes items (record t { inward = items }))
    (record t { inward = items })
damage_as limit bytes [] t fits = record { instead = as_it_is; opens = tt; same = refl }
damage_as limit bytes (front ∷ items) t fits =
    damaged_as limit front items t fits.exclusive fits.has_room bytes
