-- Both receivers have room before each event and after it.
use Rattle.std.proofs.Common.{◌≡◌, ℕ, zero, suc, Bool, true, false, List, [], ◌∷◌, Option, None, Some, refl, ap}
use Rattle.std.proofs.Common.{◌∙◌}
use Rattle.std.proofs.lemmas.Bool.{cond_both}
use Rattle.lis_frame.specs.Stream.{signal_after}
use Rattle.lis_link.specs.declared.receiver.Note.{Note}
use Rattle.lis_link.specs.declared.receiver.Note.TheVariants.{Opened, Accepted}
use Rattle.lis_link.specs.declared.sender.EmitOf.{EmitOf}
use Rattle.lis_link.specs.declared.sender.EmitOf.TheVariants as Emits
use Rattle.lis_link.specs.declared.sender.Phase.{Phase}
use Rattle.lis_link.specs.declared.sender.Phase.TheVariants.{Neutral, AwaitLine, Busy, Contention, AwaitReply}
use Rattle.lis_link.specs.Receiver.{ReceiverState, ReceiverStep, on_byte, timer_by}
use Rattle.lis_link.specs.Sender.{on_sender_timer}
use Rattle.lis_world.proofs.Heard.{heard_leaves}
use Rattle.lis_station.specs.declared.station.StationFault.{StationFault}
use Rattle.lis_station.specs.Station.{StationState, awaits_reply, asking, heard, reply_step, replied, routed}
use Rattle.lis_station.specs.Station.{on_station_byte, timed_by, station_fault}
use Rattle.lis_station.specs.Line.{Item, sent, answered, TwoWay, turned, followed_by, with_station, emitted_out, noted}
use Rattle.lis_station.specs.Line.{reply_out, steps, comes, item_bytes, left_line, arrives, room_near, is_noise}
use Rattle.lis_station.specs.Line.{damaged_in, lost_in, forgotten_out, sender_timed, timed, begins_out, StationEvent}
use Rattle.lis_station.specs.Line.{start, arrive, arrive_without_room, damage, lose, timer, give_up, close_line}
use Rattle.lis_station.specs.Line.{restart, set_ready, ask_turn, happens, LineEvent, at_analyzer, at_computer}
use Rattle.lis_station.specs.Line.{after_line_event}
use Rattle.lis_late_line.specs.Late.{sender_timed_late, timed_late, happens_late, LateEvent, on_line, reconnect}
use Rattle.lis_late_line.specs.Late.{after_late_event}
use Rattle.lis_careful_line.proofs.Steps.{emitted_station, heard_station}

pub record HasRoom (t : TwoWay) : Type 0 where
  pub near : t.near.station.receiver.room ≡ true
  pub far : t.far.station.receiver.room ≡ true

-- what happens here keeps the room here, and the station there
record Keeps (t0 t : TwoWay) : Type 0 where
  pub room : t0.near.station.receiver.room ≡ true → t.near.station.receiver.room ≡ true
  pub far_same : t.far.station ≡ t0.far.station

stays : (t : TwoWay) → Keeps t t
stays t = record { room = λ has. has; far_same = refl }

and_then : (t0 t1 t2 : TwoWay) → Keeps t0 t1 → Keeps t1 t2 → Keeps t0 t2
and_then t0 t1 t2 first later =
    record { room = λ has. later.room (first.room has); far_same = later.far_same ∙ first.far_same }

emitted_far : {limit : ℕ} (emit : EmitOf limit) (t : TwoWay) → (emitted_out emit t).far.station ≡ t.far.station
emitted_far Emits.Nothing t = refl
emitted_far Emits.Enq t = refl
emitted_far Emits.Eot t = refl
emitted_far Emits.Nak t = refl
emitted_far (Emits.Frame frame) t = refl

noted_far : (item : Item) (step : ReceiverStep) (note : Note) (t : TwoWay)
    → (noted item step note t).far.station ≡ t.far.station
noted_far (sent unit) step Opened t = refl
noted_far (sent unit) step (Accepted n) t = refl
noted_far (answered b) step (Accepted n) t = refl
noted_far (sent unit) step _ t = refl
noted_far (answered b) step _ t = refl

reply_far : (to_drop : ℕ) (reply : Option ℕ) (t : TwoWay) → (reply_out to_drop reply t).far.station ≡ t.far.station
reply_far zero (Some b) t = refl
reply_far zero None t = refl
reply_far (suc n) reply t = refl

-- ---- bytes

sender_keeps : {limit : ℕ} (emit : EmitOf limit) (after : StationState) (t : TwoWay)
    → after.receiver ≡ t.near.station.receiver
    → Keeps t (emitted_out emit (record t { near = followed_by after t.near }))
sender_keeps emit after t same =
    let t1 : TwoWay = record t { near = followed_by after t.near } in
    record {
      room = λ has. ap (λ (s : StationState). s.receiver.room) (emitted_station emit t1)
          ∙ ap (λ (r : ReceiverState). r.room) same ∙ has;
      far_same = emitted_far emit t1;
    }

receiver_keeps : (limit b : ℕ) (item : Item) (t : TwoWay)
    → Keeps t (steps item (heard {limit = limit} (on_byte limit b t.near.station.receiver) t.near.station) t)
receiver_keeps limit b item t =
    let r : ReceiverState = t.near.station.receiver in
    let given : ReceiverStep = asking t.near.station.asks_turn (on_byte limit b r) in
    let t1 : TwoWay = record t {
      near = with_station (heard {limit = limit} (on_byte limit b r) t.near.station).after t.near;
    } in
    record {
      room = λ has.
          ap (λ (s : StationState). s.receiver.room) (heard_station limit item (on_byte limit b r) t)
          ∙ (heard_leaves (signal_after limit r.past b) (record r { past = b ∷ r.past })).1 ∙ has;
      far_same =
          reply_far t.far.to_drop given.reply (noted item given given.note t1)
          ∙ noted_far item given given.note t1;
    }

byte_keeps : (limit b : ℕ) (item : Item) (t : TwoWay) → Keeps t (steps item (on_station_byte limit b t.near.station) t)
byte_keeps limit b item t = by (awaits_reply t.near.station.sender.phase)
  where
    by : (awaits : Bool) → Keeps t (steps item (routed limit awaits b t.near.station) t)
    by true =
        sender_keeps (reply_step {limit = limit} b t.near.station.sender).emit
        (replied {limit = limit} b t.near.station).after t refl
    by false = receiver_keeps limit b item t

comes_keeps : (limit : ℕ) (item : Item) (bytes : List ℕ) (t : TwoWay) → Keeps t (comes limit item bytes t)
comes_keeps limit item [] t = stays t
comes_keeps limit item (b ∷ bytes) t =
    let next : TwoWay = steps item (on_station_byte limit b t.near.station) t in
    and_then t next (comes limit item bytes next) (byte_keeps limit b item t) (comes_keeps limit item bytes next)

-- ---- events

left_keeps : (front : Item) (t0 t : TwoWay) → Keeps t0 t → Keeps t0 (left_line front t)
left_keeps (sent u) t0 t h = record { room = h.room; far_same = h.far_same }
left_keeps (answered b) t0 t h = h

item_keeps : (limit : ℕ) (front : Item) (items : List Item) (bytes : List ℕ) (t : TwoWay)
    → Keeps t (left_line front (comes limit front bytes (record t { inward = items })))
item_keeps limit front items bytes t =
    let t0 : TwoWay = record t { inward = items } in
    let came = comes_keeps limit front bytes t0 in
    left_keeps front t (comes limit front bytes t0) (record { room = came.room; far_same = came.far_same })

arrives_keeps : (limit : ℕ) (items : List Item) (t : TwoWay) → Keeps t (arrives limit items t)
arrives_keeps limit [] t = stays t
arrives_keeps limit (front ∷ items) t = item_keeps limit front items (item_bytes front) t

damaged_keeps : (limit : ℕ) (bytes : List ℕ) (items : List Item) (t : TwoWay) → Keeps t (damaged_in limit bytes items t)
damaged_keeps limit bytes [] t = stays t
damaged_keeps limit bytes (front ∷ items) t =
    cond_both (is_noise limit (awaits_reply t.near.station.sender.phase) front bytes t.near.station.receiver)
    (left_line front (comes limit front bytes (record t { inward = items }))) t (λ x. Keeps t x)
    (λ noise. item_keeps limit front items bytes t) (λ other. stays t)

lost_keeps : (limit : ℕ) (items : List Item) (t : TwoWay) → Keeps t (lost_in items t)
lost_keeps limit [] t = stays t
lost_keeps limit (front ∷ items) t = item_keeps limit front items [] t

begun_keeps : (limit : ℕ) (fault : Option StationFault) (texts : List (List ℕ)) (t : TwoWay)
    → Keeps t (begins_out limit fault texts t)
begun_keeps limit (Some fault) texts t = stays t
begun_keeps limit None texts t = record { room = λ has. has; far_same = refl }

timer_keeps : (is_open : Bool) (r : ReceiverState) → r.room ≡ true → (timer_by is_open r).after.room ≡ true
timer_keeps true r has = has
timer_keeps false r has = has

waits_keeps : (limit : ℕ) (t0 t : TwoWay) → Keeps t0 t → Keeps t0 (emitted_out
    (on_sender_timer {limit = limit} t.near.station.sender).emit
    (record t { near = followed_by (timed_by {limit = limit} false t.near.station).after t.near }))
waits_keeps limit t0 t h =
    let after : StationState = (timed_by {limit = limit} false t.near.station).after in
    and_then t0 t _ h (sender_keeps (on_sender_timer {limit = limit} t.near.station.sender).emit after t refl)

forgot_keeps : (t : TwoWay) → Keeps t (forgotten_out t)
forgot_keeps t = record { room = λ has. has; far_same = refl }

timed_keeps : (limit : ℕ) (phase : Phase) (t : TwoWay) → Keeps t (sender_timed limit phase t)
timed_keeps limit Neutral t = stays t
timed_keeps limit AwaitLine t = waits_keeps limit t (forgotten_out t) (forgot_keeps t)
timed_keeps limit Busy t = record { room = λ has. has; far_same = refl }
timed_keeps limit Contention t = record { room = λ has. has; far_same = refl }
timed_keeps limit AwaitReply t = waits_keeps limit t (forgotten_out t) (forgot_keeps t)

timed_late_keeps : (limit : ℕ) (phase : Phase) (t : TwoWay) → Keeps t (sender_timed_late limit phase t)
timed_late_keeps limit Neutral t = stays t
timed_late_keeps limit AwaitLine t = waits_keeps limit t t (stays t)
timed_late_keeps limit Busy t = record { room = λ has. has; far_same = refl }
timed_late_keeps limit Contention t = record { room = λ has. has; far_same = refl }
timed_late_keeps limit AwaitReply t = waits_keeps limit t t (stays t)

open_timed_keeps : (limit : ℕ) (t : TwoWay) → Keeps t (timed limit true t)
open_timed_keeps limit t =
    record { room = timer_keeps t.near.station.receiver.is_open t.near.station.receiver; far_same = refl }

happens_keeps : (limit : ℕ) (event : StationEvent) (t : TwoWay) → Keeps t (happens limit event t)
happens_keeps limit (start texts) t = begun_keeps limit (station_fault t.near.station texts) texts t
happens_keeps limit arrive t = arrives_keeps limit t.inward t
happens_keeps limit arrive_without_room t =
    record { room = λ has. refl; far_same = (arrives_keeps limit t.inward (room_near false t)).far_same }
happens_keeps limit (damage bytes) t = damaged_keeps limit bytes t.inward t
happens_keeps limit lose t = lost_keeps limit t.inward t
happens_keeps limit timer t = by t.near.station.receiver.is_open
  where
    by : (is_open : Bool) → Keeps t (timed limit is_open t)
    by true = open_timed_keeps limit t
    by false = timed_keeps limit t.near.station.sender.phase t
happens_keeps limit give_up t = record { room = λ has. has; far_same = refl }
happens_keeps limit close_line t = record { room = λ has. refl; far_same = refl }
happens_keeps limit restart t = record { room = λ has. refl; far_same = refl }
happens_keeps limit (set_ready ready) t = record { room = λ has. has; far_same = refl }
happens_keeps limit ask_turn t = record { room = λ has. has; far_same = refl }

late_keeps : (limit : ℕ) (event : StationEvent) (t : TwoWay) → Keeps t (happens_late limit event t)
late_keeps limit timer t = by t.near.station.receiver.is_open
  where
    by : (is_open : Bool) → Keeps t (timed_late limit is_open t)
    by true = open_timed_keeps limit t
    by false = timed_late_keeps limit t.near.station.sender.phase t
late_keeps limit give_up t = record { room = λ has. has; far_same = refl }
late_keeps limit restart t = record { room = λ has. refl; far_same = refl }
late_keeps limit (start texts) t = happens_keeps limit (start texts) t
late_keeps limit arrive t = happens_keeps limit arrive t
late_keeps limit arrive_without_room t = happens_keeps limit arrive_without_room t
late_keeps limit (damage bytes) t = happens_keeps limit (damage bytes) t
late_keeps limit lose t = happens_keeps limit lose t
late_keeps limit close_line t = happens_keeps limit close_line t
late_keeps limit (set_ready ready) t = happens_keeps limit (set_ready ready) t
late_keeps limit ask_turn t = happens_keeps limit ask_turn t

-- ---- both sides

kept_rooms : (t0 t : TwoWay) → Keeps t0 t → HasRoom t0 → HasRoom t
kept_rooms t0 t h has =
    record { near = h.room has.near; far = ap (λ (s : StationState). s.receiver.room) h.far_same ∙ has.far }

pub turned_rooms : (t : TwoWay) → HasRoom t → HasRoom (turned t)
turned_rooms t has = record { near = has.far; far = has.near }

pub line_rooms : (limit : ℕ) (event : LineEvent) (t : TwoWay) → HasRoom t → HasRoom (after_line_event limit event t)
line_rooms limit (at_analyzer event) t has =
    kept_rooms t (happens limit event t) (happens_keeps limit event t) has
line_rooms limit (at_computer event) t has =
    turned_rooms (happens limit event (turned t))
    (kept_rooms (turned t) (happens limit event (turned t)) (happens_keeps limit event (turned t)) (turned_rooms t has))

pub late_rooms : (limit : ℕ) (event : LateEvent) (t : TwoWay) → HasRoom t → HasRoom (after_late_event limit event t)
late_rooms limit (on_line (at_analyzer event)) t has =
    kept_rooms t (happens_late limit event t) (late_keeps limit event t) has
late_rooms limit (on_line (at_computer event)) t has =
    turned_rooms (happens_late limit event (turned t))
    (kept_rooms (turned t) (happens_late limit event (turned t)) (late_keeps limit event (turned t))
    (turned_rooms t has))
late_rooms limit reconnect t has = record { near = refl; far = refl }
