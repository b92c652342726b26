-- While one side sends nothing, the line is that of one direction: a world of `lis_world`, and what the other direction
-- has.
use Rattle.std.proofs.Common.{◌≡◌, ◌⊎◌, inl, inr, ℕ, zero, suc, ◌+◌, Bool, true, false}
use Rattle.std.proofs.Common.{List, [], ◌∷◌, ◌++◌, map, Option, None, Some}
use Rattle.std.proofs.Common.{refl, sym, ap, ◌∙◌, subst, append_assoc, append-nil, arith, length, ◌≤◌}
use Rattle.std.specs.List.{fold, flat_map}
use Rattle.std.specs.Prelude.{All, ◌≢◌, ◌==◌, ◌||◌, if◌then◌else◌}
use Rattle.std.proofs.lemmas.List.{map_push, length_push}
use Rattle.std.proofs.lemmas.List.Elements.{All-head, All-tail}
use Rattle.std.proofs.lemmas.Bool.{cond_both, ne_eqb}
use Rattle.lis_text.specs.Control.{EOT, ACK, STX, LF}
use Rattle.lis_frame.specs.Frame.{FrameContent}
use Rattle.lis_frame.specs.Limit.{IsLimit}
use Rattle.lis_frame.specs.Stream.{signal_after, signals_after}
use Rattle.lis_frame.specs.declared.scanner.SignalOf.{SignalOf}
use Rattle.lis_frame.specs.declared.scanner.SignalOf.TheVariants.{Enq, Eot, Good, Bad}
use Rattle.lis_link.specs.declared.receiver.Note.{Note}
use Rattle.lis_link.specs.declared.receiver.Note.TheVariants.{Opened, Accepted}
use Rattle.lis_text.specs.declared.readiness.Readiness.{Readiness}
use Rattle.lis_text.specs.declared.readiness.Readiness.TheVariants as Readinesses
use Rattle.lis_link.specs.declared.sender.Phase.{Phase}
use Rattle.lis_link.specs.declared.sender.Phase.TheVariants as Phases
use Rattle.lis_link.specs.declared.sender.EmitOf.{EmitOf}
use Rattle.lis_link.specs.declared.sender.EmitOf.TheVariants as Emits
use Rattle.lis_link.specs.Sender.{SenderState, on_reply}
use Rattle.lis_link.specs.Receiver.{ReceiverState, ReceiverStep, on_byte, heard as receiver_heard, heard_by, classified}
use Rattle.lis_link.specs.Receiver.{on_classified, answered_request}
use Rattle.lis_world.specs.declared.event.Event.{Event}
use Rattle.lis_world.specs.declared.event.Event.TheVariants.{Deliver, DeliverNoRoom, Damage, Reply, DamageReply}
use Rattle.lis_world.specs.inside.Playing.{runs}
use Rattle.lis_world.specs.Progress.{Round, undisturbed, without_room, bad_frame, bad_reply, round_events, IsNoticed}
use Rattle.lis_world.proofs.Invariant.{Holds, InPhase}
use Rattle.lis_world.proofs.Safety.{event_holds}
use Rattle.lis_world.proofs.Carrying.{runs-append}
use Rattle.lis_world.specs.Unit.{enquiry, ending, one_frame, Travelling, load_bytes}
use Rattle.lis_world.specs.Session.{Session, with_more, changed, sends_frame}
use Rattle.lis_world.specs.World.{World, ComputerState, computer_state_of, after_note, booked, hears, replies_with}
use Rattle.lis_world.specs.World.{settled}
use Rattle.lis_world.specs.Steps.{emitted, with_sender, sender_steps, delivered, damaged, replied, reply_damaged}
use Rattle.lis_world.specs.Steps.{room_at, is_noticed, after_event}
use Rattle.lis_line.specs.Progress.{round_on_line, carrying}
use Rattle.lis_station.specs.declared.station.Role.{Role}
use Rattle.lis_station.specs.declared.station.Turn.{Turn}
use Rattle.lis_station.specs.Station.{StationState, awaits_reply, turn_reply, asking, asks_after}
use Rattle.lis_station.specs.Station.{turn_after_note, turn_after_reply, given_reply, routed}
use Rattle.lis_station.specs.Line.{Item, sent, answered, TwoWay, turned, noted, reply_out}
use Rattle.lis_station.specs.Line.{steps, comes, left_line, arrives}
use Rattle.lis_station.specs.Line.{receiver_went, sender_went, is_noise}
use Rattle.lis_station.specs.Line.{emitted_out, room_near, damaged_in, arrive}
use Rattle.lis_station.specs.Line.{arrive_without_room, damage, LineEvent, at_analyzer, at_computer, after_line_event}

-- what the other direction has, which stays as it is
pub record Beside : Type 0 where
  pub near_role : Role
  pub near_receiver : ReceiverState
  pub near_asks : Bool
  pub near_opened : ℕ
  pub far_role : Role
  pub far_sender : SenderState
  pub far_to_drop : ℕ
  pub far_current : ℕ
  pub far_sessions : List Session

-- the line of a world of one direction; the other side asks for no turn
abbrev pub over : World → Beside → Turn → Turn → TwoWay
over w b near_turn far_turn = record {
  near = record {
    station = record {
      role = b.near_role;
      sender = w.sender;
      receiver = b.near_receiver;
      turn = near_turn;
      asks_turn = b.near_asks;
    };
    to_drop = w.to_drop;
    current = w.current;
    opened = b.near_opened;
    sessions = w.sessions;
  };
  far = record {
    station = record {
      role = b.far_role;
      sender = b.far_sender;
      receiver = w.receiver;
      turn = far_turn;
      asks_turn = false;
    };
    to_drop = b.far_to_drop;
    current = b.far_current;
    opened = w.opened;
    sessions = b.far_sessions;
  };
  outward = map sent w.units;
  inward = map answered w.replies;
}

-- the line is that of a world
pub record IsOver (w : World) (b : Beside) (t : TwoWay) : Type 0 where
  pub near_turn : Turn
  pub far_turn : Turn
  pub is : t ≡ over w b near_turn far_turn

-- the other side hears, and doesn't have the line
pub record IsSilent (b : Beside) : Type 0 where
  pub closed : b.near_receiver.is_open ≡ false
  pub hears_all : awaits_reply b.far_sender.phase ≡ false

-- ---- no reply is EOT

abbrev pub NoEot : List ℕ → Type 0
NoEot [] = Unit {0}
NoEot (b ∷ bs) = (b ≢ EOT) × NoEot bs

abbrev NotEot : Option ℕ → Type 0
NotEot None = Unit {0}
NotEot (Some b) = b ≢ EOT

request_not_eot : (readiness : Readiness) (r : ReceiverState) → NotEot (answered_request readiness r).reply
request_not_eot Readinesses.Ready r = λ e. cc
request_not_eot Readinesses.Busy r = λ e. cc
request_not_eot Readinesses.Contending r = λ e. cc

classified_not_eot : (r : ReceiverState) (frame : FrameContent) (note : Note)
    → NotEot (on_classified r frame note).reply
classified_not_eot r frame (Accepted n) = λ e. cc
classified_not_eot r frame _ = λ e. cc

signal_not_eot : {limit : ℕ} (is_open : Bool) (signal : SignalOf limit) (r : ReceiverState)
    → NotEot (heard_by is_open signal r).reply
signal_not_eot true Enq r = request_not_eot r.readiness r
signal_not_eot false Enq r = request_not_eot r.readiness r
signal_not_eot true Eot r = tt
signal_not_eot true (Good frame) r = classified_not_eot r frame (classified r frame)
signal_not_eot true (Bad fault) r = λ e. cc
signal_not_eot false _ r = tt

heard_not_eot : {limit : ℕ} (signal : Option (SignalOf limit)) (r : ReceiverState)
    → NotEot (receiver_heard signal r).reply
heard_not_eot None r = tt
heard_not_eot (Some signal) r = signal_not_eot r.is_open signal r

no_eot_joined : (xs ys : List ℕ) → NoEot xs → NoEot ys → NoEot (xs ++ ys)
no_eot_joined [] ys h k = k
no_eot_joined (x ∷ xs) ys h k = (h.0, no_eot_joined xs ys h.1 k)

no_eot_more : (xs : List ℕ) (reply : Option ℕ) → NoEot xs → NotEot reply → NoEot (with_more xs reply)
no_eot_more xs None h k = h
no_eot_more xs (Some b) h k = no_eot_joined xs (b ∷ []) h (k, tt)

keeps_replies : (s : ℕ) (step : ReceiverStep) (note : Note) (d : ComputerState)
    → (after_note s step note d).replies ≡ d.replies
keeps_replies s step Opened d = refl
keeps_replies s step (Accepted n) d = refl
keeps_replies s step _ d = refl

hears_no_eot : (limit s : ℕ) (bytes : List ℕ) (d : ComputerState) → NoEot d.replies
    → NoEot (hears limit s bytes d).replies
hears_no_eot limit s [] d h = h
hears_no_eot limit s (b ∷ bytes) d h =
    let step : ReceiverStep = on_byte limit b d.receiver in
    hears_no_eot limit s bytes (booked s step d)
    (subst NoEot (sym (keeps_replies s step step.note
    (record d { receiver = step.after; replies = with_more d.replies step.reply })))
    (no_eot_more d.replies step.reply h
    (heard_not_eot (signal_after limit d.receiver.past b) (record d.receiver { past = b ∷ d.receiver.past }))))

replies_no_eot : (to_drop : ℕ) (caused replies : List ℕ) → NoEot caused → NoEot replies
    → NoEot (replies_with to_drop caused replies)
replies_no_eot zero caused replies h k = no_eot_joined replies caused k h
replies_no_eot (suc n) caused replies h k = k

-- ---- a unit comes there

-- the line seen from there, while the bytes of a unit come
abbrev coming : World → Beside → Turn → Turn → List Travelling → ComputerState → TwoWay
coming w b near_turn far_turn units d =
    turned (over (record w {
      receiver = d.receiver;
      opened = d.opened;
      sessions = d.sessions;
      units = units;
      replies = replies_with w.to_drop d.replies w.replies;
    }) b near_turn far_turn)

same_reply : (note : Note) (reply : Option ℕ) → turn_reply note false reply ≡ reply
same_reply (Accepted n) reply = refl
same_reply _ reply = refl

none_asked : (note : Note) → asks_after note false ≡ false
none_asked Opened = refl
none_asked (Accepted n) = refl
none_asked _ = refl

same_asking : (step : ReceiverStep) → asking false step ≡ step
same_asking step = ap (λ r. record step { reply = r }) (same_reply step.note step.reply)

noted_there :
    (w : World) (b : Beside) (near_turn far_turn : Turn) (units : List Travelling) (d : ComputerState) (u : Travelling)
    (step : ReceiverStep) (note : Note)
    → noted (sent u) step note (coming w b near_turn far_turn units d)
    ≡ coming w b near_turn far_turn units (after_note u.session step note d)
noted_there w b near_turn far_turn units d u step Opened = refl
noted_there w b near_turn far_turn units d u step (Accepted n) = refl
noted_there w b near_turn far_turn units d u step _ = refl

pushed_reply : (to_drop : ℕ) (caused replies : List ℕ) (reply : Option ℕ)
    (t : TwoWay)
    → reply_out to_drop reply (record t { outward = map answered (replies_with to_drop caused replies) })
    ≡ record t { outward = map answered (replies_with to_drop (with_more caused reply) replies) }
pushed_reply zero caused replies None t = refl
pushed_reply zero caused replies (Some b) t =
    ap (λ out. record t { outward = out })
    (sym (map_push answered (replies ++ caused) b) ∙ ap (map answered) (append_assoc replies caused (b ∷ [])))
pushed_reply (suc n) caused replies None t = refl
pushed_reply (suc n) caused replies (Some b) t = refl

-- a reply goes out after what was noted, or before
commuted : (s : ℕ) (step : ReceiverStep) (note : Note) (reply : Option ℕ) (d : ComputerState)
    → record (after_note s step note d) { replies = with_more (after_note s step note d).replies reply }
    ≡ after_note s step note (record d { replies = with_more d.replies reply })
commuted s step Opened reply d = refl
commuted s step (Accepted n) reply d = refl
commuted s step _ reply d = refl

byte_there :
    (limit byte : ℕ) (w : World) (b : Beside) (near_turn far_turn : Turn) (units : List Travelling) (d : ComputerState)
    (u : Travelling)
    → steps (sent u) (routed limit false byte (coming w b near_turn far_turn units d).near.station)
    (coming w b near_turn far_turn units d)
    ≡ coming w b near_turn (turn_after_note (on_byte limit byte d.receiver).note far_turn) units
    (booked u.session (on_byte limit byte d.receiver) d)
byte_there limit byte w b near_turn far_turn units d u =
    let t : TwoWay = coming w b near_turn far_turn units d in
    let step : ReceiverStep = on_byte limit byte d.receiver in
    let turn : Turn = turn_after_note step.note far_turn in
    let after : ComputerState = record d { receiver = step.after } in
    let noted_it : ComputerState = after_note u.session step step.note after in
    ap (λ (p : ReceiverStep). receiver_went (sent u) p (station_after step turn (asks_after step.note false) t) t)
    (same_asking step)
    ∙ ap (λ asks. receiver_went (sent u) step (station_after step turn asks t) t) (none_asked step.note)
    ∙ ap (reply_out w.to_drop step.reply) (noted_there w b near_turn turn units after u step step.note)
    ∙ pushed_reply w.to_drop noted_it.replies w.replies step.reply (coming w b near_turn turn units noted_it)
    ∙ ap (coming w b near_turn turn units) (commuted u.session step step.note step.reply after)
  where
    station_after : ReceiverStep → Turn → Bool → TwoWay → StationState
    station_after step turn asks t = record t.near.station {
      receiver = step.after;
      turn = turn;
      asks_turn = asks;
    }

-- where bytes led to
record HasCome (w : World) (b : Beside) (near_turn : Turn) (units : List Travelling) (d : ComputerState) (t : TwoWay) :
    Type 0 where
  far_turn : Turn
  is : t ≡ coming w b near_turn far_turn units d

bytes_there :
    (limit : ℕ) (bytes : List ℕ) (w : World) (b : Beside) (near_turn far_turn : Turn) (units : List Travelling)
    (d : ComputerState) (u : Travelling)
    → awaits_reply b.far_sender.phase ≡ false
    → HasCome w b near_turn units (hears limit u.session bytes d)
    (comes limit (sent u) bytes (coming w b near_turn far_turn units d))
bytes_there limit [] w b near_turn far_turn units d u hears_it = record { far_turn = far_turn; is = refl }
bytes_there limit (byte ∷ bytes) w b near_turn far_turn units d u hears_it =
    let t : TwoWay = coming w b near_turn far_turn units d in
    let step : ReceiverStep = on_byte limit byte d.receiver in
    let turn : Turn = turn_after_note step.note far_turn in
    let first : steps (sent u) (routed limit (awaits_reply b.far_sender.phase) byte t.near.station) t
    ≡ coming w b near_turn turn units (booked u.session step d) =
    ap (λ awaits. steps (sent u) (routed limit awaits byte t.near.station) t) hears_it
    ∙ byte_there limit byte w b near_turn far_turn units d u in
    let later = bytes_there limit bytes w b near_turn turn units (booked u.session step d) u hears_it in
    record {
      far_turn = later.far_turn;
      is = ap (λ v. comes limit (sent u) bytes v) first ∙ later.is;
    }

-- the unit has left the line
gone_there :
    (limit : ℕ) (bytes : List ℕ) (w : World) (b : Beside) (near_turn far_turn : Turn) (u : Travelling)
    (units : List Travelling)
    → awaits_reply b.far_sender.phase ≡ false
    → IsOver (settled units (hears limit u.session bytes (computer_state_of w)) w) b
    (turned (left_line (sent u) (comes limit (sent u) bytes
    (record (turned (over w b near_turn far_turn)) { inward = map sent units }))))
gone_there limit bytes w b near_turn far_turn u units hears_it =
    let before : coming w b near_turn far_turn units (computer_state_of w)
    ≡ record (turned (over w b near_turn far_turn)) { inward = map sent units } =
    ap (λ rs. record (turned (over w b near_turn far_turn)) { inward = map sent units; outward = map answered rs })
    (none_caused w.to_drop w.replies) in
    let come = bytes_there limit bytes w b near_turn far_turn units (computer_state_of w) u hears_it in
    record {
      near_turn = near_turn;
      far_turn = come.far_turn;
      is =
          ap (λ (v : TwoWay). turned (left_line (sent u) (comes limit (sent u) bytes v))) (sym before)
          ∙ ap (λ (v : TwoWay). turned (left_line (sent u) v)) come.is;
    }
  where
    none_caused : (to_drop : ℕ) (replies : List ℕ) → replies_with to_drop [] replies ≡ replies
    none_caused zero replies = append-nil replies
    none_caused (suc n) replies = refl

over_refl : (w : World) (b : Beside) (near_turn far_turn : Turn) → IsOver w b (over w b near_turn far_turn)
over_refl w b near_turn far_turn = record { near_turn = near_turn; far_turn = far_turn; is = refl }

pub delivered_there :
    (limit : ℕ) (w : World) (b : Beside) (near_turn far_turn : Turn) → IsSilent b
    → IsOver (delivered limit w.units w) b
    (after_line_event limit (at_computer arrive) (over w b near_turn far_turn))
delivered_there limit w b near_turn far_turn silent = go w.units refl
  where
    go : (units : List Travelling) → w.units ≡ units
        → IsOver (delivered limit units w) b
        (turned (arrives limit (map sent units) (turned (over w b near_turn far_turn))))
    go [] e = over_refl w b near_turn far_turn
    go (u ∷ us) e = gone_there limit (load_bytes u.load) w b near_turn far_turn u us silent.hears_all

pub damaged_there :
    (limit : ℕ) (bytes : List ℕ) (w : World) (b : Beside) (near_turn far_turn : Turn) → IsSilent b
    → IsOver (damaged limit bytes w.units w) b
    (after_line_event limit (at_computer (damage bytes)) (over w b near_turn far_turn))
damaged_there limit bytes w b near_turn far_turn silent = go w.units
  where
    by : (is_it : Bool) (u : Travelling) (us : List Travelling)
        → IsOver (if is_it then settled us (hears limit u.session bytes (computer_state_of w)) w else w) b
        (turned (if is_it then
        left_line (sent u) (comes limit (sent u) bytes
        (record (turned (over w b near_turn far_turn)) { inward = map sent us }))
        else turned (over w b near_turn far_turn)))
    by true u us = gone_there limit bytes w b near_turn far_turn u us silent.hears_all
    by false u us = over_refl w b near_turn far_turn

    go : (units : List Travelling)
        → IsOver (damaged limit bytes units w) b
        (turned (damaged_in limit bytes (map sent units) (turned (over w b near_turn far_turn))))
    go [] = over_refl w b near_turn far_turn
    go (u ∷ us) =
        subst (λ awaits. IsOver (damaged limit bytes (u ∷ us) w) b
        (turned (if is_noise limit awaits (sent u) bytes w.receiver then
        left_line (sent u) (comes limit (sent u) bytes
        (record (turned (over w b near_turn far_turn)) { inward = map sent us }))
        else turned (over w b near_turn far_turn)))) (sym silent.hears_all)
        (by (is_noticed u.load (signals_after limit w.receiver.past bytes)) u us)

pub room_there : (room : Bool) (w : World) (b : Beside) (t : TwoWay) → IsOver w b t
    → IsOver (room_at room w) b (turned (room_near room (turned t)))
room_there room w b t h = record {
  near_turn = h.near_turn;
  far_turn = h.far_turn;
  is = ap (λ (v : TwoWay). turned (room_near room (turned v))) h.is;
}

pub no_room_there :
    (limit : ℕ) (w : World) (b : Beside) (near_turn far_turn : Turn) → IsSilent b
    → IsOver (room_at true (delivered limit w.units (room_at false w))) b
    (after_line_event limit (at_computer arrive_without_room) (over w b near_turn far_turn))
no_room_there limit w b near_turn far_turn silent =
    room_there true (delivered limit w.units (room_at false w)) b
    (turned (arrives limit (map sent w.units) (room_near false (turned (over w b near_turn far_turn)))))
    (delivered_there limit (room_at false w) b near_turn far_turn silent)

-- ---- a reply comes back

emitted_here :
    {limit : ℕ} (emit : EmitOf limit) (w : World) (b : Beside) (near_turn far_turn : Turn)
    → emitted_out emit (over w b near_turn far_turn) ≡ over (emitted emit w) b near_turn far_turn
emitted_here Emits.Enq w b near_turn far_turn =
    ap (λ out. record (over w b near_turn far_turn) { outward = out }) (sym (map_push sent w.units _))
emitted_here Emits.Eot w b near_turn far_turn =
    ap (λ out. record (over w b near_turn far_turn) { outward = out }) (sym (map_push sent w.units _))
emitted_here (Emits.Frame frame) w b near_turn far_turn =
    ap (λ out. record
    (over (record w { sessions = changed w.current (sends_frame frame) w.sessions }) b near_turn far_turn)
    { outward = out }) (sym (map_push sent w.units _))
emitted_here _ w b near_turn far_turn = refl

not_eot : (phase : Phase) (c : ℕ) → c ≢ EOT → given_reply phase c ≡ c
not_eot Phases.AwaitReply c apart = rw (ne_eqb c EOT apart) refl
not_eot _ c apart = refl

reply_taken :
    (limit c : ℕ) (replies : List ℕ) (item : Item) (w : World) (b : Beside) (near_turn far_turn : Turn)
    → c ≢ EOT
    → IsOver (sender_steps {limit = limit} (on_reply c w.sender) (record w { replies = replies })) b
    (steps item (routed limit true c (over w b near_turn far_turn).near.station)
    (record (over w b near_turn far_turn) { inward = map answered replies }))
reply_taken limit c replies item w b near_turn far_turn apart =
    let t : TwoWay = record (over w b near_turn far_turn) { inward = map answered replies } in
    let step = on_reply {limit = limit} c w.sender in
    let turn : Turn = turn_after_reply w.sender.phase c near_turn in
    record {
      near_turn = turn;
      far_turn = far_turn;
      is =
          ap (λ given. sender_went {limit = limit} (on_reply given w.sender)
          (record t.near.station { sender = (on_reply {limit = limit} given w.sender).after; turn = turn }) t)
          (not_eot w.sender.phase c apart)
          ∙ emitted_here step.emit (with_sender step.after (record w { replies = replies })) b turn far_turn;
    }

reply_here :
    (limit c : ℕ) (replies : List ℕ) (item : Item) (w : World) (b : Beside) (near_turn far_turn : Turn)
    → awaits_reply w.sender.phase ≡ true
    → c ≢ EOT
    → IsOver (sender_steps {limit = limit} (on_reply c w.sender) (record w { replies = replies })) b
    (comes limit item (c ∷ []) (record (over w b near_turn far_turn) { inward = map answered replies }))
reply_here limit c replies item w b near_turn far_turn awaits apart =
    subst (λ is_it. IsOver (sender_steps {limit = limit} (on_reply c w.sender) (record w { replies = replies })) b
    (steps item (routed limit is_it c (over w b near_turn far_turn).near.station)
    (record (over w b near_turn far_turn) { inward = map answered replies }))) (sym awaits)
    (reply_taken limit c replies item w b near_turn far_turn apart)

-- a reply is awaited, if there is one
abbrev pub IsAwaited : World → Type 0
IsAwaited w = (c : ℕ) (replies : List ℕ) → w.replies ≡ c ∷ replies → awaits_reply w.sender.phase ≡ true

pub replied_here :
    (limit : ℕ) (w : World) (b : Beside) (near_turn far_turn : Turn) → IsAwaited w → NoEot w.replies
    → IsOver (replied limit w.replies w) b (after_line_event limit (at_analyzer arrive) (over w b near_turn far_turn))
replied_here limit w b near_turn far_turn awaited no_eot = go w.replies refl no_eot
  where
    go : (replies : List ℕ) → w.replies ≡ replies → NoEot replies
        → IsOver (replied limit replies w) b
        (arrives limit (map answered replies) (over w b near_turn far_turn))
    go [] e none = over_refl w b near_turn far_turn
    go (c ∷ cs) e none =
        reply_here limit c cs (answered c) w b near_turn far_turn (awaited c cs e) none.0

-- another byte in the place of a reply, which is neither ACK nor EOT
pub reply_damaged_here :
    (limit c : ℕ) (w : World) (b : Beside) (near_turn far_turn : Turn) → IsAwaited w → c ≢ ACK → c ≢ EOT
    → IsOver (reply_damaged limit c w.replies w) b
    (after_line_event limit (at_analyzer (damage (c ∷ []))) (over w b near_turn far_turn))
reply_damaged_here limit c w b near_turn far_turn awaited not_ack apart = go w.replies refl
  where
    go : (replies : List ℕ) → w.replies ≡ replies
        → IsOver (reply_damaged limit c replies w) b
        (damaged_in limit (c ∷ []) (map answered replies) (over w b near_turn far_turn))
    go [] e = over_refl w b near_turn far_turn
    go (r ∷ rs) e =
        rw (awaited r rs e, ne_eqb c ACK not_ack, ne_eqb c EOT apart)
        (reply_taken limit c rs (answered r) w b near_turn far_turn apart)

-- ---- rounds

some_reply : (c : ℕ) (cs : List ℕ) → c ∷ cs ≡ [] → ⊥
some_reply c cs e = cc

-- in a world of the law a reply is awaited, if there is one
awaited_of : (limit : ℕ) (w : World) → Holds limit w → IsAwaited w
awaited_of limit w h c replies e = go w.sender.phase h.phase
  where
    go : (phase : Phase) → InPhase phase w → awaits_reply phase ≡ true
    go Phases.Neutral resting = absurd (some_reply c replies (sym e ∙ resting.no_reply))
    go Phases.AwaitLine requesting = refl
    go Phases.Busy waiting = absurd (some_reply c replies (sym e ∙ waiting.no_reply))
    go Phases.Contention waiting = absurd (some_reply c replies (sym e ∙ waiting.no_reply))
    go Phases.AwaitReply awaiting = refl

-- at most one unit is on the line, and none where a reply is
exclusive_of : (limit : ℕ) (w : World) → Holds limit w → (w.replies ≡ []) ⊎ (w.units ≡ [])
exclusive_of limit w h = go w.sender.phase h.phase
  where
    go : (phase : Phase) → InPhase phase w → (w.replies ≡ []) ⊎ (w.units ≡ [])
    go Phases.Neutral resting = inl resting.no_reply
    go Phases.AwaitLine requesting = elim requesting.traffic [ inl quiet ↦ inl quiet.0 | inr come ↦ inr come.0 ]
    go Phases.Busy waiting = inl waiting.no_reply
    go Phases.Contention waiting = inl waiting.no_reply
    go Phases.AwaitReply awaiting = elim awaiting.traffic [ inl quiet ↦ inl quiet.1 | inr come ↦ inr come.0 ]

emitted_few : {limit : ℕ} (emit : EmitOf limit) (w : World)
    → length (emitted emit w).units ≤ length w.units + 1
emitted_few Emits.Enq w = omega (arith, length_push w.units (record { session = w.current; load = enquiry }))
emitted_few Emits.Eot w = omega (arith, length_push w.units (record { session = w.current; load = ending }))
emitted_few (Emits.Frame frame) w =
    omega (arith, length_push w.units (record { session = w.current; load = one_frame frame }))
emitted_few _ w = omega arith

replied_few : (limit : ℕ) (replies : List ℕ) (w : World)
    → length (replied limit replies w).units ≤ length w.units + 1
replied_few limit [] w = omega arith
replied_few limit (c ∷ cs) w =
    emitted_few (on_reply {limit = limit} c w.sender).emit
    (with_sender (on_reply {limit = limit} c w.sender).after (record w { replies = cs }))

reply_damaged_few : (limit c : ℕ) (replies : List ℕ) (w : World)
    → length (reply_damaged limit c replies w).units ≤ length w.units + 1
reply_damaged_few limit c [] w = omega arith
reply_damaged_few limit c (r ∷ rs) w =
    cond_both (c == ACK || c == EOT) w
    (sender_steps {limit = limit} (on_reply c w.sender) (record w { replies = rs }))
    (λ (v : World). length v.units ≤ length w.units + 1) (λ ignored. omega arith)
    (λ taken. emitted_few (on_reply {limit = limit} c w.sender).emit
    (with_sender (on_reply {limit = limit} c w.sender).after (record w { replies = rs })))

abbrev IsFew : World → Type 0
IsFew w = length w.units ≤ 1

delivered_none : (limit : ℕ) (w : World) → IsFew w → (delivered limit w.units w).units ≡ []
delivered_none limit w few = go w.units refl few
  where
    go : (units : List Travelling) → w.units ≡ units → length units ≤ 1 → (delivered limit units w).units ≡ []
    go [] e k = e
    go (u ∷ []) e k = refl
    go (u ∷ v ∷ us) e k = absurd (omega (arith, k))

delivered_few : (limit : ℕ) (units : List Travelling) (w : World) → length w.units ≤ 1 → length units ≤ 1
    → IsFew (delivered limit units w)
delivered_few limit [] w few k = few
delivered_few limit (u ∷ us) w few k = omega (arith, k)

damaged_few : (limit : ℕ) (bytes : List ℕ) (units : List Travelling) (w : World) → length w.units ≤ 1
    → length units ≤ 1
    → IsFew (damaged limit bytes units w)
damaged_few limit bytes [] w few k = few
damaged_few limit bytes (u ∷ us) w few k =
    cond_both (is_noticed u.load (signals_after limit w.receiver.past bytes))
    (settled us (hears limit u.session bytes (computer_state_of w)) w) w IsFew (λ noticed. omega (arith, k))
    (λ ignored. few)

replied_keeps_few : (limit : ℕ) (w : World) → Holds limit w → IsFew w → IsFew (replied limit w.replies w)
replied_keeps_few limit w h few = elim (exclusive_of limit w h) [
  | inl none ↦ subst (λ rs. IsFew (replied limit rs w)) (sym none) few
  | inr none ↦ omega (arith, replied_few limit w.replies w, ap length none)
]

reply_damaged_keeps_few : (limit c : ℕ) (w : World) → Holds limit w → IsFew w
    → IsFew (reply_damaged limit c w.replies w)
reply_damaged_keeps_few limit c w h few = elim (exclusive_of limit w h) [
  | inl none ↦ subst (λ rs. IsFew (reply_damaged limit c rs w)) (sym none) few
  | inr none ↦ omega (arith, reply_damaged_few limit c w.replies w, ap length none)
]

-- the line is that of a world of the law
pub record Carries (limit : ℕ) (w : World) (b : Beside) (t : TwoWay) : Type 0 where
  pub over_it : IsOver w b t
  pub holds : Holds limit w
  pub no_eot : NoEot w.replies
  pub few : length w.units ≤ 1

delivered_no_eot : (limit : ℕ) (units : List Travelling) (w : World) → NoEot w.replies
    → NoEot (delivered limit units w).replies
delivered_no_eot limit [] w h = h
delivered_no_eot limit (u ∷ us) w h =
    replies_no_eot w.to_drop _ w.replies (hears_no_eot limit u.session (load_bytes u.load) (computer_state_of w) tt) h

damaged_no_eot : (limit : ℕ) (bytes : List ℕ) (units : List Travelling) (w : World) → NoEot w.replies
    → NoEot (damaged limit bytes units w).replies
damaged_no_eot limit bytes [] w h = h
damaged_no_eot limit bytes (u ∷ us) w h =
    cond_both (is_noticed u.load (signals_after limit w.receiver.past bytes))
    (settled us (hears limit u.session bytes (computer_state_of w)) w) w (λ (v : World). NoEot v.replies)
    (λ noticed. replies_no_eot w.to_drop _ w.replies (hears_no_eot limit u.session bytes (computer_state_of w) tt) h)
    (λ ignored. h)

emitted_replies : {limit : ℕ} (emit : EmitOf limit) (w : World) → (emitted emit w).replies ≡ w.replies
emitted_replies Emits.Enq w = refl
emitted_replies Emits.Eot w = refl
emitted_replies (Emits.Frame frame) w = refl
emitted_replies _ w = refl

replied_no_eot : (limit : ℕ) (replies : List ℕ) (w : World) → NoEot w.replies → NoEot replies
    → NoEot (replied limit replies w).replies
replied_no_eot limit [] w h k = h
replied_no_eot limit (c ∷ cs) w h k =
    let step = on_reply {limit = limit} c w.sender in
    subst NoEot (sym (emitted_replies step.emit (with_sender step.after (record w { replies = cs })))) k.1

reply_damaged_no_eot : (limit c : ℕ) (replies : List ℕ) (w : World) → NoEot w.replies → NoEot replies
    → NoEot (reply_damaged limit c replies w).replies
reply_damaged_no_eot limit c [] w h k = h
reply_damaged_no_eot limit c (r ∷ rs) w h k =
    let step = on_reply {limit = limit} c w.sender in
    cond_both (c == ACK || c == EOT) w (sender_steps {limit = limit} step (record w { replies = rs }))
    (λ (v : World). NoEot v.replies) (λ ignored. h)
    (λ taken. subst NoEot (sym (emitted_replies step.emit (with_sender step.after (record w { replies = rs })))) k.1)

-- what happens there
carried_there :
    (limit : ℕ) (event : Event) (line : LineEvent) (w : World) (b : Beside) (t : TwoWay) → IsLimit limit
    → Carries limit w b t
    → ((near_turn far_turn : Turn) → IsOver (after_event limit event w) b
    (after_line_event limit line (over w b near_turn far_turn)))
    → NoEot (after_event limit event w).replies
    → IsFew (after_event limit event w)
    → Carries limit (after_event limit event w) b (after_line_event limit line t)
carried_there limit event line w b t is_limit h goes_on no_eot few = record {
  over_it =
      subst (λ (v : TwoWay). IsOver (after_event limit event w) b (after_line_event limit line v)) (sym h.over_it.is)
      (goes_on h.over_it.near_turn h.over_it.far_turn);
  holds = event_holds limit event w is_limit h.holds;
  no_eot = no_eot;
  few = few;
}

deliver_carries : (limit : ℕ) (w : World) (b : Beside) (t : TwoWay) → IsLimit limit → IsSilent b → Carries limit w b t
    → Carries limit (after_event limit Deliver w) b (after_line_event limit (at_computer arrive) t)
deliver_carries limit w b t is_limit silent h =
    carried_there limit Deliver (at_computer arrive) w b t is_limit h
    (λ near_turn far_turn. delivered_there limit w b near_turn far_turn silent)
    (delivered_no_eot limit w.units w h.no_eot) (delivered_few limit w.units w h.few h.few)

reply_carries : (limit : ℕ) (w : World) (b : Beside) (t : TwoWay) → IsLimit limit → Carries limit w b t
    → Carries limit (after_event limit Reply w) b (after_line_event limit (at_analyzer arrive) t)
reply_carries limit w b t is_limit h =
    carried_there limit Reply (at_analyzer arrive) w b t is_limit h
    (λ near_turn far_turn. replied_here limit w b near_turn far_turn (awaited_of limit w h.holds) h.no_eot)
    (replied_no_eot limit w.replies w h.no_eot h.no_eot) (replied_keeps_few limit w h.holds h.few)

-- events of the line, in order
abbrev pub line_runs : ℕ → List LineEvent → TwoWay → TwoWay
line_runs limit events t = fold (λ v event. after_line_event limit event v) t events

pub line_runs-append : (limit : ℕ) (xs ys : List LineEvent) (t : TwoWay)
    → line_runs limit (xs ++ ys) t ≡ line_runs limit ys (line_runs limit xs t)
line_runs-append limit [] ys t = refl
line_runs-append limit (x ∷ xs) ys t = line_runs-append limit xs ys (after_line_event limit x t)

abbrev on_line : Round → List LineEvent
on_line round = round_on_line at_analyzer at_computer round

round_carries :
    (limit : ℕ) (round : Round) (w : World) (b : Beside) (t : TwoWay) → IsLimit limit → IsSilent b
    → IsNoticed limit round → Carries limit w b t
    → Carries limit (runs limit (round_events round) w) b (line_runs limit (on_line round) t)
round_carries limit undisturbed w b t is_limit silent noticed h =
    reply_carries limit _ b _ is_limit (deliver_carries limit w b t is_limit silent h)
round_carries limit without_room w b t is_limit silent noticed h =
    reply_carries limit _ b _ is_limit
    (carried_there limit DeliverNoRoom (at_computer arrive_without_room) w b t is_limit h
    (λ near_turn far_turn. no_room_there limit w b near_turn far_turn silent)
    (delivered_no_eot limit w.units (room_at false w) h.no_eot)
    (delivered_few limit w.units (room_at false w) h.few h.few))
round_carries limit (bad_frame body) w b t is_limit silent noticed h =
    let bytes : List ℕ = STX ∷ (body ++ LF ∷ []) in
    reply_carries limit _ b _ is_limit
    (carried_there limit (Damage bytes) (at_computer (damage bytes)) w b t is_limit h
    (λ near_turn far_turn. damaged_there limit bytes w b near_turn far_turn silent)
    (damaged_no_eot limit bytes w.units w h.no_eot) (damaged_few limit bytes w.units w h.few h.few))
round_carries limit (bad_reply c) w b t is_limit silent noticed h =
    let there = deliver_carries limit w b t is_limit silent h in
    let v : World = after_event limit Deliver w in
    carried_there limit (DamageReply c) (at_analyzer (damage (c ∷ []))) v b _ is_limit there
    (λ near_turn far_turn.
    reply_damaged_here limit c v b near_turn far_turn (awaited_of limit v there.holds) noticed.0 noticed.1)
    (reply_damaged_no_eot limit c v.replies v there.no_eot there.no_eot)
    (reply_damaged_keeps_few limit c v there.holds there.few)

rounds_carry :
    (limit : ℕ) (rounds : List Round) (w : World) (b : Beside) (t : TwoWay) → IsLimit limit → IsSilent b
    → All (IsNoticed limit) rounds → Carries limit w b t
    → Carries limit (runs limit (flat_map round_events rounds) w) b (line_runs limit (flat_map on_line rounds) t)
rounds_carry limit [] w b t is_limit silent noticed h = h
rounds_carry limit (round ∷ rounds) w b t is_limit silent noticed h =
    let first = round_carries limit round w b t is_limit silent (All-head (IsNoticed limit) round rounds noticed) h in
    let later =
    rounds_carry limit rounds _ b _ is_limit silent (All-tail (IsNoticed limit) round rounds noticed) first in
    subst (λ (v : World). Carries limit v b (line_runs limit (flat_map on_line (round ∷ rounds)) t))
    (sym (runs-append limit (round_events round) (flat_map round_events rounds) w))
    (subst (λ (v : TwoWay).
    Carries limit (runs limit (flat_map round_events rounds) (runs limit (round_events round) w)) b v)
    (sym (line_runs-append limit (on_line round) (flat_map on_line rounds) t)) later)

-- the session that has begun goes on as in one direction, and leaves no unit on the line
abbrev pub session_rest : List Round → List Event
session_rest rounds = Deliver ∷ Reply ∷ (flat_map round_events rounds ++ Deliver ∷ [])

pub record IsOverThere (limit : ℕ) (w : World) (b : Beside) (t : TwoWay) : Type 0 where
  pub carries : Carries limit w b t
  pub no_units : w.units ≡ []

pub session_carries :
    (limit : ℕ) (rounds : List Round) (w : World) (b : Beside) (t : TwoWay) → IsLimit limit → IsSilent b
    → All (IsNoticed limit) rounds → Carries limit w b t
    → IsOverThere limit (runs limit (session_rest rounds) w) b
    (line_runs limit (carrying at_analyzer at_computer rounds) t)
session_carries limit rounds w b t is_limit silent noticed h =
    let begun = reply_carries limit _ b _ is_limit (deliver_carries limit w b t is_limit silent h) in
    let v : World = runs limit (Deliver ∷ Reply ∷ []) w in
    let u : TwoWay = line_runs limit (at_computer arrive ∷ at_analyzer arrive ∷ []) t in
    let went = rounds_carry limit rounds v b u is_limit silent noticed begun in
    let last : World = runs limit (flat_map round_events rounds) v in
    let over_now : IsOverThere limit (after_event limit Deliver last) b
    (after_line_event limit (at_computer arrive) (line_runs limit (flat_map on_line rounds) u)) = record {
      carries = deliver_carries limit last b (line_runs limit (flat_map on_line rounds) u) is_limit silent went;
      no_units = delivered_none limit last went.few;
    } in
    subst (λ (x : World). IsOverThere limit x b (line_runs limit (carrying at_analyzer at_computer rounds) t))
    (sym (runs-append limit (flat_map round_events rounds) (Deliver ∷ []) v))
    (subst (λ (x : TwoWay). IsOverThere limit (after_event limit Deliver last) b x)
    (sym (line_runs-append limit (flat_map on_line rounds) (at_computer arrive ∷ []) u)) over_now)
