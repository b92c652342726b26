-- Bytes of a unit reach a receiver here: it makes the steps of the one-directional world, and its replies go out, an
-- ACK as EOT if this side asks for its turn.
use Rattle.std.proofs.Common.{◌≡◌, ℕ, zero, suc, ◌⊎◌, inl, inr, Bool, true, false, List, [], ◌∷◌, ◌++◌, map, Option}
use Rattle.std.proofs.Common.{None, Some, refl, sym, ap, ◌∙◌, subst}
use Rattle.std.proofs.lemmas.List.{append-nil, append_assoc}
use Rattle.lis_text.specs.Control.{ACK, EOT}
use Rattle.lis_frame.specs.Frame.{FrameContent}
use Rattle.lis_frame.specs.declared.scanner.SignalOf.{SignalOf}
use Rattle.lis_frame.specs.declared.scanner.SignalOf.TheVariants.{Enq, Eot, Good, Bad}
use Rattle.lis_frame.specs.Stream.{signal_after}
use Rattle.lis_link.specs.declared.receiver.Note.{Note}
use Rattle.lis_link.specs.declared.receiver.Note.TheVariants.{Opened, Accepted}
use Rattle.lis_text.specs.declared.readiness.Readiness.{Readiness}
use Rattle.lis_text.specs.declared.readiness.Readiness.TheVariants.{Ready, Busy, Contending}
use Rattle.lis_link.specs.Receiver.{ReceiverState, ReceiverStep, on_byte, heard as receiver_heard, heard_by, classified}
use Rattle.lis_link.specs.Receiver.{on_classified, answered_request}
use Rattle.lis_link.specs.Sender.{SenderState}
use Rattle.lis_world.specs.Unit.{Travelling}
use Rattle.lis_world.specs.Session.{Session, with_more}
use Rattle.lis_world.specs.World.{ComputerState, after_note, booked, hears}
use Rattle.lis_station.specs.Station.{StationState, StationStep, awaits_reply, turn_reply, asking, heard, routed}
use Rattle.lis_station.specs.Station.{on_station_byte}
use Rattle.lis_station.specs.Line.{Item, sent, answered, TwoWay, noted, reply_out, steps, comes}

-- ---- replies with regard to the turn

-- what goes out for a reply: the same, or EOT in place of ACK
abbrev pub IsAsked : ℕ → ℕ → Type 0
IsAsked out meant = (out ≡ meant) ⊎ ((out ≡ EOT) × (meant ≡ ACK))

abbrev pub AreAsked : List ℕ → List ℕ → Type 0
AreAsked [] [] = Unit {0}
AreAsked [] (c ∷ cs) = ⊥
AreAsked (b ∷ bs) [] = ⊥
AreAsked (b ∷ bs) (c ∷ cs) = IsAsked b c × AreAsked bs cs

asked_push : (xs ys : List ℕ) (b c : ℕ) → AreAsked xs ys → IsAsked b c → AreAsked (xs ++ b ∷ []) (ys ++ c ∷ [])
asked_push [] [] b c h is = (is, tt)
asked_push [] (y ∷ ys) b c h is = absurd h
asked_push (x ∷ xs) [] b c h is = absurd h
asked_push (x ∷ xs) (y ∷ ys) b c h is = (h.0, asked_push xs ys b c h.1 is)

-- an accepted frame is acknowledged
abbrev AcceptsByAck : Note → Option ℕ → Type 0
AcceptsByAck (Accepted n) reply = reply ≡ Some ACK
AcceptsByAck note reply = Unit {0}

classified_acks : (r : ReceiverState) (frame : FrameContent) (note : Note)
    → AcceptsByAck (on_classified r frame note).note (on_classified r frame note).reply
classified_acks r frame (Accepted n) = refl
classified_acks r frame _ = tt

request_acks : (r : ReceiverState) (readiness : Readiness)
    → AcceptsByAck (answered_request readiness r).note (answered_request readiness r).reply
request_acks r Ready = tt
request_acks r Busy = tt
request_acks r Contending = tt

signal_acks : {limit : ℕ} (is_open : Bool) (signal : SignalOf limit) (r : ReceiverState)
    → AcceptsByAck (heard_by is_open signal r).note (heard_by is_open signal r).reply
signal_acks true Enq r = request_acks r r.readiness
signal_acks false Enq r = request_acks r r.readiness
signal_acks true Eot r = tt
signal_acks false Eot r = tt
signal_acks true (Good frame) r = classified_acks r frame (classified r frame)
signal_acks false (Good frame) r = tt
signal_acks true (Bad fault) r = tt
signal_acks false (Bad fault) r = tt

heard_acks : {limit : ℕ} (signal : Option (SignalOf limit)) (r : ReceiverState)
    → AcceptsByAck (receiver_heard signal r).note (receiver_heard signal r).reply
heard_acks None r = tt
heard_acks (Some signal) r = signal_acks r.is_open signal r

byte_acks : (limit b : ℕ) (r : ReceiverState) → AcceptsByAck (on_byte limit b r).note (on_byte limit b r).reply
byte_acks limit b r = heard_acks (signal_after limit r.past b) (record r { past = b ∷ r.past })

asked_same : (xs ys : List ℕ) (reply : Option ℕ) → AreAsked xs ys → AreAsked (with_more xs reply) (with_more ys reply)
asked_same xs ys None h = h
asked_same xs ys (Some b) h = asked_push xs ys b b h (inl refl)

asked_more :
    (xs ys : List ℕ) (note : Note) (asks : Bool) (reply : Option ℕ)
    → AcceptsByAck note reply
    → AreAsked xs ys
    → AreAsked (with_more xs (turn_reply note asks reply)) (with_more ys reply)
asked_more xs ys (Accepted n) true reply acks h =
    subst (λ r. AreAsked (with_more xs (Some EOT)) (with_more ys r)) (sym acks)
    (asked_push xs ys EOT ACK h (inr (refl, refl)))
asked_more xs ys (Accepted n) false reply acks h = asked_same xs ys reply h
asked_more xs ys _ asks reply acks h = asked_same xs ys reply h

-- ---- the world here after some bytes

abbrev pub with_replies : ℕ → List ℕ → List Item → List Item
with_replies zero replies items = items ++ map answered replies
with_replies (suc to_drop) replies items = items

abbrev pub heard_at : ℕ → TwoWay → StationState → ℕ → List Session → List ℕ → TwoWay
heard_at to_drop t s opened sessions replies = record t {
  near = record t.near { station = s; opened = opened };
  far = record t.far { sessions = sessions };
  outward = with_replies to_drop replies t.outward;
}

replies_push : (items : List Item) (replies : List ℕ) (b : ℕ)
    → (items ++ map answered replies) ++ answered b ∷ [] ≡ items ++ map answered (replies ++ b ∷ [])
replies_push items replies b =
    append_assoc items (map answered replies) (answered b ∷ []) ∙ ap (λ xs. items ++ xs) (pushed replies)
  where
    pushed : (bs : List ℕ) → map answered bs ++ answered b ∷ [] ≡ map answered (bs ++ b ∷ [])
    pushed [] = refl
    pushed (c ∷ bs) = ap (λ xs. answered c ∷ xs) (pushed bs)

reply_at :
    (to_drop : ℕ) (reply : Option ℕ) (t : TwoWay) (s : StationState) (opened : ℕ) (sessions : List Session)
    (replies : List ℕ)
    → reply_out to_drop reply (heard_at to_drop t s opened sessions replies)
    ≡ heard_at to_drop t s opened sessions (with_more replies reply)
reply_at zero None t s opened sessions replies = refl
reply_at zero (Some b) t s opened sessions replies =
    ap (λ out. record (heard_at zero t s opened sessions replies) { outward = out }) (replies_push t.outward replies b)
reply_at (suc to_drop) None t s opened sessions replies = refl
reply_at (suc to_drop) (Some b) t s opened sessions replies = refl

noted_at :
    (to_drop : ℕ) (u : Travelling) (asks : Bool) (step : ReceiverStep) (note : Note) (t : TwoWay) (s : StationState)
    (d : ComputerState) (replies : List ℕ)
    → noted (sent u) (asking asks step) note (heard_at to_drop t s d.opened d.sessions replies)
    ≡ heard_at to_drop t s (after_note u.session step note d).opened (after_note u.session step note d).sessions replies
noted_at to_drop u asks step Opened t s d replies = refl
noted_at to_drop u asks step (Accepted n) t s d replies = refl
noted_at to_drop u asks step _ t s d replies = refl

note_receiver : (session : ℕ) (step : ReceiverStep) (note : Note) (d : ComputerState)
    → (after_note session step note d).receiver ≡ d.receiver
note_receiver session step Opened d = refl
note_receiver session step (Accepted n) d = refl
note_receiver session step _ d = refl

note_replies : (session : ℕ) (step : ReceiverStep) (note : Note) (d : ComputerState)
    → (after_note session step note d).replies ≡ d.replies
note_replies session step Opened d = refl
note_replies session step (Accepted n) d = refl
note_replies session step _ d = refl

-- the world t is t0 after the bytes that made the other world's receiving side d
pub record IsHeard (t0 : TwoWay) (d : ComputerState) (t : TwoWay) : Type 0 where
  pub station : StationState
  pub asked : List ℕ
  pub is : t ≡ heard_at t0.far.to_drop t0 station d.opened d.sessions asked
  pub receiver_is : station.receiver ≡ d.receiver
  pub sender_is : station.sender ≡ t0.near.station.sender
  pub are_asked : AreAsked asked d.replies

module _ (limit : ℕ) (u : Travelling) (t0 : TwoWay) (rests : awaits_reply t0.near.station.sender.phase ≡ false) where
  byte_reached :
      (b : ℕ) (d : ComputerState) (t : TwoWay)
      → IsHeard t0 d t
      → IsHeard t0 (booked u.session (on_byte limit b d.receiver) d)
      (steps (sent u) (on_station_byte limit b t.near.station) t)
  byte_reached b d t h =
      let s : StationState = h.station in
      let step : ReceiverStep = on_byte limit b d.receiver in
      let made : StationStep limit = heard step s in
      let reply : Option ℕ = turn_reply step.note s.asks_turn step.reply in
      let to_drop : ℕ = t0.far.to_drop in
      let before : TwoWay = heard_at to_drop t0 s d.opened d.sessions h.asked in
      let d1 : ComputerState = record d { receiver = step.after; replies = with_more d.replies step.reply } in
      let after : ComputerState = after_note u.session step step.note d1 in
      let quiet : awaits_reply s.sender.phase ≡ false =
      ap (λ (x : SenderState). awaits_reply x.phase) h.sender_is ∙ rests in
      let start = ap (λ (x : TwoWay). steps (sent u) (on_station_byte limit b x.near.station) x) h.is in
      let route = ap (λ a. steps (sent u) (routed limit a b s) before) quiet in
      let receiver = ap (λ r. steps (sent u) (heard {limit = limit} (on_byte limit b r) s) before) h.receiver_is in
      let note = ap (reply_out to_drop reply)
      (noted_at to_drop u s.asks_turn step step.note t0 made.after d1 h.asked) in
      let answer = reply_at to_drop reply t0 made.after after.opened after.sessions h.asked in
      record {
        station = made.after;
        asked = with_more h.asked reply;
        is = start ∙ route ∙ receiver ∙ note ∙ answer;
        receiver_is = sym (note_receiver u.session step step.note d1);
        sender_is = h.sender_is;
        are_asked = subst (AreAsked (with_more h.asked reply)) (sym (note_replies u.session step step.note d1))
            (asked_more h.asked d.replies step.note s.asks_turn step.reply (byte_acks limit b d.receiver) h.are_asked);
      }

  pub bytes_reached : (bytes : List ℕ) (d : ComputerState) (t : TwoWay) → IsHeard t0 d t
      → IsHeard t0 (hears limit u.session bytes d) (comes limit (sent u) bytes t)
  bytes_reached [] d t h = h
  bytes_reached (b ∷ bytes) d t h =
      bytes_reached bytes (booked u.session (on_byte limit b d.receiver) d)
      (steps (sent u) (on_station_byte limit b t.near.station) t) (byte_reached b d t h)

-- before the first byte
abbrev pub side_here : TwoWay → ComputerState
side_here t = record {
  receiver = t.near.station.receiver;
  opened = t.near.opened;
  sessions = t.far.sessions;
  replies = [];
}

pub nothing_reached : (t : TwoWay) → IsHeard t (side_here t) t
nothing_reached t = record {
  station = t.near.station;
  asked = [];
  is = ap (λ out. record t { outward = out }) (none t.far.to_drop);
  receiver_is = refl;
  sender_is = refl;
  are_asked = tt;
}
  where
    none : (to_drop : ℕ) → t.outward ≡ with_replies to_drop [] t.outward
    none zero = sym (append-nil t.outward)
    none (suc to_drop) = refl
