-- Both directions, and what each station keeps besides: it awaits no reply while its receiver is open, its receiver
-- never asks for the line, and what it answers is neither ENQ nor LF.
use Rattle.std.proofs.Common.{◌≡◌, ℕ, zero, suc, Bool, true, false, List, [], ◌∷◌, ◌++◌, map, Option, None, Some}
use Rattle.std.proofs.Common.{take, drop, refl, sym, subst}
use Rattle.std.specs.Prelude.{◌==◌, cond}
use Rattle.std.proofs.lemmas.Bool.{cond_both}
use Rattle.lis_text.specs.Control.{ENQ, EOT, LF, ACK, STX}
use Rattle.lis_frame.specs.declared.scanner.SignalOf.{SignalOf}
use Rattle.lis_frame.specs.declared.scanner.SignalOf.TheVariants.{Enq, Eot, Good, Bad}
use Rattle.lis_frame.specs.Frame.{FrameContent, IsContent, frame_bytes}
use Rattle.lis_frame.specs.Limit.{IsLimit}
use Rattle.lis_frame.specs.Stream.{signal_after, ended_body, open_body}
use Rattle.lis_link.specs.declared.receiver.Note.{Note}
use Rattle.lis_link.specs.declared.receiver.Note.TheVariants.{Opened, Accepted, Duplicate}
use Rattle.lis_text.specs.declared.readiness.Readiness.{Readiness}
use Rattle.lis_text.specs.declared.readiness.Readiness.TheVariants.{Ready, Busy, Contending}
use Rattle.lis_link.specs.declared.sender.Phase.{Phase}
use Rattle.lis_link.specs.declared.sender.EmitOf.{EmitOf}
use Rattle.lis_link.specs.declared.sender.EmitOf.TheVariants as Emits
use Rattle.lis_link.specs.Receiver.{ReceiverState, ReceiverStep, on_byte, heard as receiver_heard, heard_by, classified}
use Rattle.lis_link.specs.Receiver.{on_classified, answered_request}
use Rattle.lis_world.specs.Unit.{Load, enquiry, ending, one_frame, Travelling, load_bytes}
use Rattle.lis_world.specs.Session.{session_at}
use Rattle.lis_world.specs.World.{World}
use Rattle.lis_world.proofs.Delivery.{leads_of, next_frame}
use Rattle.lis_world.proofs.Invariant.{Leads, Holds}
use Rattle.lis_station.specs.Laws.{IsExclusive}
use Rattle.lis_station.specs.Station.{StationState, awaits_reply, turn_reply, asking, heard, routed}
use Rattle.lis_station.specs.Station.{on_station_byte, reply_step, replied}
use Rattle.lis_station.specs.Line.{Item, sent, answered, TwoWay, turned, followed_by, with_station, emitted_out, noted}
use Rattle.lis_station.specs.Line.{units_of, reply_out, steps, comes, has_byte}
use Rattle.lis_station.proofs.Exclusive.{stays_exclusive}
use Rattle.lis_station.proofs.Shadow.{shadow_in, NoEnquiry, HoldsOut}
use Rattle.lis_station.proofs.Damaged.{EndsAtMost}
use Rattle.lis_station.proofs.UnitBytes.{frame_lacks_ack, frame_lacks_enq}

-- ---- what a receiver answers

abbrev pub IsAnswerByte : ℕ → Type 0
IsAnswerByte b = ((b == ENQ) ≡ false) × ((b == LF) ≡ false)

abbrev pub AllAnswers : List Item → Type 0
AllAnswers [] = Unit {0}
AllAnswers (sent u ∷ items) = AllAnswers items
AllAnswers (answered b ∷ items) = IsAnswerByte b × AllAnswers items

pub answers_joined : (xs ys : List Item) → AllAnswers xs → AllAnswers ys → AllAnswers (xs ++ ys)
answers_joined [] ys h k = k
answers_joined (sent u ∷ xs) ys h k = answers_joined xs ys h k
answers_joined (answered b ∷ xs) ys h k = (h.0, answers_joined xs ys h.1 k)

pub answers_in_units : (us : List Travelling) → AllAnswers (map sent us)
answers_in_units [] = tt
answers_in_units (u ∷ us) = answers_in_units us

pub answer_ends : (limit : ℕ) (past : List ℕ) (b : ℕ) → IsAnswerByte b → EndsAtMost (signal_after limit past b)
unfolding signal_after
answer_ends limit past b is =
    let line_feed : Option (SignalOf limit) = cond (b == LF) (ended_body limit (open_body past)) None in
    let end : Option (SignalOf limit) = cond (b == EOT) (Some Eot) line_feed in
    subst (λ t. EndsAtMost (cond t (Some Enq) end)) (sym is.0)
    (cond_both (b == EOT) (Some Eot) line_feed (λ s. EndsAtMost {limit = limit} s) (λ e. tt)
    (λ e. subst (λ t. EndsAtMost (cond t (ended_body limit (open_body past)) None)) (sym is.1) tt))

abbrev pub NotContending : Readiness → Type 0
NotContending Ready = Unit {0}
NotContending Busy = Unit {0}
NotContending Contending = ⊥

abbrev OptAnswer : Option ℕ → Type 0
OptAnswer None = Unit {0}
OptAnswer (Some b) = IsAnswerByte b

abbrev IsFair : ReceiverStep → Type 0
IsFair step = OptAnswer step.reply × NotContending step.after.readiness

classified_fair : (r : ReceiverState) (frame : FrameContent) (note : Note) → NotContending r.readiness
    → IsFair (on_classified r frame note)
classified_fair r frame (Accepted n) fair = ((refl, refl), fair)
classified_fair r frame (Duplicate n) fair = ((refl, refl), fair)
classified_fair r frame _ fair = ((refl, refl), fair)

request_fair : (r : ReceiverState) (readiness : Readiness) → NotContending readiness → NotContending r.readiness
    → IsFair (answered_request readiness r)
request_fair r Ready asked fair = ((refl, refl), fair)
request_fair r Busy asked fair = ((refl, refl), fair)
request_fair r Contending asked fair = absurd asked

signal_fair : {limit : ℕ} (is_open : Bool) (signal : SignalOf limit) (r : ReceiverState) → NotContending r.readiness
    → IsFair (heard_by is_open signal r)
signal_fair true Enq r fair = request_fair r r.readiness fair fair
signal_fair false Enq r fair = request_fair r r.readiness fair fair
signal_fair true Eot r fair = (tt, fair)
signal_fair false Eot r fair = (tt, fair)
signal_fair true (Good frame) r fair = classified_fair r frame (classified r frame) fair
signal_fair false (Good frame) r fair = (tt, fair)
signal_fair true (Bad fault) r fair = ((refl, refl), fair)
signal_fair false (Bad fault) r fair = (tt, fair)

heard_fair : {limit : ℕ} (signal : Option (SignalOf limit)) (r : ReceiverState) → NotContending r.readiness
    → IsFair (receiver_heard signal r)
heard_fair None r fair = (tt, fair)
heard_fair (Some signal) r fair = signal_fair r.is_open signal r fair

byte_fair : (limit b : ℕ) (r : ReceiverState) → NotContending r.readiness → IsFair (on_byte limit b r)
byte_fair limit b r fair = heard_fair (signal_after limit r.past b) (record r { past = b ∷ r.past }) fair

turn_fair : (note : Note) (asks : Bool) (reply : Option ℕ) → OptAnswer reply → OptAnswer (turn_reply note asks reply)
turn_fair (Accepted n) true reply fair = (refl, refl)
turn_fair (Accepted n) false reply fair = fair
turn_fair _ asks reply fair = fair

-- ---- a station while bytes come

pub record Near (t0 t : TwoWay) : Type 0 where
  pub exclusive : IsExclusive t.near.station
  pub fair : NotContending t.near.station.receiver.readiness
  pub answers : AllAnswers t.outward
  pub far_same : t.far.station ≡ t0.far.station
  pub inward_same : t.inward ≡ t0.inward

pub sender_near :
    {limit : ℕ} (emit : EmitOf limit) (after : StationState) (t0 t : TwoWay)
    → IsExclusive after
    → NotContending after.receiver.readiness
    → Near t0 t
    → Near t0 (emitted_out emit (record t { near = followed_by after t.near }))
sender_near Emits.Nothing after t0 t exclusive fair h = record {
  exclusive = exclusive;
  fair = fair;
  answers = h.answers;
  far_same = h.far_same;
  inward_same = h.inward_same;
}
sender_near Emits.Nak after t0 t exclusive fair h = record {
  exclusive = exclusive;
  fair = fair;
  answers = h.answers;
  far_same = h.far_same;
  inward_same = h.inward_same;
}
sender_near Emits.Enq after t0 t exclusive fair h = record {
  exclusive = exclusive;
  fair = fair;
  answers = answers_joined t.outward (sent (record { session = t.near.current; load = enquiry }) ∷ []) h.answers tt;
  far_same = h.far_same;
  inward_same = h.inward_same;
}
sender_near Emits.Eot after t0 t exclusive fair h = record {
  exclusive = exclusive;
  fair = fair;
  answers = answers_joined t.outward (sent (record { session = t.near.current; load = ending }) ∷ []) h.answers tt;
  far_same = h.far_same;
  inward_same = h.inward_same;
}
sender_near (Emits.Frame f) after t0 t exclusive fair h = record {
  exclusive = exclusive;
  fair = fair;
  answers = answers_joined t.outward (sent (record { session = t.near.current; load = one_frame f }) ∷ []) h.answers tt;
  far_same = h.far_same;
  inward_same = h.inward_same;
}

noted_near : (item : Item) (step : ReceiverStep) (note : Note) (t0 t : TwoWay) → Near t0 t → Near t0
    (noted item step note t)
noted_near (sent unit) step Opened t0 t h = record {
  exclusive = h.exclusive;
  fair = h.fair;
  answers = h.answers;
  far_same = h.far_same;
  inward_same = h.inward_same;
}
noted_near (sent unit) step (Accepted n) t0 t h = record {
  exclusive = h.exclusive;
  fair = h.fair;
  answers = h.answers;
  far_same = h.far_same;
  inward_same = h.inward_same;
}
noted_near (answered b) step (Accepted n) t0 t h = record {
  exclusive = h.exclusive;
  fair = h.fair;
  answers = h.answers;
  far_same = h.far_same;
  inward_same = h.inward_same;
}
noted_near (sent unit) step _ t0 t h = h
noted_near (answered b) step _ t0 t h = h

reply_near : (to_drop : ℕ) (reply : Option ℕ) (t0 t : TwoWay) → OptAnswer reply → Near t0 t
    → Near t0 (reply_out to_drop reply t)
reply_near zero (Some b) t0 t is h = record {
  exclusive = h.exclusive;
  fair = h.fair;
  answers = answers_joined t.outward (answered b ∷ []) h.answers (is, tt);
  far_same = h.far_same;
  inward_same = h.inward_same;
}
reply_near zero None t0 t is h = h
reply_near (suc to_drop) reply t0 t is h = h

station_near : (after : StationState) (t0 t : TwoWay) → IsExclusive after → NotContending after.receiver.readiness
    → Near t0 t
    → Near t0 (record t { near = with_station after t.near })
station_near after t0 t exclusive fair h = record {
  exclusive = exclusive;
  fair = fair;
  answers = h.answers;
  far_same = h.far_same;
  inward_same = h.inward_same;
}

module _ (limit : ℕ) (item : Item) (b : ℕ) (t0 t : TwoWay) (h : Near t0 t) where
  routed_near : (awaits : Bool) → IsExclusive (routed limit awaits b t.near.station).after
      → Near t0 (steps item (routed limit awaits b t.near.station) t)
  routed_near true exclusive =
      sender_near (reply_step {limit = limit} b t.near.station.sender).emit
      (replied {limit = limit} b t.near.station).after
      t0 t exclusive h.fair h
  routed_near false exclusive =
      let step : ReceiverStep = on_byte limit b t.near.station.receiver in
      let after : StationState = (heard {limit = limit} step t.near.station).after in
      let fair = byte_fair limit b t.near.station.receiver h.fair in
      reply_near t.far.to_drop (turn_reply step.note t.near.station.asks_turn step.reply) t0 _
      (turn_fair step.note t.near.station.asks_turn step.reply fair.0)
      (noted_near item (asking t.near.station.asks_turn step) step.note t0
      (record t { near = with_station after t.near }) (station_near after t0 t exclusive fair.1 h))

  byte_near : Near t0 (steps item (on_station_byte limit b t.near.station) t)
  byte_near = routed_near (awaits_reply t.near.station.sender.phase)
      (stays_exclusive.byte limit b t.near.station h.exclusive)

pub comes_near : (limit : ℕ) (item : Item) (bytes : List ℕ) (t0 t : TwoWay) → Near t0 t
    → Near t0 (comes limit item bytes t)
comes_near limit item [] t0 t h = h
comes_near limit item (b ∷ bytes) t0 t h =
    comes_near limit item bytes t0 (steps item (on_station_byte limit b t.near.station) t)
    (byte_near limit item b t0 t h)

-- ---- the bytes of a unit, as noise to a sender

abbrev pub IsLoad : ℕ → Load → Type 0
IsLoad limit enquiry = Unit {0}
IsLoad limit ending = Unit {0}
IsLoad limit (one_frame f) = IsContent limit f

pub record IsNoise (load : Load) : Type 0 where
  pub first : ℕ
  pub others : List ℕ
  pub bytes_are : load_bytes load ≡ first ∷ others
  pub no_ack : (ACK == first) ≡ false
  pub lacks_ack : has_byte ACK (first ∷ others) ≡ false
  pub lacks_enq : has_byte ENQ others ≡ false

load_noise : (limit : ℕ) (load : Load) → IsLoad limit load → IsNoise load
unfolding frame_bytes
load_noise limit enquiry is = record {
  first = ENQ;
  others = [];
  bytes_are = refl;
  no_ack = refl;
  lacks_ack = refl;
  lacks_enq = refl;
}
load_noise limit ending is = record {
  first = EOT;
  others = [];
  bytes_are = refl;
  no_ack = refl;
  lacks_ack = refl;
  lacks_enq = refl;
}
load_noise limit (one_frame f) is = record {
  first = STX;
  others = _;
  bytes_are = refl;
  no_ack = refl;
  lacks_ack = frame_lacks_ack limit f is;
  lacks_enq = frame_lacks_enq limit f is;
}

module _ (limit : ℕ) (is_limit : IsLimit limit) (u : Travelling) (items : List Item) (t : TwoWay) where
  leads_load : (load : Load) (w : World) (is_open : Bool) (owner s : ℕ) → Holds limit w
      → Leads w.sessions is_open owner s load
      → IsLoad limit load
  leads_load enquiry w is_open owner s h leads = tt
  leads_load ending w is_open owner s h leads = tt
  leads_load (one_frame f) w is_open owner s h leads =
      (next_frame limit (session_at s w.sessions) leads.0 f is_limit (h.sound s) leads.1.sent_is).content

  lost_load : (load : Load) (us : List Travelling) → NoEnquiry limit (record { session = u.session; load = load } ∷ us)
      → IsLoad limit load
  lost_load enquiry us h = tt
  lost_load ending us h = tt
  lost_load (one_frame f) us h = h.0

  load_in : (phase : Phase) (lost : ℕ) (us : List Travelling) (x : TwoWay) → Holds limit (shadow_in phase lost x)
      → (shadow_in phase lost x).units ≡ drop lost (u ∷ us)
      → NoEnquiry limit (take lost (u ∷ us))
      → IsLoad limit u.load
  load_in phase zero us x h are frames =
      let w : World = shadow_in phase zero x in
      leads_load u.load w w.receiver.is_open w.opened u.session h (leads_of limit w u us h are)
  load_in phase (suc n) us x h are frames = lost_load u.load (take n us) frames

  pub unit_load : HoldsOut limit (turned (record t { inward = sent u ∷ items })) → IsLoad limit u.load
  unit_load h =
      let x : TwoWay = turned (record t { inward = sent u ∷ items }) in
      load_in x.near.station.sender.phase h.lost (units_of items) x h.holds refl h.lost_frames

  pub unit_noise : HoldsOut limit (turned (record t { inward = sent u ∷ items })) → IsNoise u.load
  unit_noise h = load_noise limit u.load (unit_load h)
