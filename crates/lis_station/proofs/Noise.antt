-- Bytes come while a reply is awaited: nobody's units are heard here. The direction towards here goes on as if its unit
-- were lost.
use Rattle.std.proofs.Common.{◌≡◌, ℕ, zero, suc, Bool, true, false, List, [], ◌∷◌, Option}
use Rattle.std.proofs.Common.{None, Some, refl, sym, ap, ◌∙◌, subst}
use Rattle.std.specs.Prelude.{◌==◌, cond}
use Rattle.std.proofs.lemmas.Bool.{cond_both, or_parts, eqb-false, ne_eqb}
use Rattle.std.proofs.lemmas.List.{append-nil}
use Rattle.lis_text.specs.Control.{ENQ, EOT, LF}
use Rattle.lis_frame.specs.declared.frame.FrameFault.{FrameFault}
use Rattle.lis_frame.specs.FrameBody.{body_fault}
use Rattle.lis_frame.specs.declared.scanner.SignalOf.{SignalOf}
use Rattle.lis_frame.specs.declared.scanner.SignalOf.TheVariants.{Enq, Eot, Good, Bad}
use Rattle.lis_frame.specs.Limit.{IsLimit}
use Rattle.lis_frame.specs.Stream.{signal_after, signal_of_fault, ended_body, open_body}
use Rattle.lis_link.specs.declared.receiver.Note.TheVariants.{Quiet}
use Rattle.lis_link.specs.declared.sender.EmitOf.{EmitOf}
use Rattle.lis_link.specs.declared.sender.EmitOf.TheVariants as Emits
use Rattle.lis_link.specs.Receiver.{ReceiverState, answers, on_byte, heard as receiver_heard, heard_by}
use Rattle.lis_world.specs.Unit.{enquiry, ending, one_frame, Travelling}
use Rattle.lis_world.specs.Session.{changed, sends_frame}
use Rattle.lis_world.specs.World.{lowered}
use Rattle.lis_world.proofs.Arrival.{left_unheard}
use Rattle.lis_station.specs.Station.{StationState, awaits_reply, reply_step, heard, replied, routed}
use Rattle.lis_station.specs.Station.{on_station_byte}
use Rattle.lis_station.specs.Line.{Item, sent, answered, End, TwoWay, turned, followed_by, with_station, emitted_out}
use Rattle.lis_station.specs.Line.{reply_out, steps, comes, has_byte, left_line}
use Rattle.lis_station.proofs.Shadow.{HoldsOut}
use Rattle.lis_station.proofs.FarUnits.{unit_in, far_sender_out}
use Rattle.lis_station.proofs.NearEvents.{far_receiver_out}
use Rattle.lis_station.proofs.Reached.{with_replies, side_here}
use Rattle.lis_station.proofs.Arrived.{unit_left}

-- a byte other than ENQ means nothing to a receiver whose line is closed
abbrev IsQuiet : {limit : ℕ} → Option (SignalOf limit) → Type 0
IsQuiet None = Unit {0}
IsQuiet (Some Enq) = ⊥
IsQuiet (Some Eot) = Unit {0}
IsQuiet (Some (Good f)) = Unit {0}
IsQuiet (Some (Bad fault)) = Unit {0}

body_quiet : (limit : ℕ) (body : List ℕ) (fault : Option FrameFault)
    → IsQuiet {limit = limit} (Some (signal_of_fault body fault))
body_quiet limit body None = tt
body_quiet limit body (Some fault) = tt

ended_quiet : (limit : ℕ) (inner : Option (List ℕ)) → IsQuiet (ended_body limit inner)
ended_quiet limit None = tt
ended_quiet limit (Some body) = body_quiet limit body (body_fault limit body)

byte_quiet : (limit : ℕ) (past : List ℕ) (b : ℕ) → (ENQ == b) ≡ false → IsQuiet (signal_after limit past b)
unfolding signal_after
byte_quiet limit past b other =
    let differs : (b == ENQ) ≡ false = ne_eqb b ENQ (λ same. eqb-false ENQ b other (sym same)) in
    let line_feed : Option (SignalOf limit) = cond (b == LF) (ended_body limit (open_body past)) None in
    let end : Option (SignalOf limit) = cond (b == EOT) (Some Eot) line_feed in
    subst (λ t. IsQuiet (cond t (Some Enq) end)) (sym differs)
    (cond_both (b == EOT) (Some Eot) line_feed (λ s. IsQuiet {limit = limit} s) (λ e. tt)
    (λ e. cond_both (b == LF) (ended_body limit (open_body past)) None (λ s. IsQuiet {limit = limit} s)
    (λ e. ended_quiet limit (open_body past)) (λ e. tt)))

signal_quiet : {limit : ℕ} (signal : Option (SignalOf limit)) (r : ReceiverState) → r.is_open ≡ false
    → IsQuiet signal
    → receiver_heard signal r ≡ answers None Quiet r
signal_quiet None r shut quiet = refl
signal_quiet (Some Enq) r shut quiet = absurd quiet
signal_quiet {limit} (Some Eot) r shut quiet = ap (λ o. heard_by {limit = limit} o Eot r) shut
signal_quiet {limit} (Some (Good f)) r shut quiet = ap (λ o. heard_by {limit = limit} o (Good f) r) shut
signal_quiet {limit} (Some (Bad fault)) r shut quiet = ap (λ o. heard_by {limit = limit} o (Bad fault) r) shut

abbrev pub heard_past : ℕ → ReceiverState → ReceiverState
heard_past b r = record r { past = b ∷ r.past }

pub quiet_byte : (limit b : ℕ) (r : ReceiverState) → r.is_open ≡ false → (ENQ == b) ≡ false
    → on_byte limit b r ≡ answers None Quiet (heard_past b r)
quiet_byte limit b r shut other =
    signal_quiet (signal_after limit r.past b) (heard_past b r) shut (byte_quiet limit r.past b other)

pub no_reply_out : (to_drop : ℕ) (t : TwoWay) → reply_out to_drop None t ≡ t
no_reply_out zero t = refl
no_reply_out (suc to_drop) t = refl

abbrev pub pasted : ℕ → StationState → StationState
pasted b s = record s { receiver = heard_past b s.receiver }

pub quiet_step :
    (limit b : ℕ) (item : Item) (t : TwoWay)
    → t.near.station.receiver.is_open ≡ false
    → (ENQ == b) ≡ false
    → steps item (heard {limit = limit} (on_byte limit b t.near.station.receiver) t.near.station) t
    ≡ record t { near = with_station (pasted b t.near.station) t.near }
quiet_step limit b item t shut other =
    ap (λ step. steps item (heard {limit = limit} step t.near.station) t)
    (quiet_byte limit b t.near.station.receiver shut other) ∙ go item
  where
    after : TwoWay
    after = record t { near = with_station (pasted b t.near.station) t.near }

    go :
        (item : Item)
        → steps item (heard {limit = limit}
        (answers None Quiet (heard_past b t.near.station.receiver)) t.near.station) t
        ≡ after
    go (sent u) = no_reply_out t.far.to_drop after
    go (answered c) = no_reply_out t.far.to_drop after

-- ---- the direction towards here, while its receiver's line is closed

abbrev pub settle : ℕ → TwoWay → TwoWay
settle m t = record t { far = record t.far { to_drop = m } }

pub record Stays (limit m : ℕ) (t0 t : TwoWay) : Type 0 where
  pub back : HoldsOut limit (turned (settle m t))
  pub shut : t.near.station.receiver.is_open ≡ false
  pub far_same : t.far ≡ t0.far

module _ (limit : ℕ) (is_limit : IsLimit limit) (m : ℕ) (t0 : TwoWay) where
  -- the sender here makes a step
  pub sender_stays :
      (emit : EmitOf limit) (after : StationState) (t : TwoWay)
      → after.receiver ≡ t.near.station.receiver
      → Stays limit m t0 t
      → Stays limit m t0 (emitted_out emit (record t { near = followed_by after t.near }))
  sender_stays Emits.Nothing after t same h = record {
    back = far_sender_out limit (turned (settle m t)) (followed_by after t.near) same refl h.back;
    shut = ap (λ (r : ReceiverState). r.is_open) same ∙ h.shut;
    far_same = h.far_same;
  }
  sender_stays Emits.Nak after t same h = record {
    back = far_sender_out limit (turned (settle m t)) (followed_by after t.near) same refl h.back;
    shut = ap (λ (r : ReceiverState). r.is_open) same ∙ h.shut;
    far_same = h.far_same;
  }
  sender_stays Emits.Enq after t same h =
      let shut = ap (λ (r : ReceiverState). r.is_open) same ∙ h.shut in
      record {
        back = unit_in limit is_limit _
            (far_sender_out limit (turned (settle m t)) (followed_by after t.near) same refl h.back) shut
            (record { session = t.near.current; load = enquiry });
        shut = shut;
        far_same = h.far_same;
      }
  sender_stays Emits.Eot after t same h =
      let shut = ap (λ (r : ReceiverState). r.is_open) same ∙ h.shut in
      record {
        back = unit_in limit is_limit _
            (far_sender_out limit (turned (settle m t)) (followed_by after t.near) same refl h.back) shut
            (record { session = t.near.current; load = ending });
        shut = shut;
        far_same = h.far_same;
      }
  sender_stays (Emits.Frame frame) after t same h =
      let shut = ap (λ (r : ReceiverState). r.is_open) same ∙ h.shut in
      let e : End = record (followed_by after t.near) {
        sessions = changed t.near.current (sends_frame frame) (followed_by after t.near).sessions;
      } in
      record {
        back = unit_in limit is_limit _ (far_sender_out limit (turned (settle m t)) e same refl h.back) shut
            (record { session = t.near.current; load = one_frame frame });
        shut = shut;
        far_same = h.far_same;
      }

  replied_stays : (item : Item) (b : ℕ) (t : TwoWay) → Stays limit m t0 t
      → Stays limit m t0 (steps item (replied {limit = limit} b t.near.station) t)
  replied_stays item b t h =
      sender_stays (reply_step {limit = limit} b t.near.station.sender).emit
      (replied {limit = limit} b t.near.station).after t refl h

  quiet_stays : (b : ℕ) (t : TwoWay) → Stays limit m t0 t
      → Stays limit m t0 (record t { near = with_station (pasted b t.near.station) t.near })
  quiet_stays b t h = record {
    back = far_receiver_out limit (turned (settle m t)) (heard_past b t.near.station.receiver) t.near.station.turn
        t.near.station.asks_turn (λ e. e) refl h.back;
    shut = h.shut;
    far_same = h.far_same;
  }

  byte_stays :
      (item : Item) (b : ℕ) (t : TwoWay) (awaits : Bool)
      → (ENQ == b) ≡ false
      → Stays limit m t0 t
      → Stays limit m t0 (steps item (routed limit awaits b t.near.station) t)
  byte_stays item b t true other h = replied_stays item b t h
  byte_stays item b t false other h =
      subst (Stays limit m t0) (sym (quiet_step limit b item t h.shut other)) (quiet_stays b t h)

  bytes_stay : (item : Item) (bytes : List ℕ) (t : TwoWay) → has_byte ENQ bytes ≡ false → Stays limit m t0 t
      → Stays limit m t0 (comes limit item bytes t)
  bytes_stay item [] t none h = h
  bytes_stay item (b ∷ bytes) t none h =
      let parts = or_parts (ENQ == b) (has_byte ENQ bytes) none in
      bytes_stay item bytes (steps item (on_station_byte limit b t.near.station) t) parts.1
      (byte_stays item b t (awaits_reply t.near.station.sender.phase) parts.0 h)

  -- the first byte is a reply, whatever it is
  pub noise_stays :
      (item : Item) (b : ℕ) (bytes : List ℕ) (t : TwoWay)
      → awaits_reply t.near.station.sender.phase ≡ true
      → has_byte ENQ bytes ≡ false
      → Stays limit m t0 t
      → Stays limit m t0 (comes limit item (b ∷ bytes) t)
  noise_stays item b bytes t awaits none h =
      bytes_stay item bytes (steps item (on_station_byte limit b t.near.station) t) none
      (subst (λ a. Stays limit m t0 (steps item (routed limit a b t.near.station) t)) (sym awaits)
      (replied_stays item b t h))

-- ---- what leaves the line

-- a unit leaves the line towards here unheard
module _ (limit : ℕ) (u : Travelling) (items : List Item) (t : TwoWay) where
  nothing_with : (to_drop : ℕ) → with_replies to_drop [] t.outward ≡ t.outward
  nothing_with zero = append-nil t.outward
  nothing_with (suc to_drop) = refl

  pub unit_gone : HoldsOut limit (turned (record t { inward = sent u ∷ items }))
      → HoldsOut limit (turned (settle (lowered t.far.to_drop) (record t { inward = items })))
  unit_gone h =
      subst (λ out. HoldsOut limit (record (turned (settle (lowered t.far.to_drop) (record t { inward = items })))
      { inward = out })) (nothing_with t.far.to_drop)
      (unit_left limit u items t (side_here t) t.near.station [] refl tt
      (λ shut is_frame. (t.near.station.receiver.past, refl)) h
      (λ side leads. left_unheard limit u.session u.load t.near.station.receiver.past (side_here t) side))

-- a reply is no unit
pub answer_gone : (limit b : ℕ) (items : List Item) (t : TwoWay)
    → HoldsOut limit (turned (record t { inward = answered b ∷ items }))
    → HoldsOut limit (turned (record t { inward = items }))
answer_gone limit b items t h = record {
  lost = h.lost;
  lost_within = h.lost_within;
  holds = h.holds;
  lost_unheard = h.lost_unheard;
  lost_frames = h.lost_frames;
  in_order = h.in_order;
  can_ask = h.can_ask;
}

-- ---- bytes in the place of an item

module _ (limit : ℕ) (is_limit : IsLimit limit) (items : List Item) (t : TwoWay) (b : ℕ) (bytes : List ℕ)
    (awaits : awaits_reply t.near.station.sender.phase ≡ true) (none : has_byte ENQ bytes ≡ false)
    (shut : t.near.station.receiver.is_open ≡ false) where
  abbrev t0 : TwoWay
  t0 = record t { inward = items }

  pub unit_noise_back :
      (u : Travelling)
      → HoldsOut limit (turned (record t { inward = sent u ∷ items }))
      → HoldsOut limit (turned (left_line (sent u) (comes limit (sent u) (b ∷ bytes) t0)))
  unit_noise_back u h =
      let m : ℕ = lowered t.far.to_drop in
      let over : Stays limit m t0 (comes limit (sent u) (b ∷ bytes) t0) =
      noise_stays limit is_limit m t0 (sent u) b bytes t0 awaits none
      (record { back = unit_gone limit u items t h; shut = shut; far_same = refl }) in
      subst (λ n. HoldsOut limit (turned (settle n (comes limit (sent u) (b ∷ bytes) t0))))
      (ap (λ (e : End). lowered e.to_drop) (sym over.far_same)) over.back

  pub answer_noise_back :
      (c : ℕ)
      → HoldsOut limit (turned (record t { inward = answered c ∷ items }))
      → HoldsOut limit (turned (comes limit (answered c) (b ∷ bytes) t0))
  answer_noise_back c h =
      let m : ℕ = t.far.to_drop in
      let over : Stays limit m t0 (comes limit (answered c) (b ∷ bytes) t0) =
      noise_stays limit is_limit m t0 (answered c) b bytes t0 awaits none
      (record { back = answer_gone limit c items t h; shut = shut; far_same = refl }) in
      subst (λ n. HoldsOut limit (turned (settle n (comes limit (answered c) (b ∷ bytes) t0))))
      (ap (λ (e : End). e.to_drop) (sym over.far_same)) over.back
