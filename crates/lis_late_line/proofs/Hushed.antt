-- The line as its two stations hear it: a deaf station hears none of the replies on their way to it, and no unit that
-- it has sent is answered. Bytes do the same to that line as to the one that answers late.
use Rattle.std.proofs.Common.{◌≡◌, ℕ, zero, suc, Bool, true, false, List, [], ◌∷◌, ◌++◌, length, map, Option, None}
use Rattle.std.proofs.Common.{Some, refl, sym, ap, ◌∙◌, subst}
use Rattle.lis_link.specs.declared.receiver.Note.{Note}
use Rattle.lis_link.specs.declared.receiver.Note.TheVariants.{Opened, Accepted}
use Rattle.lis_link.specs.declared.sender.EmitOf.{EmitOf}
use Rattle.lis_link.specs.declared.sender.EmitOf.TheVariants as Emits
use Rattle.lis_link.specs.Sender.{SenderState, SenderStep}
use Rattle.lis_link.specs.Receiver.{ReceiverStep, on_byte}
use Rattle.lis_world.specs.Unit.{Load, enquiry, ending, one_frame, Travelling}
use Rattle.lis_world.specs.Session.{changed, sends_frame}
use Rattle.lis_station.specs.Station.{StationState, awaits_reply, asking, heard, replied, routed, on_station_byte}
use Rattle.lis_station.specs.Station.{reply_step}
use Rattle.lis_station.specs.Line.{Item, sent, answered, TwoWay, units_of, with_station, followed_by, put_out}
use Rattle.lis_station.specs.Line.{emitted_out, sender_went, noted, reply_out, receiver_went, steps, comes}
use Rattle.lis_station.proofs.Directions.{units_again}

-- the items that a station hears
abbrev pub kept : Bool → List Item → List Item
kept true items = map sent (units_of items)
kept false items = items

-- how many units, from the front on, are not answered
abbrev pub dropped : Bool → List Travelling → ℕ
dropped true units = length units
dropped false units = 0

-- by whether the near end is deaf, and the far one; with these counts
abbrev pub heard_as : Bool → Bool → ℕ → ℕ → TwoWay → TwoWay
heard_as dn df nt ft t = record {
  near = record t.near { to_drop = nt };
  far = record t.far { to_drop = ft };
  outward = kept df t.outward;
  inward = kept dn t.inward;
}

abbrev pub hushed : Bool → Bool → TwoWay → TwoWay
hushed dn df t = heard_as dn df (dropped dn (units_of t.outward)) (dropped df (units_of t.inward)) t

-- ---- lists of items

units_then : (items : List Item) (u : Travelling)
    → map sent (units_of (items ++ sent u ∷ [])) ≡ map sent (units_of items) ++ sent u ∷ []
units_then [] u = refl
units_then (sent v ∷ items) u = ap (λ xs. sent v ∷ xs) (units_then items u)
units_then (answered b ∷ items) u = units_then items u

pub units_with_answer : (items : List Item) (b : ℕ) → units_of (items ++ answered b ∷ []) ≡ units_of items
units_with_answer [] b = refl
units_with_answer (sent v ∷ items) b = ap (λ us. v ∷ us) (units_with_answer items b)
units_with_answer (answered c ∷ items) b = units_with_answer items b

kept_unit : (d : Bool) (items : List Item) (u : Travelling)
    → kept d (items ++ sent u ∷ []) ≡ kept d items ++ sent u ∷ []
kept_unit true items u = units_then items u
kept_unit false items u = refl

pub kept_front : (d : Bool) (items : List Item) (u : Travelling) → kept d (sent u ∷ items) ≡ sent u ∷ kept d items
kept_front true items u = refl
kept_front false items u = refl

pub units_kept : (d : Bool) (items : List Item) → units_of (kept d items) ≡ units_of items
units_kept true items = units_again (units_of items)
units_kept false items = refl

-- ---- the sender's steps

module _ (dn df : Bool) (nt ft : ℕ) where
  pub put_as : (load : Load) (t : TwoWay)
      → put_out load (heard_as dn df nt ft t) ≡ heard_as dn df nt ft (put_out load t)
  put_as load t =
      ap (λ out. record (heard_as dn df nt ft t) { outward = out })
      (sym (kept_unit df t.outward (record { session = t.near.current; load = load })))

  pub emitted_as : {limit : ℕ} (emit : EmitOf limit) (t : TwoWay)
      → emitted_out emit (heard_as dn df nt ft t) ≡ heard_as dn df nt ft (emitted_out emit t)
  emitted_as Emits.Nothing t = refl
  emitted_as Emits.Enq t = put_as enquiry t
  emitted_as Emits.Eot t = put_as ending t
  emitted_as Emits.Nak t = refl
  emitted_as (Emits.Frame frame) t = put_as (one_frame frame)
      (record t { near = record t.near { sessions = changed t.near.current (sends_frame frame) t.near.sessions } })

  pub sender_as : {limit : ℕ} (step : SenderStep limit) (after : StationState) (t : TwoWay)
      → sender_went step after (heard_as dn df nt ft t) ≡ heard_as dn df nt ft (sender_went step after t)
  sender_as step after t = emitted_as step.emit (record t { near = followed_by after t.near })

  noted_as : (item : Item) (step : ReceiverStep) (note : Note) (t : TwoWay)
      → noted item step note (heard_as dn df nt ft t) ≡ heard_as dn df nt ft (noted item step note t)
  noted_as (sent u) step Opened t = refl
  noted_as (sent u) step (Accepted n) t = refl
  noted_as (answered b) step (Accepted n) t = refl
  noted_as (sent u) step _ t = refl
  noted_as (answered b) step _ t = refl

-- ---- the receiver's steps

-- a deaf station's units are not answered, the other one's are
abbrev pub Silent : Bool → ℕ → Type 0
Silent true zero = ⊥
Silent true (suc n) = Unit {0}
Silent false zero = Unit {0}
Silent false (suc n) = ⊥

silent_reply : (dn df : Bool) (nt ft : ℕ) (reply : Option ℕ) (t : TwoWay) → Silent df ft
    → reply_out ft reply (heard_as dn df nt ft t) ≡ heard_as dn df nt ft (reply_out zero reply t)
silent_reply dn true nt zero reply t silent = absurd silent
silent_reply dn true nt (suc n) None t silent = refl
silent_reply dn true nt (suc n) (Some b) t silent =
    ap (λ us. record (heard_as dn true nt (suc n) t) { outward = map sent us }) (sym (units_with_answer t.outward b))
silent_reply dn false nt zero None t silent = refl
silent_reply dn false nt zero (Some b) t silent = refl
silent_reply dn false nt (suc n) reply t silent = absurd silent

module _ (dn df : Bool) (nt ft : ℕ) (silent : Silent df ft) (item : Item) where
  receiver_as : (step : ReceiverStep) (after : StationState) (t : TwoWay) → t.far.to_drop ≡ 0
      → receiver_went item step after (heard_as dn df nt ft t) ≡ heard_as dn df nt ft (receiver_went item step after t)
  receiver_as step after t none_dropped =
      let t1 : TwoWay = record t { near = with_station after t.near } in
      let t2 : TwoWay = noted item step step.note t1 in
      ap (reply_out ft step.reply) (noted_as dn df nt ft item step step.note t1)
      ∙ silent_reply dn df nt ft step.reply t2 silent
      ∙ ap (λ n. heard_as dn df nt ft (reply_out n step.reply t2)) (sym none_dropped)

  routed_as : (limit : ℕ) (awaits : Bool) (b : ℕ) (t : TwoWay) → t.far.to_drop ≡ 0
      → steps item (routed limit awaits b t.near.station) (heard_as dn df nt ft t)
      ≡ heard_as dn df nt ft (steps item (routed limit awaits b t.near.station) t)
  routed_as limit true b t none_dropped =
      sender_as dn df nt ft (reply_step {limit = limit} b t.near.station.sender)
      (replied {limit = limit} b t.near.station).after t
  routed_as limit false b t none_dropped =
      let step : ReceiverStep = on_byte limit b t.near.station.receiver in
      receiver_as (asking t.near.station.asks_turn step) (heard {limit = limit} step t.near.station).after t
      none_dropped

-- ---- what a step leaves

-- the counts of both ends
pub record SameDrops (t0 t : TwoWay) : Type 0 where
  pub near_drop : t.near.to_drop ≡ t0.near.to_drop
  pub far_drop : t.far.to_drop ≡ t0.far.to_drop

pub emitted_drops : {limit : ℕ} (emit : EmitOf limit) (t : TwoWay) → SameDrops t (emitted_out emit t)
emitted_drops Emits.Nothing t = record { near_drop = refl; far_drop = refl }
emitted_drops Emits.Enq t = record { near_drop = refl; far_drop = refl }
emitted_drops Emits.Eot t = record { near_drop = refl; far_drop = refl }
emitted_drops Emits.Nak t = record { near_drop = refl; far_drop = refl }
emitted_drops (Emits.Frame frame) t = record { near_drop = refl; far_drop = refl }

noted_drops : (item : Item) (step : ReceiverStep) (note : Note) (t : TwoWay) → SameDrops t (noted item step note t)
noted_drops (sent u) step Opened t = record { near_drop = refl; far_drop = refl }
noted_drops (sent u) step (Accepted n) t = record { near_drop = refl; far_drop = refl }
noted_drops (answered b) step (Accepted n) t = record { near_drop = refl; far_drop = refl }
noted_drops (sent u) step _ t = record { near_drop = refl; far_drop = refl }
noted_drops (answered b) step _ t = record { near_drop = refl; far_drop = refl }

reply_drops : (n : ℕ) (reply : Option ℕ) (t : TwoWay) → SameDrops t (reply_out n reply t)
reply_drops zero (Some b) t = record { near_drop = refl; far_drop = refl }
reply_drops zero None t = record { near_drop = refl; far_drop = refl }
reply_drops (suc n) reply t = record { near_drop = refl; far_drop = refl }

drops_then : (t0 t1 t2 : TwoWay) → SameDrops t0 t1 → SameDrops t1 t2 → SameDrops t0 t2
drops_then t0 t1 t2 h k = record {
  near_drop = k.near_drop ∙ h.near_drop;
  far_drop = k.far_drop ∙ h.far_drop;
}

routed_drops : (limit : ℕ) (item : Item) (awaits : Bool) (b : ℕ) (t : TwoWay)
    → SameDrops t (steps item (routed limit awaits b t.near.station) t)
routed_drops limit item true b t =
    let after : StationState = (replied {limit = limit} b t.near.station).after in
    let t1 : TwoWay = record t { near = followed_by after t.near } in
    let later = emitted_drops (reply_step {limit = limit} b t.near.station.sender).emit t1 in
    record { near_drop = later.near_drop; far_drop = later.far_drop }
routed_drops limit item false b t =
    let raw : ReceiverStep = on_byte limit b t.near.station.receiver in
    let step : ReceiverStep = asking t.near.station.asks_turn raw in
    let t1 : TwoWay = record t { near = with_station (heard {limit = limit} raw t.near.station).after t.near } in
    let t2 : TwoWay = noted item step step.note t1 in
    let first = noted_drops item step step.note t1 in
    drops_then t t2 (reply_out t.far.to_drop step.reply t2)
    (record { near_drop = first.near_drop; far_drop = first.far_drop })
    (reply_drops t.far.to_drop step.reply t2)

-- ---- bytes, on both lines

-- x is the line as its stations hear it
pub record IsAs (dn df : Bool) (nt ft : ℕ) (x t : TwoWay) : Type 0 where
  pub is : x ≡ heard_as dn df nt ft t
  pub near_drops_none : t.near.to_drop ≡ 0
  pub far_drops_none : t.far.to_drop ≡ 0

module _ (dn df : Bool) (nt ft : ℕ) (silent : Silent df ft) (limit : ℕ) (item : Item) where
  byte_as : (b : ℕ) (x t : TwoWay) → IsAs dn df nt ft x t
      → IsAs dn df nt ft (steps item (on_station_byte limit b x.near.station) x)
      (steps item (on_station_byte limit b t.near.station) t)
  byte_as b x t h =
      let awaits : Bool = awaits_reply t.near.station.sender.phase in
      let left = routed_drops limit item awaits b t in
      record {
        is = ap (λ (y : TwoWay). steps item (on_station_byte limit b y.near.station) y) h.is
            ∙ routed_as dn df nt ft silent item limit awaits b t h.far_drops_none;
        near_drops_none = left.near_drop ∙ h.near_drops_none;
        far_drops_none = left.far_drop ∙ h.far_drops_none;
      }

  pub comes_as : (bytes : List ℕ) (x t : TwoWay) → IsAs dn df nt ft x t
      → IsAs dn df nt ft (comes limit item bytes x) (comes limit item bytes t)
  comes_as [] x t h = h
  comes_as (b ∷ bytes) x t h =
      comes_as bytes (steps item (on_station_byte limit b x.near.station) x)
      (steps item (on_station_byte limit b t.near.station) t) (byte_as b x t h)

-- the counts after one byte for the sender
pub reply_as : (dn df : Bool) (nt ft limit b : ℕ) (item : Item) (t : TwoWay)
    → awaits_reply t.near.station.sender.phase ≡ true
    → t.near.to_drop ≡ 0
    → t.far.to_drop ≡ 0
    → IsAs dn df nt ft (comes limit item (b ∷ []) (heard_as dn df nt ft t)) (comes limit item (b ∷ []) t)
reply_as dn df nt ft limit b item t awaits near_drops_none far_drops_none =
    let left = routed_drops limit item (awaits_reply t.near.station.sender.phase) b t in
    record {
      is = ap (λ a. steps item (routed limit a b t.near.station) (heard_as dn df nt ft t)) awaits
          ∙ sender_as dn df nt ft (reply_step {limit = limit} b t.near.station.sender)
          (replied {limit = limit} b t.near.station).after t
          ∙ ap (λ a. heard_as dn df nt ft (steps item (routed limit a b t.near.station) t)) (sym awaits);
      near_drops_none = left.near_drop ∙ near_drops_none;
      far_drops_none = left.far_drop ∙ far_drops_none;
    }

-- ---- bytes while no reply is awaited

-- the sender stays as it is, and so do the units that it has sent, and all that is there
pub record StaysAtRest (t0 t : TwoWay) : Type 0 where
  pub sender_same : t.near.station.sender ≡ t0.near.station.sender
  pub units_same : units_of t.outward ≡ units_of t0.outward
  pub inward_same : t.inward ≡ t0.inward
  pub far_same : t.far.station ≡ t0.far.station

rests_then : (t0 t1 t2 : TwoWay) → StaysAtRest t0 t1 → StaysAtRest t1 t2 → StaysAtRest t0 t2
rests_then t0 t1 t2 h k = record {
  sender_same = k.sender_same ∙ h.sender_same;
  units_same = k.units_same ∙ h.units_same;
  inward_same = k.inward_same ∙ h.inward_same;
  far_same = k.far_same ∙ h.far_same;
}

-- as it does where this end's station alone changes, and its sender doesn't
stays : (t : TwoWay) → StaysAtRest t t
stays t = record { sender_same = refl; units_same = refl; inward_same = refl; far_same = refl }

noted_at_rest : (item : Item) (step : ReceiverStep) (note : Note) (t : TwoWay)
    → StaysAtRest t (noted item step note t)
noted_at_rest (sent u) step Opened t =
    record { sender_same = refl; units_same = refl; inward_same = refl; far_same = refl }
noted_at_rest (sent u) step (Accepted n) t =
    record { sender_same = refl; units_same = refl; inward_same = refl; far_same = refl }
noted_at_rest (answered b) step (Accepted n) t =
    record { sender_same = refl; units_same = refl; inward_same = refl; far_same = refl }
noted_at_rest (sent u) step _ t = stays t
noted_at_rest (answered b) step _ t = stays t

reply_at_rest : (n : ℕ) (reply : Option ℕ) (t : TwoWay) → StaysAtRest t (reply_out n reply t)
reply_at_rest zero (Some b) t =
    record { sender_same = refl; units_same = units_with_answer t.outward b; inward_same = refl; far_same = refl }
reply_at_rest zero None t = stays t
reply_at_rest (suc n) reply t = stays t

pub heard_at_rest : (limit : ℕ) (item : Item) (raw : ReceiverStep) (t : TwoWay)
    → StaysAtRest t (steps item (heard {limit = limit} raw t.near.station) t)
heard_at_rest limit item raw t =
    let step : ReceiverStep = asking t.near.station.asks_turn raw in
    let t1 : TwoWay = record t { near = with_station (heard {limit = limit} raw t.near.station).after t.near } in
    let t2 : TwoWay = noted item step step.note t1 in
    let booked : StaysAtRest t1 t2 = noted_at_rest item step step.note t1 in
    rests_then t t2 (reply_out t.far.to_drop step.reply t2)
    (record {
      sender_same = booked.sender_same;
      units_same = booked.units_same;
      inward_same = booked.inward_same;
      far_same = booked.far_same;
    })
    (reply_at_rest t.far.to_drop step.reply t2)

pub comes_at_rest : (limit : ℕ) (item : Item) (bytes : List ℕ) (t : TwoWay)
    → awaits_reply t.near.station.sender.phase ≡ false
    → StaysAtRest t (comes limit item bytes t)
comes_at_rest limit item [] t rests = stays t
comes_at_rest limit item (b ∷ bytes) t rests =
    let raw : ReceiverStep = on_byte limit b t.near.station.receiver in
    let t1 : TwoWay = steps item (heard {limit = limit} raw t.near.station) t in
    let first : StaysAtRest t t1 = heard_at_rest limit item raw t in
    let others : StaysAtRest t1 (comes limit item bytes t1) =
    comes_at_rest limit item bytes t1 (ap (λ (s : SenderState). awaits_reply s.phase) first.sender_same ∙ rests) in
    subst (λ a. StaysAtRest t (comes limit item bytes (steps item (routed limit a b t.near.station) t))) (sym rests)
    (rests_then t t1 (comes limit item bytes t1) first others)
