-- What the receiver here hears is of no account to the direction from here to there, but for its replies, which are no
-- units.
use Rattle.std.proofs.Common.{◌≡◌, ℕ, zero, suc, ◌-◌, ◌≤◌, Bool, false, List, [], ◌∷◌, ◌++◌, length, take, drop}
use Rattle.std.proofs.Common.{Option, None, Some, refl, sym, ap, ◌∙◌, subst}
use Rattle.std.proofs.lemmas.List.{append-nil}
use Rattle.lis_link.specs.declared.receiver.Note.{Note}
use Rattle.lis_link.specs.declared.receiver.Note.TheVariants.{Opened, Accepted}
use Rattle.lis_link.specs.Receiver.{ReceiverStep, on_byte}
use Rattle.lis_link.specs.Sender.{SenderState}
use Rattle.lis_world.specs.Session.{Session}
use Rattle.lis_world.proofs.Invariant.{Holds}
use Rattle.lis_station.specs.declared.station.Turn.{Turn}
use Rattle.lis_station.specs.Station.{StationStep, awaits_reply, asking, heard, routed}
use Rattle.lis_station.specs.Line.{Item, sent, answered, TwoWay, units_of, with_station, goes_out, noted, reply_out}
use Rattle.lis_station.specs.Line.{receiver_went, steps, comes}
use Rattle.lis_station.proofs.Shadow.{shadow, dropped_in, NoEnquiry, IsDeaf, HoldsOut}
use Rattle.lis_station.proofs.Directions.{units_of-append, order_map}
use Rattle.lis_station.proofs.NearEvents.{but_sender, station_out}

-- the session that owns the line here, and the other side's sessions, are of no account
opened_out : (limit : ℕ) (t : TwoWay) (opened : ℕ) → HoldsOut limit t
    → HoldsOut limit (record t { near = record t.near { opened = opened } })
opened_out limit t opened h = record {
  lost = h.lost;
  lost_within = h.lost_within;
  holds = h.holds;
  lost_unheard = h.lost_unheard;
  lost_frames = h.lost_frames;
  in_order = h.in_order;
  can_ask = h.can_ask;
}

sessions_out : (limit : ℕ) (t : TwoWay) (sessions : List Session) → HoldsOut limit t
    → HoldsOut limit (record t { far = record t.far { sessions = sessions } })
sessions_out limit t sessions h = record {
  lost = h.lost;
  lost_within = h.lost_within;
  holds = h.holds;
  lost_unheard = h.lost_unheard;
  lost_frames = h.lost_frames;
  in_order = h.in_order;
  can_ask = h.can_ask;
}

noted_out : (limit : ℕ) (item : Item) (step : ReceiverStep) (note : Note) (t : TwoWay) → HoldsOut limit t
    → HoldsOut limit (noted item step note t)
noted_out limit (sent unit) step Opened t h = opened_out limit t unit.session h
noted_out limit (sent unit) step (Accepted n) t h = sessions_out limit t _ h
noted_out limit (answered b) step (Accepted n) t h = sessions_out limit t _ h
noted_out limit (sent unit) step _ t h = h
noted_out limit (answered b) step _ t h = h

-- a reply of the receiver here goes out
answer_out : (limit : ℕ) (b : ℕ) (t : TwoWay) → HoldsOut limit t → HoldsOut limit (goes_out (answered b) t)
answer_out limit b t h =
    let same : units_of (t.outward ++ answered b ∷ []) ≡ units_of t.outward =
    units_of-append t.outward (answered b ∷ []) ∙ append-nil (units_of t.outward) in
    record {
      lost = h.lost;
      lost_within = subst (λ us. h.lost ≤ length us) (sym same) h.lost_within;
      holds = subst (λ us. Holds limit (record (shadow h.lost t) {
        units = drop h.lost us;
        to_drop = dropped_in t.near.station.sender.phase (t.near.to_drop - h.lost) (drop h.lost us);
      })) (sym same) h.holds;
      lost_unheard = h.lost_unheard;
      lost_frames = subst (λ us. NoEnquiry limit (take h.lost us)) (sym same) h.lost_frames;
      in_order = order_map t.near.station.sender.phase (IsDeaf limit t) (IsDeaf limit (goes_out (answered b) t))
          (λ deaf. (deaf.0, subst (NoEnquiry limit) (sym same) deaf.1)) t.inward h.in_order;
      can_ask = h.can_ask;
    }

reply_holds : (limit : ℕ) (to_drop : ℕ) (reply : Option ℕ) (t : TwoWay) → HoldsOut limit t
    → HoldsOut limit (reply_out to_drop reply t)
reply_holds limit zero (Some b) t h = answer_out limit b t h
reply_holds limit zero None t h = h
reply_holds limit (suc to_drop) reply t h = h

pub heard_out :
    (limit : ℕ) (item : Item) (step : ReceiverStep) (turn : Turn) (asks : Bool) (t : TwoWay)
    → HoldsOut limit t
    → HoldsOut limit (receiver_went item step (but_sender step.after turn asks t.near.station) t)
heard_out limit item step turn asks t h =
    reply_holds limit t.far.to_drop step.reply _
    (noted_out limit item step step.note
    (record t { near = with_station (but_sender step.after turn asks t.near.station) t.near })
    (station_out limit t step.after turn asks h))

-- nor does it change the sender
noted_sender : (item : Item) (step : ReceiverStep) (note : Note) (t : TwoWay)
    → (noted item step note t).near.station.sender ≡ t.near.station.sender
noted_sender (sent unit) step Opened t = refl
noted_sender (sent unit) step (Accepted n) t = refl
noted_sender (answered b) step (Accepted n) t = refl
noted_sender (sent unit) step _ t = refl
noted_sender (answered b) step _ t = refl

reply_sender : (to_drop : ℕ) (reply : Option ℕ) (t : TwoWay)
    → (reply_out to_drop reply t).near.station.sender ≡ t.near.station.sender
reply_sender zero (Some b) t = refl
reply_sender zero None t = refl
reply_sender (suc to_drop) reply t = refl

pub heard_sender :
    (item : Item) (step : ReceiverStep) (turn : Turn) (asks : Bool) (t : TwoWay)
    → (receiver_went item step (but_sender step.after turn asks t.near.station) t).near.station.sender
    ≡ t.near.station.sender
heard_sender item step turn asks t =
    reply_sender t.far.to_drop step.reply _
    ∙ noted_sender item step step.note
    (record t { near = with_station (but_sender step.after turn asks t.near.station) t.near })

-- bytes that come while no reply is awaited
pub comes_out :
    (limit : ℕ) (item : Item) (bytes : List ℕ) (t : TwoWay)
    → awaits_reply t.near.station.sender.phase ≡ false
    → HoldsOut limit t
    → HoldsOut limit (comes limit item bytes t)
comes_out limit item [] t rests h = h
comes_out limit item (b ∷ bytes) t rests h =
    let made : StationStep limit = heard {limit = limit} (on_byte limit b t.near.station.receiver) t.near.station in
    let step : ReceiverStep = asking t.near.station.asks_turn (on_byte limit b t.near.station.receiver) in
    subst (λ a. HoldsOut limit (comes limit item bytes (steps item (routed limit a b t.near.station) t))) (sym rests)
    (comes_out limit item bytes (steps item made t)
    (ap (λ (s : SenderState). awaits_reply s.phase)
    (heard_sender item step made.after.turn made.after.asks_turn t) ∙ rests)
    (heard_out limit item step made.after.turn made.after.asks_turn t h))
