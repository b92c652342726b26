-- A byte that is no ACK comes while the reply to ENQ is awaited, whatever it was meant for: the session is put off. In
-- the one-directional world the sender rests from then on, and no reply to its ENQ comes any more.
use Rattle.std.proofs.Common.{◌≡◌, ℕ, List, refl, sym, ap}
use Rattle.std.proofs.Common.{◌∙◌, subst, arith}
use Rattle.lis_link.specs.declared.sender.Phase.{Phase}
use Rattle.lis_link.specs.declared.sender.Phase.TheVariants.{Neutral, AwaitLine, Busy, Contention}
use Rattle.lis_link.specs.Sender.{SenderState, started, bad_texts}
use Rattle.lis_world.specs.Session.{Session, session_at, changed, follows}
use Rattle.lis_world.specs.World.{World}
use Rattle.lis_world.specs.Steps.{forgotten}
use Rattle.lis_world.proofs.SessionLemmas.{length-changed, kept-changed}
use Rattle.lis_world.proofs.Invariant.{Holds}
use Rattle.lis_world.proofs.Base.{base_of, base_forgotten}
use Rattle.lis_world.proofs.Sending.{ended_holds}
use Rattle.lis_world.proofs.Replies.{can_follow}
use Rattle.lis_world.proofs.Timers.{all_dropped}
use Rattle.lis_station.specs.declared.station.Turn.{Turn}
use Rattle.lis_station.specs.Line.{Item, TwoWay, followed_by}
use Rattle.lis_station.proofs.Shadow.{shadow_in, CanAsk, AsksWith, HoldsOut}

module _ (limit : ℕ) (t : TwoWay) (h : HoldsOut limit t) (is : t.near.station.sender.phase ≡ AwaitLine) where
  abbrev waits_in : Phase → SenderState
  waits_in phase = record t.near.station.sender { phase = phase }

  abbrev pub put_off_in : Phase → Turn → List Item → TwoWay
  put_off_in phase turn items = record t {
    near = followed_by (record t.near.station { sender = waits_in phase; turn = turn }) t.near;
    inward = items;
  }

  awaited : Holds limit (shadow_in AwaitLine h.lost t)
  awaited = subst (λ p. Holds limit (shadow_in p h.lost t)) is h.holds

  put_off_rests : (turn : Turn) (items : List Item) → Holds limit (shadow_in Busy h.lost (put_off_in Busy turn items))
  put_off_rests turn items =
      let w : World = shadow_in AwaitLine h.lost t in
      let can = can_follow limit w awaited in
      ended_holds limit (waits_in Neutral) (forgotten w) (base_forgotten limit w (base_of limit w awaited))
      awaited.phase.unsent.0
      (record {
        frames_are = tt;
        acknowledged_of_accepted = can.acknowledged_of_accepted;
        done_acknowledged = can.done_acknowledged;
      })
      refl refl (all_dropped w.units)

  asks_later : (phase : Phase) → AsksWith limit phase (waits_in phase) t.near.current
      (changed t.near.current (follows (waits_in phase)) t.near.sessions)
  asks_later phase =
      let kept : AsksWith limit AwaitLine t.near.station.sender t.near.current t.near.sessions =
      subst (λ p. CanAsk limit p t.near.station.sender t.near.current t.near.sessions) is h.can_ask in
      let same : (session_at t.near.current (changed t.near.current (follows (waits_in phase)) t.near.sessions)).texts
      ≡ (session_at t.near.current t.near.sessions).texts =
      kept-changed (λ (x : Session). x.texts) t.near.current (follows (waits_in phase)) t.near.sessions (λ x. refl)
      t.near.current in
      let as_long = length-changed t.near.current (follows (waits_in phase)) t.near.sessions in
      let within = kept.within in
      let before : List (List ℕ) = (session_at t.near.current t.near.sessions).texts in
      let put : SenderState → SenderState = λ s. record s { phase = phase } in
      let asked : List (List ℕ) → SenderState = λ texts. record (started limit texts) { phase = phase } in
      let one : waits_in phase ≡ asked before = ap put kept.sender_is in
      record {
        sender_is = one ∙ ap asked (sym same);
        not_refused = ap bad_texts same ∙ kept.not_refused;
        within = omega arith;
      }

  pub busy_out : (turn : Turn) (items : List Item) → HoldsOut limit (put_off_in Busy turn items)
  busy_out turn items = record {
    lost = h.lost;
    lost_within = h.lost_within;
    holds = put_off_rests turn items;
    lost_unheard = h.lost_unheard;
    lost_frames = h.lost_frames;
    in_order = tt;
    can_ask = asks_later Busy;
  }

  pub contention_out : (turn : Turn) (items : List Item) → HoldsOut limit (put_off_in Contention turn items)
  contention_out turn items = record {
    lost = h.lost;
    lost_within = h.lost_within;
    holds = put_off_rests turn items;
    lost_unheard = h.lost_unheard;
    lost_frames = h.lost_frames;
    in_order = tt;
    can_ask = asks_later Contention;
  }
