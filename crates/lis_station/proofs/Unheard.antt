-- An item leaves the line here unheard: a reply is lost, or a unit of the other side, which is none of this direction.
use Rattle.std.proofs.Common.{◌≡◌, ℕ, List, [], ◌∷◌, refl, subst}
use Rattle.lis_link.specs.declared.sender.Phase.{Phase}
use Rattle.lis_link.specs.declared.sender.Phase.TheVariants.{Neutral, AwaitLine, Busy, Contention, AwaitReply}
use Rattle.lis_world.specs.Unit.{Travelling}
use Rattle.lis_world.proofs.Invariant.{Holds}
use Rattle.lis_world.proofs.Replies.{reply_lost_holds}
use Rattle.lis_station.specs.Line.{Item, sent, answered, TwoWay}
use Rattle.lis_station.specs.inside.Line.{answers_of}
use Rattle.lis_station.proofs.Shadow.{shadow_in, shadow, heard_replies_in, OnlyUnits, Tail, Ahead, InOrder, IsDeaf}
use Rattle.lis_station.proofs.Shadow.{HoldsOut}

pub ahead_if_units : (quiet : Type 0) (items : List Item) → OnlyUnits items → Ahead quiet items
ahead_if_units quiet [] only = tt
ahead_if_units quiet (sent u ∷ items) only = ahead_if_units quiet items only
ahead_if_units quiet (answered b ∷ items) only = absurd only

pub tail_if_units : (quiet : Type 0) (items : List Item) → quiet → OnlyUnits items → Tail quiet items
tail_if_units quiet [] q only = tt
tail_if_units quiet (sent u ∷ items) q only = (q, only)
tail_if_units quiet (answered b ∷ items) q only = absurd only

pub no_answers_if_units : (items : List Item) → OnlyUnits items → answers_of items ≡ []
no_answers_if_units [] only = refl
no_answers_if_units (sent u ∷ items) only = no_answers_if_units items only
no_answers_if_units (answered b ∷ items) only = absurd only

ahead_of_tail : (quiet : Type 0) (items : List Item) → Tail quiet items → Ahead quiet items
ahead_of_tail quiet [] order = tt
ahead_of_tail quiet (answered b ∷ items) order = order
ahead_of_tail quiet (sent u ∷ items) order = ahead_if_units quiet items order.1

order_without_reply : (phase : Phase) (quiet : Type 0) (b : ℕ) (items : List Item)
    → InOrder phase quiet (answered b ∷ items)
    → InOrder phase quiet items
order_without_reply Neutral quiet b items order = tt
order_without_reply AwaitLine quiet b items order = ahead_of_tail quiet items order
order_without_reply Busy quiet b items order = tt
order_without_reply Contention quiet b items order = tt
order_without_reply AwaitReply quiet b items order = order

order_without_unit : (phase : Phase) (quiet : Type 0) (u : Travelling) (items : List Item)
    → InOrder phase quiet (sent u ∷ items)
    → InOrder phase quiet items
order_without_unit Neutral quiet u items order = tt
order_without_unit AwaitLine quiet u items order = order
order_without_unit Busy quiet u items order = tt
order_without_unit Contention quiet u items order = tt
order_without_unit AwaitReply quiet u items order = tail_if_units quiet items order.0 order.1

replies_without_unit : (phase : Phase) (u : Travelling) (items : List Item)
    → heard_replies_in phase (sent u ∷ items) ≡ heard_replies_in phase items
replies_without_unit Neutral u items = refl
replies_without_unit AwaitLine u items = refl
replies_without_unit Busy u items = refl
replies_without_unit Contention u items = refl
replies_without_unit AwaitReply u items = refl

module _ (limit : ℕ) (items : List Item) (t : TwoWay) where
  -- a reply
  reply_gone : (phase : Phase) (lost b : ℕ)
      → Holds limit (shadow_in phase lost (record t { inward = answered b ∷ items }))
      → Holds limit (shadow_in phase lost (record t { inward = items }))
  reply_gone Neutral lost b h = reply_lost_holds limit (b ∷ answers_of items) _ refl h
  reply_gone AwaitLine lost b h = reply_lost_holds limit (b ∷ answers_of items) _ refl h
  reply_gone Busy lost b h = h
  reply_gone Contention lost b h = h
  reply_gone AwaitReply lost b h = reply_lost_holds limit (b ∷ answers_of items) _ refl h

  pub reply_unheard : (b : ℕ) → HoldsOut limit (record t { inward = answered b ∷ items })
      → HoldsOut limit (record t { inward = items })
  reply_unheard b h = record {
    lost = h.lost;
    lost_within = h.lost_within;
    holds = reply_gone t.near.station.sender.phase h.lost b h.holds;
    lost_unheard = h.lost_unheard;
    lost_frames = h.lost_frames;
    in_order = order_without_reply t.near.station.sender.phase (IsDeaf limit t) b items h.in_order;
    can_ask = h.can_ask;
  }

  -- a unit of the other side
  pub unit_unheard : (u : Travelling) → HoldsOut limit (record t { inward = sent u ∷ items })
      → HoldsOut limit (record t { inward = items })
  unit_unheard u h = record {
    lost = h.lost;
    lost_within = h.lost_within;
    holds = subst (λ bs. Holds limit (record (shadow h.lost (record t { inward = sent u ∷ items })) { replies = bs }))
        (replies_without_unit t.near.station.sender.phase u items) h.holds;
    lost_unheard = h.lost_unheard;
    lost_frames = h.lost_frames;
    in_order = order_without_unit t.near.station.sender.phase (IsDeaf limit t) u items h.in_order;
    can_ask = h.can_ask;
  }
