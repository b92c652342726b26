-- The other side's sender sends a unit: that is no reply. It comes after a reply only where no more replies can come.
use Rattle.std.proofs.Common.{◌≡◌, ℕ, zero, suc, inl, inr, false, List, [], ◌∷◌, ◌++◌}
use Rattle.std.proofs.Common.{take, drop, refl, sym, ◌∙◌, subst}
use Rattle.std.proofs.lemmas.List.{append-nil}
use Rattle.lis_frame.specs.Frame.{IsContent}
use Rattle.lis_frame.specs.Limit.{IsLimit}
use Rattle.lis_link.specs.declared.sender.Phase.{Phase}
use Rattle.lis_link.specs.declared.sender.Phase.TheVariants.{Neutral, AwaitLine, Busy, Contention, AwaitReply}
use Rattle.lis_world.specs.Unit.{Travelling}
use Rattle.lis_world.specs.Session.{session_at}
use Rattle.lis_world.proofs.Delivery.{next_frame}
use Rattle.lis_world.proofs.Invariant.{Holds, RequestTraffic, FrameTraffic, IsAwaiting}
use Rattle.lis_station.specs.Line.{Item, sent, answered, End, TwoWay, units_of}
use Rattle.lis_station.specs.inside.Line.{answers_of}
use Rattle.lis_station.proofs.Shadow.{shadow_in, shadow, heard_replies_in, NoEnquiry, OnlyUnits, Tail, Ahead, InOrder}
use Rattle.lis_station.proofs.Shadow.{IsDeaf, HoldsOut}
use Rattle.lis_station.proofs.Directions.{answers_of-append}

only_units_more : (items : List Item) (u : Travelling) → OnlyUnits items → OnlyUnits (items ++ sent u ∷ [])
only_units_more [] u h = tt
only_units_more (sent v ∷ items) u h = only_units_more items u h
only_units_more (answered b ∷ items) u h = absurd h

tail_more : (quiet : Type 0) (items : List Item) (u : Travelling) → quiet → Tail quiet items
    → Tail quiet (items ++ sent u ∷ [])
tail_more quiet [] u q h = (q, tt)
tail_more quiet (answered b ∷ items) u q h = tail_more quiet items u q h
tail_more quiet (sent v ∷ items) u q h = (h.0, only_units_more items u h.1)

ahead_more :
    (quiet : Type 0) (items : List Item) (u : Travelling)
    → ((b : ℕ) (bs : List ℕ) → answers_of items ≡ b ∷ bs → quiet)
    → Ahead quiet items
    → Ahead quiet (items ++ sent u ∷ [])
ahead_more quiet [] u q h = tt
ahead_more quiet (sent v ∷ items) u q h = ahead_more quiet items u q h
ahead_more quiet (answered b ∷ items) u q h = tail_more quiet items u (q b (answers_of items) refl) h

-- no ENQ is on its way, if none is among the lost units and none among the others
no_enquiry_joined : (limit n : ℕ) (us : List Travelling) → NoEnquiry limit (take n us) → NoEnquiry limit (drop n us)
    → NoEnquiry limit us
no_enquiry_joined limit zero us first second = second
no_enquiry_joined limit (suc n) [] first second = tt
no_enquiry_joined limit (suc n) (u ∷ us) first second = (first.0, no_enquiry_joined limit n us first.1 second)

replies_same : (phase : Phase) (items : List Item) (u : Travelling)
    → heard_replies_in phase (items ++ sent u ∷ []) ≡ heard_replies_in phase items
replies_same Neutral items u = answers_of-append items (sent u ∷ []) ∙ append-nil (answers_of items)
replies_same AwaitLine items u = answers_of-append items (sent u ∷ []) ∙ append-nil (answers_of items)
replies_same Busy items u = refl
replies_same Contention items u = refl
replies_same AwaitReply items u = answers_of-append items (sent u ∷ []) ∙ append-nil (answers_of items)

module _ (limit : ℕ) (is_limit : IsLimit limit) (t : TwoWay) (h : HoldsOut limit t)
    (shut : t.far.station.receiver.is_open ≡ false) where
  deaf_if : NoEnquiry limit (drop h.lost (units_of t.outward)) → IsDeaf limit t
  deaf_if none = (shut, no_enquiry_joined limit h.lost (units_of t.outward) h.lost_frames none)

  deaf_line :
      t.near.station.sender.phase ≡ AwaitLine
      → (b : ℕ) (bs : List ℕ)
      → answers_of t.inward ≡ b ∷ bs
      → IsDeaf limit t
  deaf_line is b bs are = go (subst (λ p. Holds limit (shadow_in p h.lost t)) is h.holds).phase.traffic
    where
      go : RequestTraffic (shadow_in AwaitLine h.lost t) → IsDeaf limit t
      go (inl requests) =
          let none : b ∷ bs ≡ [] = sym are ∙ requests.0 in
          absurd (cc)
      go (inr one) = deaf_if (subst (NoEnquiry limit) (sym one.0) tt)

  deaf_reply : t.near.station.sender.phase ≡ AwaitReply → IsDeaf limit t
  deaf_reply is = go (subst (λ p. Holds limit (shadow_in p h.lost t)) is h.holds).phase
    where
      go : IsAwaiting (shadow_in AwaitReply h.lost t) → IsDeaf limit t
      go awaiting = by awaiting.traffic
        where
          content : IsContent limit awaiting.frame
          content = (next_frame limit (session_at t.near.current t.near.sessions) awaiting.before awaiting.frame
              is_limit
              (h.holds.sound t.near.current) awaiting.pending.sent_is).content

          by : FrameTraffic (shadow_in AwaitReply h.lost t) awaiting.before awaiting.frame → IsDeaf limit t
          by (inl one) = deaf_if (subst (NoEnquiry limit) (sym one.0) (content, tt))
          by (inr none) = deaf_if (subst (NoEnquiry limit) (sym none.0) tt)

  order_more :
      (phase : Phase) (u : Travelling)
      → t.near.station.sender.phase ≡ phase
      → InOrder phase (IsDeaf limit t) t.inward
      → InOrder phase (IsDeaf limit t) (t.inward ++ sent u ∷ [])
  order_more Neutral u is order = tt
  order_more AwaitLine u is order = ahead_more (IsDeaf limit t) t.inward u (deaf_line is) order
  order_more Busy u is order = tt
  order_more Contention u is order = tt
  order_more AwaitReply u is order = tail_more (IsDeaf limit t) t.inward u (deaf_reply is) order

  -- a unit of the other side goes on its way here
  pub unit_in : (u : Travelling) → HoldsOut limit (record t { inward = t.inward ++ sent u ∷ [] })
  unit_in u = record {
    lost = h.lost;
    lost_within = h.lost_within;
    holds = subst (λ bs. Holds limit (record (shadow h.lost t) { replies = bs }))
        (sym (replies_same t.near.station.sender.phase t.inward u)) h.holds;
    lost_unheard = h.lost_unheard;
    lost_frames = h.lost_frames;
    in_order = order_more t.near.station.sender.phase u refl h.in_order;
    can_ask = h.can_ask;
  }

-- the other side's sender and its session are of no account
pub far_sender_out : (limit : ℕ) (t : TwoWay) (e : End) → e.station.receiver ≡ t.far.station.receiver
    → e.opened ≡ t.far.opened
    → HoldsOut limit t
    → HoldsOut limit (record t { far = e })
far_sender_out limit t e receiver_same opened_same h = record {
  lost = h.lost;
  lost_within = h.lost_within;
  holds = subst (λ o. Holds limit (record (shadow h.lost t) { receiver = e.station.receiver; opened = o }))
      (sym opened_same)
      (subst (λ r. Holds limit (record (shadow h.lost t) { receiver = r })) (sym receiver_same) h.holds);
  lost_unheard = λ some. subst (λ r. r.is_open ≡ false) (sym receiver_same) (h.lost_unheard some);
  lost_frames = h.lost_frames;
  in_order = subst (λ r. InOrder t.near.station.sender.phase
      ((r.is_open ≡ false) × NoEnquiry limit (units_of t.outward)) t.inward) (sym receiver_same) h.in_order;
  can_ask = h.can_ask;
}
