-- A unit has left the line towards here, heard whole or otherwise: the direction in which it went holds.
use Rattle.std.proofs.Common.{◌≡◌, ℕ, zero, suc, ◌-◌, ◌<◌, ◌≤◌, ◌⊎◌, inl, inr, false, List, [], ◌∷◌, ◌++◌}
use Rattle.std.proofs.Common.{length, take, drop, map, refl, sym, ap, ◌∙◌, subst, arith}
use Rattle.std.proofs.lemmas.List.{append-nil}
use Rattle.lis_frame.specs.declared.scanner.SignalOf.{SignalOf}
use Rattle.lis_frame.specs.declared.scanner.SignalOf.TheVariants.{Eot, Good}
use Rattle.lis_frame.specs.Frame.{FrameContent, frame_bytes}
use Rattle.lis_frame.specs.Limit.{IsLimit}
use Rattle.lis_frame.specs.Stream.{signal_after, stream_with}
use Rattle.lis_frame.proofs.StreamLaws.{signals-frame_bytes}
use Rattle.lis_link.specs.declared.sender.Phase.{Phase}
use Rattle.lis_link.specs.declared.sender.Phase.TheVariants.{Neutral, AwaitLine, Busy, Contention, AwaitReply}
use Rattle.lis_link.specs.Receiver.{ReceiverState, heard_by}
use Rattle.lis_link.specs.Sender.{SenderState, started, bad_texts}
use Rattle.lis_world.specs.Unit.{Load, enquiry, ending, one_frame, Travelling, load_bytes}
use Rattle.lis_world.specs.Session.{Session}
use Rattle.lis_world.specs.World.{World, ComputerState, booked, hears, lowered, replies_with, settled}
use Rattle.lis_world.proofs.Arrival.{IsSide}
use Rattle.lis_world.proofs.Delivery.{left_delivered, leads_of, side_of}
use Rattle.lis_world.proofs.Hearing.{at_past, hears_signal, hears_signals, hears-heard}
use Rattle.lis_world.proofs.Invariant.{IsYes, FrameAnswer, RequestAnswer, AreKept, IsLeft, Leads, Holds}
use Rattle.lis_world.proofs.Leaving.{settled_holds}
use Rattle.lis_world.proofs.Timers.{no_more_open_holds}
use Rattle.lis_station.specs.Station.{StationState, awaits_reply}
use Rattle.lis_station.specs.Line.{Item, sent, answered, TwoWay, turned, units_of, left_line, comes}
use Rattle.lis_station.specs.inside.Line.{answers_of}
use Rattle.lis_station.proofs.Shadow.{shadow_in, heard_replies_in, dropped_in, NoEnquiry, IsFrame, OnlyUnits, Tail}
use Rattle.lis_station.proofs.Shadow.{Ahead}
use Rattle.lis_station.proofs.Shadow.{InOrder, IsDeaf, AsksWith, CanAsk, HoldsOut}
use Rattle.lis_station.proofs.Directions.{answers_of-append, order_map}
use Rattle.lis_station.proofs.Reached.{IsAsked, AreAsked, with_replies, side_here, IsHeard, nothing_reached}
use Rattle.lis_station.proofs.Reached.{bytes_reached}

-- ---- a reply as EOT in place of ACK

none_asked : (xs ys : List ℕ) → ys ≡ [] → AreAsked xs ys → xs ≡ []
none_asked [] ys none h = refl
none_asked (x ∷ xs) [] none h = absurd h
none_asked (x ∷ xs) (y ∷ ys) none h = cc

one_asked : (xs ys : List ℕ) (c : ℕ) → ys ≡ c ∷ [] → AreAsked xs ys → (b : ℕ) × (xs ≡ b ∷ []) × IsAsked b c
one_asked xs ys c one h = go xs (subst (AreAsked xs) one h)
  where
    go : (xs : List ℕ) → AreAsked xs (c ∷ []) → (b : ℕ) × (xs ≡ b ∷ []) × IsAsked b c
    go [] h = absurd h
    go (b ∷ []) h = (b, refl, h.0)
    go (b ∷ b' ∷ bs) h = absurd h.1

yes_asked : (b c : ℕ) → IsAsked b c → IsYes b → IsYes c
yes_asked b c (inl same) is_yes = subst IsYes same is_yes
yes_asked b c (inr both) is_yes = inl both.1

left_asked :
    (limit s : ℕ) (load : Load) (d d' : ComputerState) (asked : List ℕ)
    → AreAsked asked d'.replies
    → IsLeft limit s load d d'
    → IsLeft limit s load d (record d' { replies = asked })
left_asked limit s load d d' asked are h = record {
  sound = h.sound;
  line = h.line;
  kept = h.kept;
  after_ending = λ e. none_asked asked d'.replies (h.after_ending e) are;
  after_enquiry = λ e. request (h.after_enquiry e);
  after_frame = λ before f e pending.
      let both = h.after_frame before f e pending in
      (both.0, frame before f both.1);
}
  where
    request : (d'.replies ≡ []) ⊎ RequestAnswer d'.replies d'.receiver.is_open d'.opened s
        → (asked ≡ []) ⊎ RequestAnswer asked d'.receiver.is_open d'.opened s
    request (inl none) = inl (none_asked asked d'.replies none are)
    request (inr one) =
        let b = one_asked asked d'.replies one.0 one.1 are in
        inr (b.0, b.1, one.2)

    frame : (before : List FrameContent) (f : FrameContent) → FrameAnswer d'.replies d'.sessions s before f
        → FrameAnswer asked d'.sessions s before f
    frame before f (inl none) = inl (none_asked asked d'.replies none are)
    frame before f (inr one) =
        let b = one_asked asked d'.replies one.0 one.1 are in
        inr (b.0, b.1, λ yes. one.2 (yes_asked b.0 one.0 b.2 yes))

-- ---- the replies and the units to drop, by phases

answers_again : (replies : List ℕ) → answers_of (map answered replies) ≡ replies
answers_again [] = refl
answers_again (b ∷ bs) = ap (λ xs. b ∷ xs) (answers_again bs)

answers_with : (to_drop : ℕ) (asked : List ℕ) (out : List Item)
    → replies_with to_drop asked (answers_of out) ≡ answers_of (with_replies to_drop asked out)
answers_with zero asked out =
    ap (λ xs. answers_of out ++ xs) (sym (answers_again asked)) ∙ sym (answers_of-append out (map answered asked))
answers_with (suc to_drop) asked out = refl

answers_less : (to_drop : ℕ) (asked : List ℕ) (out : List Item)
    → replies_with (to_drop - 0) asked (answers_of out) ≡ answers_of (with_replies to_drop asked out)
answers_less to_drop asked out =
    let less : to_drop - 0 ≡ to_drop = omega arith in
    ap (λ n. replies_with n asked (answers_of out)) less ∙ answers_with to_drop asked out

none_in_time : (n m : ℕ) (asked : List ℕ) → n ≡ suc m → replies_with n asked [] ≡ []
none_in_time n m asked is = subst (λ k. replies_with k asked [] ≡ []) (sym is) refl

replies_at :
    (p : Phase) (to_drop : ℕ) (asked : List ℕ) (out : List Item) (u : Travelling) (us : List Travelling)
    → replies_with (dropped_in p (to_drop - 0) (u ∷ us)) asked (heard_replies_in p out)
    ≡ heard_replies_in p (with_replies to_drop asked out)
replies_at Neutral to_drop asked out u us = answers_less to_drop asked out
replies_at AwaitLine to_drop asked out u us = answers_less to_drop asked out
replies_at Busy to_drop asked out u us = none_in_time (length (u ∷ us)) (length us) asked (omega arith)
replies_at Contention to_drop asked out u us = none_in_time (length (u ∷ us)) (length us) asked (omega arith)
replies_at AwaitReply to_drop asked out u us = answers_less to_drop asked out

lowered_less : (to_drop : ℕ) → lowered (to_drop - 0) ≡ lowered to_drop - 0
lowered_less to_drop =
    let less : to_drop - 0 ≡ to_drop = omega arith in
    let after : lowered to_drop ≡ lowered to_drop - 0 = omega arith in
    ap lowered less ∙ after

lowered_suc : (n m : ℕ) → n ≡ suc m → lowered n ≡ m
lowered_suc n m is = subst (λ k. lowered k ≡ m) (sym is) refl

drops_at : (p : Phase) (to_drop : ℕ) (u : Travelling) (us : List Travelling)
    → lowered (dropped_in p (to_drop - 0) (u ∷ us)) ≡ dropped_in p (lowered to_drop - 0) us
drops_at Neutral to_drop u us = lowered_less to_drop
drops_at AwaitLine to_drop u us = lowered_less to_drop
drops_at Busy to_drop u us = lowered_suc (length (u ∷ us)) (length us) (omega arith)
drops_at Contention to_drop u us = lowered_suc (length (u ∷ us)) (length us) (omega arith)
drops_at AwaitReply to_drop u us = lowered_less to_drop

lowered_both : (to_drop n : ℕ) → to_drop - suc n ≡ lowered to_drop - n
lowered_both zero n = omega arith
lowered_both (suc to_drop) n = omega arith

-- ---- the order

only_answered : (quiet : Type 0) (replies : List ℕ) → Tail quiet (map answered replies)
only_answered quiet [] = tt
only_answered quiet (b ∷ bs) = only_answered quiet bs

units_still : (items : List Item) (replies : List ℕ) → replies ≡ [] → OnlyUnits items
    → OnlyUnits (items ++ map answered replies)
units_still items replies none only =
    subst (λ bs. OnlyUnits (items ++ map answered bs)) (sym none) (subst OnlyUnits (sym (append-nil items)) only)

tail_answered :
    (p q : Type 0) (items : List Item) (replies : List ℕ)
    → (p → (replies ≡ []) × q)
    → Tail p items
    → Tail q (items ++ map answered replies)
tail_answered p q [] replies f h = only_answered q replies
tail_answered p q (answered b ∷ items) replies f h = tail_answered p q items replies f h
tail_answered p q (sent u ∷ items) replies f h = ((f h.0).1, units_still items replies (f h.0).0 h.1)

ahead_answers : (quiet : Type 0) (replies : List ℕ) → Ahead quiet (map answered replies)
ahead_answers quiet [] = tt
ahead_answers quiet (b ∷ bs) = only_answered quiet bs

ahead_answered :
    (p q : Type 0) (items : List Item) (replies : List ℕ)
    → (p → (replies ≡ []) × q)
    → Ahead p items
    → Ahead q (items ++ map answered replies)
ahead_answered p q [] replies f h = ahead_answers q replies
ahead_answered p q (sent u ∷ items) replies f h = ahead_answered p q items replies f h
ahead_answered p q (answered b ∷ items) replies f h = tail_answered p q items replies f h

order_answered :
    (phase : Phase) (p q : Type 0) (items : List Item) (replies : List ℕ)
    → (p → (replies ≡ []) × q)
    → InOrder phase p items
    → InOrder phase q (items ++ map answered replies)
order_answered Neutral p q items replies f h = tt
order_answered AwaitLine p q items replies f h = ahead_answered p q items replies f h
order_answered Busy p q items replies f h = tt
order_answered Contention p q items replies f h = tt
order_answered AwaitReply p q items replies f h = tail_answered p q items replies f h

order_at :
    (to_drop : ℕ) (phase : Phase) (p q : Type 0) (items : List Item) (replies : List ℕ)
    → (p → (replies ≡ []) × q)
    → InOrder phase p items
    → InOrder phase q (with_replies to_drop replies items)
order_at zero phase p q items replies f h = order_answered phase p q items replies f h
order_at (suc to_drop) phase p q items replies f h = order_map phase p q (λ x. (f x).1) items h

-- ---- what a sender that waits keeps

asks_kept :
    (limit : ℕ) (phase : Phase) (sender : SenderState) (current : ℕ) (ss ss' : List Session)
    → AreKept ss ss'
    → AsksWith limit phase sender current ss
    → AsksWith limit phase sender current ss'
asks_kept limit phase sender current ss ss' kept h =
    let same = (kept.each_kept current).texts_same in
    record {
      sender_is = h.sender_is ∙ ap (λ texts. record (started limit texts) { phase = phase }) (sym same);
      not_refused = ap bad_texts same ∙ h.not_refused;
      within = subst (λ n. current < n) (sym kept.length_same) h.within;
    }

can_ask_kept :
    (limit : ℕ) (phase : Phase) (sender : SenderState) (current : ℕ) (ss ss' : List Session)
    → AreKept ss ss'
    → CanAsk limit phase sender current ss
    → CanAsk limit phase sender current ss'
can_ask_kept limit Neutral sender current ss ss' kept h = tt
can_ask_kept limit AwaitLine sender current ss ss' kept h = asks_kept limit AwaitLine sender current ss ss' kept h
can_ask_kept limit Busy sender current ss ss' kept h = asks_kept limit Busy sender current ss ss' kept h
can_ask_kept limit Contention sender current ss ss' kept h = asks_kept limit Contention sender current ss ss' kept h
can_ask_kept limit AwaitReply sender current ss ss' kept h = tt

-- ---- the unit has left the line

-- seen from its sender
abbrev pub left_by : TwoWay → List Item → StationState → ℕ → List Session → List Item → TwoWay
left_by t items s opened sessions inward = record {
  near = record t.far { sessions = sessions; to_drop = lowered t.far.to_drop };
  far = record t.near { station = s; opened = opened };
  outward = items;
  inward = inward;
}

-- the world before and after: what was heard, by a line that was open or not
module _ (limit : ℕ) (u : Travelling) (items : List Item) (t : TwoWay) (d' : ComputerState) (s : StationState)
    (asked : List ℕ) (receiver_is : s.receiver ≡ d'.receiver) (are_asked : AreAsked asked d'.replies)
    (shut_leaves : t.near.station.receiver.is_open ≡ false → IsFrame limit u.load
    → (past : List ℕ) × (d' ≡ at_past past (side_here t))) where
  abbrev before_it : TwoWay
  before_it = turned (record t { inward = sent u ∷ items })

  abbrev after_it : TwoWay
  after_it = left_by t items s d'.opened d'.sessions (with_replies t.far.to_drop asked t.outward)

  abbrev far_phase : Phase
  far_phase = t.far.station.sender.phase

  still_shut : t.near.station.receiver.is_open ≡ false → IsFrame limit u.load
      → (asked ≡ []) × (s.receiver.is_open ≡ false)
  still_shut shut is_frame =
      let left = shut_leaves shut is_frame in (
        none_asked asked d'.replies (ap (λ (d : ComputerState). d.replies) left.1) are_asked,
        ap (λ (r : ReceiverState). r.is_open) receiver_is
            ∙ ap (λ (d : ComputerState). d.receiver.is_open) left.1 ∙ shut,
      )

  deaf_still : IsDeaf limit before_it → (asked ≡ []) × IsDeaf limit after_it
  deaf_still deaf =
      let still = still_shut deaf.0 deaf.1.0 in
      (still.0, (still.1, deaf.1.1))

  -- it was live
  live_left :
      Holds limit (shadow_in far_phase 0 before_it)
      → IsLeft limit u.session u.load (side_here t) d'
      → InOrder far_phase (IsDeaf limit before_it) t.outward
      → CanAsk limit far_phase t.far.station.sender t.far.current t.far.sessions
      → HoldsOut limit after_it
  live_left h left order can =
      let w : World = shadow_in far_phase 0 before_it in
      let us : List Travelling = units_of items in
      let there : Holds limit (settled us (record d' { replies = asked }) w) =
      settled_holds limit w u us (record d' { replies = asked }) h refl
      (left_asked limit u.session u.load (side_here t) d' asked are_asked left) in
      let v : World = settled us (record d' { replies = asked }) w in
      let same : v ≡ shadow_in far_phase 0 after_it =
      ap (λ bs. record v { replies = bs }) (replies_at far_phase t.far.to_drop asked t.outward u us)
      ∙ ap (λ n. record v {
        replies = heard_replies_in far_phase (with_replies t.far.to_drop asked t.outward);
        to_drop = n;
      }) (drops_at far_phase t.far.to_drop u us)
      ∙ ap (λ r. record (shadow_in far_phase 0 after_it) { receiver = r }) (sym receiver_is) in
      record {
        lost = 0;
        lost_within = omega arith;
        holds = subst (Holds limit) same there;
        lost_unheard = λ some. absurd (omega arith);
        lost_frames = tt;
        in_order = order_at t.far.to_drop far_phase (IsDeaf limit before_it) (IsDeaf limit after_it) t.outward asked
            deaf_still order;
        can_ask = can_ask_kept limit far_phase t.far.station.sender t.far.current t.far.sessions d'.sessions left.kept
            can;
      }

  -- it was lost there
  lost_left :
      (n : ℕ)
      → suc n ≤ length (u ∷ units_of items)
      → Holds limit (shadow_in far_phase (suc n) before_it)
      → t.near.station.receiver.is_open ≡ false
      → NoEnquiry limit (take (suc n) (u ∷ units_of items))
      → InOrder far_phase (IsDeaf limit before_it) t.outward
      → CanAsk limit far_phase t.far.station.sender t.far.current t.far.sessions
      → HoldsOut limit after_it
  lost_left n within h shut frames order can =
      let left = shut_leaves shut frames.0 in
      let still = still_shut shut frames.0 in
      let r : ReceiverState = record t.near.station.receiver { past = left.0 } in
      let r_is : s.receiver ≡ r = receiver_is ∙ ap (λ (d : ComputerState). d.receiver) left.1 in
      let w : World = shadow_in far_phase (suc n) before_it in
      let heard : Holds limit (record w { receiver = s.receiver }) =
      subst (λ x. Holds limit (record w { receiver = x })) (sym r_is)
      (no_more_open_holds limit w r (record { was_open = λ e. e; accepted_same = refl }) h) in
      let quiet : with_replies t.far.to_drop asked t.outward ≡ t.outward =
      ap (λ bs. with_replies t.far.to_drop bs t.outward) still.0 ∙ none t.far.to_drop in
      let plain : TwoWay = left_by t items s t.near.opened t.far.sessions t.outward in
      let same : plain ≡ after_it =
      ap (λ (d : ComputerState). left_by t items s d.opened d.sessions t.outward) (sym left.1)
      ∙ ap (λ out. left_by t items s d'.opened d'.sessions out) (sym quiet) in
      let lowered_is : t.far.to_drop - suc n ≡ lowered t.far.to_drop - n = lowered_both t.far.to_drop n in
      subst (HoldsOut limit) same (record {
        lost = n;
        lost_within = omega arith;
        holds = subst (λ m. Holds limit (record w {
          receiver = s.receiver;
          to_drop = dropped_in far_phase m (drop n (units_of items));
        })) lowered_is heard;
        lost_unheard = λ some. still.1;
        lost_frames = frames.1;
        in_order = order_map far_phase (IsDeaf limit before_it) (IsDeaf limit plain)
            (λ deaf. (still.1, deaf.1.1)) t.outward order;
        can_ask = can;
      })
    where
      none : (to_drop : ℕ) → with_replies to_drop [] t.outward ≡ t.outward
      none zero = append-nil t.outward
      none (suc to_drop) = refl

  left_in :
      (lost : ℕ)
      → lost ≤ length (u ∷ units_of items)
      → Holds limit (shadow_in far_phase lost before_it)
      → (0 < lost → t.near.station.receiver.is_open ≡ false)
      → NoEnquiry limit (take lost (u ∷ units_of items))
      → InOrder far_phase (IsDeaf limit before_it) t.outward
      → CanAsk limit far_phase t.far.station.sender t.far.current t.far.sessions
      → (IsSide limit (side_here t)
      → Leads t.far.sessions t.near.station.receiver.is_open t.near.opened u.session u.load
      → IsLeft limit u.session u.load (side_here t) d')
      → HoldsOut limit after_it
  left_in zero within h unheard frames order can left =
      let w : World = shadow_in far_phase 0 before_it in
      live_left h (left (side_of limit w h) (leads_of limit w u (units_of items) h refl)) order can
  left_in (suc n) within h unheard frames order can left =
      lost_left n within h (unheard (omega arith)) frames order can

  pub unit_left :
      HoldsOut limit before_it
      → (IsSide limit (side_here t)
      → Leads t.far.sessions t.near.station.receiver.is_open t.near.opened u.session u.load
      → IsLeft limit u.session u.load (side_here t) d')
      → HoldsOut limit after_it
  unit_left h left = left_in h.lost h.lost_within h.holds h.lost_unheard h.lost_frames h.in_order h.can_ask left

-- ---- it was heard whole

pub quiet_signal : {limit : ℕ} (s : ℕ) (signal : SignalOf limit) (d : ComputerState) → d.receiver.is_open ≡ false
    → (booked s (heard_by false signal d.receiver) d ≡ d)
    → hears_signal s signal d ≡ d
quiet_signal s signal d shut quiet = ap (λ o. booked s (heard_by o signal d.receiver) d) shut ∙ quiet

shut_whole :
    (limit s : ℕ) (load : Load) (d : ComputerState)
    → d.receiver.is_open ≡ false
    → IsFrame limit load
    → hears limit s (load_bytes load) d ≡ at_past (stream_with d.receiver.past (load_bytes load)) d
unfolding signal_after
shut_whole limit s enquiry d shut is_frame = absurd is_frame
shut_whole limit s ending d shut is_frame =
    let past : List ℕ = stream_with d.receiver.past (load_bytes ending) in
    hears-heard limit s (load_bytes ending) d
    ∙ ap (at_past past) (quiet_signal {limit = limit} s Eot d shut refl)
shut_whole limit s (one_frame f) d shut is_frame =
    let past : List ℕ = stream_with d.receiver.past (frame_bytes f) in
    hears-heard limit s (frame_bytes f) d
    ∙ ap (λ signals. at_past past (hears_signals {limit = limit} s signals d))
    (signals-frame_bytes limit d.receiver.past f is_frame)
    ∙ ap (at_past past) (quiet_signal {limit = limit} s (Good f) d shut refl)

-- the front unit is heard whole: no reply is awaited here
pub arrived_whole :
    (limit : ℕ) (is_limit : IsLimit limit) (u : Travelling) (items : List Item) (t : TwoWay)
    → awaits_reply t.near.station.sender.phase ≡ false
    → HoldsOut limit (turned (record t { inward = sent u ∷ items }))
    → HoldsOut limit
    (turned (left_line (sent u) (comes limit (sent u) (load_bytes u.load) (record t { inward = items }))))
arrived_whole limit is_limit u items t rests h =
    let t0 : TwoWay = record t { inward = items } in
    let d : ComputerState = side_here t in
    let d' : ComputerState = hears limit u.session (load_bytes u.load) d in
    let heard : IsHeard t0 d' (comes limit (sent u) (load_bytes u.load) t0) =
    bytes_reached limit u t0 rests (load_bytes u.load) d t0 (nothing_reached t0) in
    subst (λ x. HoldsOut limit (turned (left_line (sent u) x))) (sym heard.is)
    (unit_left limit u items t d' heard.station heard.asked heard.receiver_is heard.are_asked
    (λ shut is_frame. (
      stream_with d.receiver.past
          (load_bytes u.load),
      shut_whole limit u.session u.load d shut is_frame,
    ))
    h
    (λ side leads. left_delivered limit u.session u.load d is_limit side leads))
