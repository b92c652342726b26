-- What holds of a line that answers late, and that each item which comes, is damaged or is lost keeps it.
use Rattle.std.proofs.Common.{◌≡◌, ℕ, Bool, true, false, List, [], ◌∷◌, length, Option, None, Some, refl, sym}
use Rattle.std.proofs.Common.{ap, ◌∙◌, subst}
use Rattle.std.specs.Prelude.{cond}
use Rattle.std.proofs.lemmas.Bool.{cond_both, and_parts}
use Rattle.lis_frame.specs.declared.scanner.SignalOf.{SignalOf}
use Rattle.lis_frame.specs.Limit.{IsLimit}
use Rattle.lis_frame.specs.Stream.{signal_after, signals_after, with_signal}
use Rattle.lis_link.specs.declared.sender.Phase.{Phase}
use Rattle.lis_link.specs.declared.sender.Phase.TheVariants.{Neutral, AwaitLine, Busy, Contention, AwaitReply}
use Rattle.lis_link.specs.declared.sender.Outcome.{Outcome}
use Rattle.lis_link.specs.Sender.{SenderState}
use Rattle.lis_link.specs.Receiver.{on_byte}
use Rattle.lis_world.specs.Unit.{enquiry, Travelling, load_bytes}
use Rattle.lis_world.specs.World.{lowered}
use Rattle.lis_world.specs.Steps.{is_noticed}
use Rattle.lis_world.specs.Late.{reply_may_come}
use Rattle.lis_station.specs.Station.{StationState, awaits_reply, routed}
use Rattle.lis_station.specs.Line.{Item, sent, answered, TwoWay, turned, units_of, steps, comes, left_line, arrives}
use Rattle.lis_station.specs.Line.{is_single, is_noise_to_sender, is_noise, damaged_in, lost_in}
use Rattle.lis_station.proofs.Damaged.{EndsAtMost}
use Rattle.lis_station.proofs.Both.{AllAnswers, answer_ends, Near, comes_near, IsLoad, IsNoise, unit_load, unit_noise}
use Rattle.lis_station.proofs.Events.{HoldsBoth, turned_both, arrives_both, damaged_both, lost_both}
use Rattle.lis_late_line.proofs.Hushed.{kept, dropped, heard_as, hushed, kept_front, Silent, IsAs, comes_as, reply_as}
use Rattle.lis_late_line.proofs.Hushed.{StaysAtRest, comes_at_rest}
use Rattle.lis_late_line.proofs.Deaf.{heard_after, left_by, answer_is, answer_holds}

-- a sender is deaf that waits, or has no session and may have ended its last one before the reply
abbrev pub is_deaf_in : Phase → Option Outcome → Bool
is_deaf_in Neutral outcome = reply_may_come outcome
is_deaf_in AwaitLine outcome = false
is_deaf_in Busy outcome = true
is_deaf_in Contention outcome = true
is_deaf_in AwaitReply outcome = false

abbrev pub is_deaf : StationState → Bool
is_deaf s = is_deaf_in s.sender.phase s.sender.outcome

pub deaf_rests : (p : Phase) (outcome : Option Outcome) → is_deaf_in p outcome ≡ true → awaits_reply p ≡ false
deaf_rests Neutral outcome e = refl
deaf_rests AwaitLine outcome e = cc
deaf_rests Busy outcome e = refl
deaf_rests Contention outcome e = refl
deaf_rests AwaitReply outcome e = cc

pub awaits_hears : (p : Phase) (outcome : Option Outcome) → awaits_reply p ≡ true → is_deaf_in p outcome ≡ false
awaits_hears Neutral outcome e = cc
awaits_hears AwaitLine outcome e = refl
awaits_hears Busy outcome e = cc
awaits_hears Contention outcome e = cc
awaits_hears AwaitReply outcome e = refl

-- every unit is answered; and both directions hold of the line as its stations hear it
pub record HoldsLate (limit : ℕ) (t : TwoWay) : Type 0 where
  pub near_drops_none : t.near.to_drop ≡ 0
  pub far_drops_none : t.far.to_drop ≡ 0
  pub holds : HoldsBoth limit (hushed (is_deaf t.near.station) (is_deaf t.far.station) t)
  pub near_answers : AllAnswers t.outward
  pub far_answers : AllAnswers t.inward

pub turned_late : (limit : ℕ) (t : TwoWay) → HoldsLate limit t → HoldsLate limit (turned t)
turned_late limit t h = record {
  near_drops_none = h.far_drops_none;
  far_drops_none = h.near_drops_none;
  holds = turned_both limit (hushed (is_deaf t.near.station) (is_deaf t.far.station) t) h.holds;
  near_answers = h.far_answers;
  far_answers = h.near_answers;
}

-- after an event here, at which the far station stays as it is
pub holds_after :
    (limit : ℕ) (is_limit : IsLimit limit) (dn : Bool) (far : StationState) (t : TwoWay)
    → t.near.to_drop ≡ 0
    → t.far.to_drop ≡ 0
    → t.far.station ≡ far
    → (dn ≡ true → is_deaf t.near.station ≡ true)
    → AllAnswers t.outward
    → AllAnswers t.inward
    → HoldsBoth limit (hushed dn (is_deaf far) t)
    → HoldsLate limit t
holds_after limit is_limit dn far t near_drops_none far_drops_none same stays near_answers far_answers h = record {
  near_drops_none = near_drops_none;
  far_drops_none = far_drops_none;
  holds = subst (λ s. HoldsBoth limit (hushed (is_deaf t.near.station) (is_deaf s) t)) (sym same)
      (heard_after limit is_limit dn (is_deaf t.near.station) (is_deaf far) t stays
      (deaf_rests t.near.station.sender.phase t.near.station.sender.outcome) h);
  near_answers = near_answers;
  far_answers = far_answers;
}

-- ---- a unit

silent_by : (d : Bool) (u : Travelling) (us : List Travelling) → Silent d (dropped d (u ∷ us))
silent_by true u us = tt
silent_by false u us = tt

lowered_dropped : (d : Bool) (u : Travelling) (us : List Travelling) → lowered (dropped d (u ∷ us)) ≡ dropped d us
lowered_dropped true u us = refl
lowered_dropped false u us = refl

dropped_same : (d : Bool) (us vs : List Travelling) → (d ≡ true → us ≡ vs) → dropped d us ≡ dropped d vs
dropped_same true us vs same = ap length (same refl)
dropped_same false us vs same = refl

module _ (limit : ℕ) (is_limit : IsLimit limit) (u : Travelling) (items : List Item) (t : TwoWay)
    (h : HoldsLate limit (record t { inward = sent u ∷ items })) where
  abbrev near_deaf : Bool
  near_deaf = is_deaf t.near.station

  abbrev far_deaf : Bool
  far_deaf = is_deaf t.far.station

  -- as it is heard, before the unit comes and once it has left the line
  abbrev line_heard : List Item → TwoWay
  line_heard inward = record (hushed near_deaf far_deaf (record t { inward = sent u ∷ items })) { inward = inward }

  abbrev unit_came : List ℕ → TwoWay
  unit_came bytes = left_line (sent u) (comes limit (sent u) bytes (record t { inward = items }))

  abbrev unit_heard : List ℕ → TwoWay
  unit_heard bytes = left_line (sent u) (comes limit (sent u) bytes (line_heard (kept near_deaf items)))

  front_holds : HoldsBoth limit (line_heard (sent u ∷ kept near_deaf items))
  front_holds = subst (λ xs. HoldsBoth limit (line_heard xs)) (kept_front near_deaf items u) h.holds

  -- its bytes, as a sender hears them
  pub front_noise : IsNoise u.load
  front_noise = unit_noise limit is_limit u (kept near_deaf items) (line_heard []) front_holds.back

  pub front_load : IsLoad limit u.load
  front_load = unit_load limit is_limit u (kept near_deaf items) (line_heard []) front_holds.back

  came_late : (bytes : List ℕ) → HoldsBoth limit (unit_heard bytes) → HoldsLate limit (unit_came bytes)
  came_late bytes held =
      let t1 : TwoWay = record t { inward = items } in
      let t2 : TwoWay = comes limit (sent u) bytes t1 in
      let t3 : TwoWay = left_line (sent u) t2 in
      let us : List Travelling = units_of items in
      let nt : ℕ = dropped near_deaf (units_of t.outward) in
      let ft : ℕ = dropped far_deaf (u ∷ us) in
      let same : IsAs near_deaf far_deaf nt ft (comes limit (sent u) bytes (line_heard (kept near_deaf items))) t2 =
      comes_as near_deaf far_deaf nt ft (silent_by far_deaf u us) limit (sent u) bytes
      (line_heard (kept near_deaf items)) t1
      (record { is = refl; near_drops_none = h.near_drops_none; far_drops_none = h.far_drops_none }) in
      let near : Near t1 t2 = comes_near limit (sent u) bytes t1 t1 (record {
        exclusive = h.holds.near_exclusive;
        fair = h.holds.near_fair;
        answers = h.near_answers;
        far_same = refl;
        inward_same = refl;
      }) in
      let at_rest : near_deaf ≡ true → StaysAtRest t1 t2 = λ e. comes_at_rest limit (sent u) bytes t1
      (deaf_rests t.near.station.sender.phase t.near.station.sender.outcome e) in
      let placed : HoldsBoth limit (heard_as near_deaf far_deaf nt (lowered ft) t3) =
      subst (λ x. HoldsBoth limit (left_line (sent u) x)) same.is held in
      let near_count : nt ≡ dropped near_deaf (units_of t3.outward) =
      dropped_same near_deaf (units_of t.outward) (units_of t3.outward) (λ e. sym (at_rest e).units_same) in
      let far_count : lowered ft ≡ dropped far_deaf (units_of t3.inward) =
      lowered_dropped far_deaf u us ∙ ap (λ xs. dropped far_deaf (units_of xs)) (sym near.inward_same) in
      holds_after limit is_limit near_deaf t.far.station t3 same.near_drops_none (ap lowered same.far_drops_none)
      near.far_same
      (λ e. ap (λ (s : SenderState). is_deaf_in s.phase s.outcome) (at_rest e).sender_same ∙ e)
      near.answers (subst AllAnswers (sym near.inward_same) h.far_answers)
      (subst (λ n. HoldsBoth limit (heard_as near_deaf far_deaf n (dropped far_deaf (units_of t3.inward)) t3))
      near_count
      (subst (λ n. HoldsBoth limit (heard_as near_deaf far_deaf nt n t3)) far_count placed))

  pub unit_arrives : HoldsLate limit (unit_came (load_bytes u.load))
  unit_arrives = came_late (load_bytes u.load)
      (arrives_both limit is_limit (sent u ∷ kept near_deaf items) (line_heard []) front_holds)

  pub unit_lost : HoldsLate limit (unit_came [])
  unit_lost = came_late [] (lost_both limit is_limit (sent u ∷ kept near_deaf items) (line_heard []) front_holds)

  pub unit_damaged : (bytes : List ℕ)
      → is_noise limit (awaits_reply t.near.station.sender.phase) (sent u) bytes t.near.station.receiver ≡ true
      → HoldsLate limit (unit_came bytes)
  unit_damaged bytes noise =
      came_late bytes
      (subst (λ n. HoldsBoth limit (cond n (unit_heard bytes) (line_heard (sent u ∷ kept near_deaf items)))) noise
      (damaged_both limit is_limit bytes (sent u ∷ kept near_deaf items) (line_heard []) front_holds))

-- ---- a reply

-- a byte that gives no signal ends nothing
pub quiet_if_noticed : {limit : ℕ} (signal : Option (SignalOf limit))
    → is_noticed enquiry (with_signal signal []) ≡ true
    → EndsAtMost signal
quiet_if_noticed None e = tt
quiet_if_noticed (Some x) e = cc

module _ (limit : ℕ) (is_limit : IsLimit limit) (c : ℕ) (items : List Item) (t : TwoWay)
    (h : HoldsLate limit (record t { inward = answered c ∷ items })) where
  abbrev there_deaf : Bool
  there_deaf = is_deaf t.far.station

  -- it leaves the line unheard
  gone : (d : Bool) → HoldsBoth limit (hushed d there_deaf (record t { inward = answered c ∷ items }))
      → HoldsBoth limit (hushed d there_deaf (record t { inward = items }))
  gone true held = held
  gone false held =
      lost_both limit is_limit (answered c ∷ items) (hushed false there_deaf (record t { inward = items })) held

  pub reply_lost : HoldsLate limit (record t { inward = items })
  reply_lost = record {
    near_drops_none = h.near_drops_none;
    far_drops_none = h.far_drops_none;
    holds = gone (is_deaf t.near.station) h.holds;
    near_answers = h.near_answers;
    far_answers = h.far_answers.1;
  }

  abbrev reply_came : List ℕ → TwoWay
  reply_came bytes = comes limit (answered c) bytes (record t { inward = items })

  -- it comes while none is awaited, or another byte does
  reply_unawaited : (b : ℕ) → awaits_reply t.near.station.sender.phase ≡ false
      → EndsAtMost (signal_after limit t.near.station.receiver.past b)
      → HoldsLate limit (reply_came (b ∷ []))
  reply_unawaited b rests most =
      let t1 : TwoWay = record t { inward = items } in
      let left = reply_lost in
      let after : HoldsLate limit (left_by limit b t1 (on_byte limit b t.near.station.receiver)) = record {
        near_drops_none = h.near_drops_none;
        far_drops_none = h.far_drops_none;
        holds = answer_holds limit b (hushed (is_deaf t.near.station) there_deaf t1) left.holds most;
        near_answers = h.near_answers;
        far_answers = left.far_answers;
      } in
      subst (λ a. HoldsLate limit (steps (answered c) (routed limit a b t.near.station) t1)) (sym rests)
      (subst (HoldsLate limit) (sym (answer_is limit b t1 c most)) after)

  -- it comes while one is awaited, or another byte does
  module _ (awaits : awaits_reply t.near.station.sender.phase ≡ true) where
    abbrev line_awaiting : List Item → TwoWay
    line_awaiting inward = hushed false there_deaf (record t { inward = inward })

    reply_holds : HoldsBoth limit (line_awaiting (answered c ∷ items))
    reply_holds =
        subst (λ d. HoldsBoth limit (hushed d there_deaf (record t { inward = answered c ∷ items })))
        (awaits_hears t.near.station.sender.phase t.near.station.sender.outcome awaits) h.holds

    replied_late : (b : ℕ) → HoldsBoth limit (comes limit (answered c) (b ∷ []) (line_awaiting items))
        → HoldsLate limit (reply_came (b ∷ []))
    replied_late b held =
        let t1 : TwoWay = record t { inward = items } in
        let t2 : TwoWay = reply_came (b ∷ []) in
        let ft : ℕ = dropped there_deaf (units_of items) in
        let same : IsAs false there_deaf 0 ft (comes limit (answered c) (b ∷ []) (line_awaiting items)) t2 =
        reply_as false there_deaf 0 ft limit b (answered c) t1 awaits h.near_drops_none h.far_drops_none in
        let near : Near t1 t2 = comes_near limit (answered c) (b ∷ []) t1 t1 (record {
          exclusive = h.holds.near_exclusive;
          fair = h.holds.near_fair;
          answers = h.near_answers;
          far_same = refl;
          inward_same = refl;
        }) in
        holds_after limit is_limit false t.far.station t2 same.near_drops_none same.far_drops_none near.far_same
        (λ e. absurd (cc)) near.answers (subst AllAnswers (sym near.inward_same) h.far_answers.1)
        (subst (λ xs. HoldsBoth limit (heard_as false there_deaf 0 (dropped there_deaf (units_of xs)) t2))
        (sym near.inward_same) (subst (HoldsBoth limit) same.is held))

  pub reply_arrives : (awaits : Bool) → awaits_reply t.near.station.sender.phase ≡ awaits
      → HoldsLate limit (reply_came (c ∷ []))
  reply_arrives true is =
      replied_late is c (arrives_both limit is_limit (answered c ∷ items) (line_awaiting is items) (reply_holds is))
  reply_arrives false is =
      reply_unawaited c is (answer_ends limit t.near.station.receiver.past c h.far_answers.0)

  -- damaged
  noise_awaited : (bytes : List ℕ) (is : awaits_reply t.near.station.sender.phase ≡ true)
      → is_single bytes ≡ true
      → HoldsBoth limit (comes limit (answered c) bytes (line_awaiting is items))
      → HoldsLate limit (reply_came bytes)
  noise_awaited [] is single held = cc
  noise_awaited (b ∷ []) is single held = replied_late is b held
  noise_awaited (b ∷ b' ∷ bytes) is single held = cc

  noise_unawaited : (bytes : List ℕ) → awaits_reply t.near.station.sender.phase ≡ false
      → is_noticed enquiry (signals_after limit t.near.station.receiver.past bytes) ≡ true
      → is_single bytes ≡ true
      → HoldsLate limit (reply_came bytes)
  noise_unawaited [] is noticed single = cc
  noise_unawaited (b ∷ []) is noticed single =
      reply_unawaited b is (quiet_if_noticed (signal_after limit t.near.station.receiver.past b) noticed)
  noise_unawaited (b ∷ b' ∷ bytes) is noticed single = cc

  pub reply_damaged : (bytes : List ℕ) (awaits : Bool)
      → awaits_reply t.near.station.sender.phase ≡ awaits
      → is_noise limit awaits (answered c) bytes t.near.station.receiver ≡ true
      → HoldsLate limit (reply_came bytes)
  reply_damaged bytes true is noise =
      let parts = and_parts (is_noise_to_sender bytes) (is_single bytes) noise in
      let here : is_noise limit (awaits_reply t.near.station.sender.phase) (answered c) bytes t.near.station.receiver
      ≡ true =
      ap (λ a. is_noise limit a (answered c) bytes t.near.station.receiver) is ∙ noise in
      noise_awaited bytes is parts.1
      (subst (λ n. HoldsBoth limit
      (cond n (comes limit (answered c) bytes (line_awaiting is items)) (line_awaiting is (answered c ∷ items)))) here
      (damaged_both limit is_limit bytes (answered c ∷ items) (line_awaiting is items) (reply_holds is)))
  reply_damaged bytes false is noise =
      let parts = and_parts (is_noticed enquiry (signals_after limit t.near.station.receiver.past bytes))
      (is_single bytes) noise in
      noise_unawaited bytes is parts.0 parts.1

-- ---- the front item

pub arrives_late : (limit : ℕ) (is_limit : IsLimit limit) (items : List Item) (t : TwoWay)
    → HoldsLate limit (record t { inward = items })
    → HoldsLate limit (arrives limit items (record t { inward = items }))
arrives_late limit is_limit [] t h = h
arrives_late limit is_limit (sent u ∷ items) t h = unit_arrives limit is_limit u items t h
arrives_late limit is_limit (answered c ∷ items) t h =
    reply_arrives limit is_limit c items t h (awaits_reply t.near.station.sender.phase) refl

pub lost_late : (limit : ℕ) (is_limit : IsLimit limit) (items : List Item) (t : TwoWay)
    → HoldsLate limit (record t { inward = items })
    → HoldsLate limit (lost_in items (record t { inward = items }))
lost_late limit is_limit [] t h = h
lost_late limit is_limit (sent u ∷ items) t h = unit_lost limit is_limit u items t h
lost_late limit is_limit (answered c ∷ items) t h = reply_lost limit is_limit c items t h

noise_late :
    (limit : ℕ) (is_limit : IsLimit limit) (bytes : List ℕ) (front : Item) (items : List Item) (t : TwoWay)
    → HoldsLate limit (record t { inward = front ∷ items })
    → is_noise limit (awaits_reply t.near.station.sender.phase) front bytes t.near.station.receiver ≡ true
    → HoldsLate limit (left_line front (comes limit front bytes (record t { inward = items })))
noise_late limit is_limit bytes (sent u) items t h noise = unit_damaged limit is_limit u items t h bytes noise
noise_late limit is_limit bytes (answered c) items t h noise =
    reply_damaged limit is_limit c items t h bytes (awaits_reply t.near.station.sender.phase) refl noise

pub damaged_late : (limit : ℕ) (is_limit : IsLimit limit) (bytes : List ℕ) (items : List Item) (t : TwoWay)
    → HoldsLate limit (record t { inward = items })
    → HoldsLate limit (damaged_in limit bytes items (record t { inward = items }))
damaged_late limit is_limit bytes [] t h = h
damaged_late limit is_limit bytes (front ∷ items) t h =
    cond_both (is_noise limit (awaits_reply t.near.station.sender.phase) front bytes t.near.station.receiver)
    (left_line front (comes limit front bytes (record t { inward = items }))) (record t { inward = front ∷ items })
    (HoldsLate limit)
    (λ noise. noise_late limit is_limit bytes front items t h noise)
    (λ other. h)
