-- Each event at a station keeps both directions.
use Rattle.std.proofs.Common.{◌≡◌, ℕ, Bool, true, false, List, [], ◌∷◌, Option, None, Some}
use Rattle.std.proofs.Common.{refl, sym, ap, ◌∙◌, subst}
use Rattle.std.specs.Prelude.{◌==◌, ◌&&◌, ◌||◌, not}
use Rattle.std.proofs.lemmas.Bool.{cond_both, eqb-true, eqb-false, ne_eqb}
use Rattle.lis_text.specs.Control.{ACK, ENQ}
use Rattle.lis_frame.specs.declared.scanner.SignalOf.{SignalOf}
use Rattle.lis_frame.specs.Limit.{IsLimit}
use Rattle.lis_frame.specs.Stream.{signal_after, signals_after, with_signal}
use Rattle.lis_link.specs.declared.sender.Phase.{Phase}
use Rattle.lis_link.specs.declared.sender.Phase.TheVariants.{Neutral, AwaitLine, Busy, Contention, AwaitReply}
use Rattle.lis_world.specs.Unit.{enquiry, Travelling, load_bytes}
use Rattle.lis_world.specs.Steps.{is_noticed}
use Rattle.lis_station.specs.Laws.{IsExclusive}
use Rattle.lis_station.specs.Station.{StationState, awaits_reply, routed}
use Rattle.lis_station.specs.Line.{Item, sent, answered, TwoWay, turned}
use Rattle.lis_station.specs.Line.{steps, comes, left_line, arrives, is_single, has_byte}
use Rattle.lis_station.specs.Line.{is_noise_to_sender, is_noise, damaged_in, lost_in}
use Rattle.lis_station.proofs.Shadow.{HoldsOut}
use Rattle.lis_station.proofs.Hearing.{comes_out}
use Rattle.lis_station.proofs.FarUnits.{far_sender_out}
use Rattle.lis_station.proofs.Unheard.{reply_unheard, unit_unheard}
use Rattle.lis_station.proofs.Arrived.{arrived_whole}
use Rattle.lis_station.proofs.Noise.{unit_gone, answer_gone, unit_noise_back, answer_noise_back}
use Rattle.lis_station.proofs.Awaited.{line_noise_out, line_given, frame_answered, frame_answer_damaged}
use Rattle.lis_station.proofs.Awaited.{frame_noise_out}
use Rattle.lis_station.proofs.Damaged.{EndsAtMost, arrived_damaged, answer_heard_back}
use Rattle.lis_station.proofs.Both.{AllAnswers, answer_ends, NotContending, Near}
use Rattle.lis_station.proofs.Both.{comes_near, unit_noise}

pub record HoldsBoth (limit : ℕ) (t : TwoWay) : Type 0 where
  pub out : HoldsOut limit t
  pub back : HoldsOut limit (turned t)
  pub near_exclusive : IsExclusive t.near.station
  pub far_exclusive : IsExclusive t.far.station
  pub near_fair : NotContending t.near.station.receiver.readiness
  pub far_fair : NotContending t.far.station.receiver.readiness
  pub near_answers : AllAnswers t.outward
  pub far_answers : AllAnswers t.inward

pub turned_both : (limit : ℕ) (t : TwoWay) → HoldsBoth limit t → HoldsBoth limit (turned t)
turned_both limit t h = record {
  out = h.back;
  back = h.out;
  near_exclusive = h.far_exclusive;
  far_exclusive = h.near_exclusive;
  near_fair = h.far_fair;
  far_fair = h.near_fair;
  near_answers = h.far_answers;
  far_answers = h.near_answers;
}

-- ---- an item comes

answers_after : (front : Item) (items : List Item) → AllAnswers (front ∷ items) → AllAnswers items
answers_after (sent u) items h = h
answers_after (answered b) items h = h.1

pub shut_if_awaits :
    (s : StationState) → IsExclusive s → awaits_reply s.sender.phase ≡ true → s.receiver.is_open ≡ false
shut_if_awaits s exclusive awaits = go s.receiver.is_open refl
  where
    go : (is_open : Bool) → s.receiver.is_open ≡ is_open → is_open ≡ false
    go true e =
        let none : true ≡ false = sym awaits ∙ exclusive e in
        none
    go false e = refl

module _ (limit : ℕ) (front : Item) (items : List Item) (t : TwoWay)
    (h : HoldsBoth limit (record t { inward = front ∷ items })) where
  left_both :
      (front : Item) (x : TwoWay)
      → HoldsOut limit x
      → HoldsOut limit (turned (left_line front x))
      → Near (record t { inward = items }) x
      → AllAnswers items
      → HoldsBoth limit (left_line front x)
  left_both (sent u) x out back near answers = record {
    out = far_sender_out limit x (left_line (sent u) x).far refl refl out;
    back = back;
    near_exclusive = near.exclusive;
    far_exclusive = subst IsExclusive (sym near.far_same) h.far_exclusive;
    near_fair = near.fair;
    far_fair = subst (λ (s : StationState). NotContending s.receiver.readiness) (sym near.far_same) h.far_fair;
    near_answers = near.answers;
    far_answers = subst AllAnswers (sym near.inward_same) answers;
  }
  left_both (answered b) x out back near answers = record {
    out = out;
    back = back;
    near_exclusive = near.exclusive;
    far_exclusive = subst IsExclusive (sym near.far_same) h.far_exclusive;
    near_fair = near.fair;
    far_fair = subst (λ (s : StationState). NotContending s.receiver.readiness) (sym near.far_same) h.far_fair;
    near_answers = near.answers;
    far_answers = subst AllAnswers (sym near.inward_same) answers;
  }

  item_left :
      (bytes : List ℕ)
      → HoldsOut limit (comes limit front bytes (record t { inward = items }))
      → HoldsOut limit (turned (left_line front (comes limit front bytes (record t { inward = items }))))
      → HoldsBoth limit (left_line front (comes limit front bytes (record t { inward = items })))
  item_left bytes out back =
      let t0 : TwoWay = record t { inward = items } in
      left_both front (comes limit front bytes t0) out back
      (comes_near limit front bytes t0 t0 (record {
        exclusive = h.near_exclusive;
        fair = h.near_fair;
        answers = h.near_answers;
        far_same = refl;
        inward_same = refl;
      }))
      (answers_after front items h.far_answers)

-- a unit
module _ (limit : ℕ) (is_limit : IsLimit limit) (u : Travelling) (items : List Item) (t : TwoWay)
    (h : HoldsBoth limit (record t { inward = sent u ∷ items })) where
  abbrev unit_came : List ℕ → TwoWay
  unit_came bytes = left_line (sent u) (comes limit (sent u) bytes (record t { inward = items }))

  unit_out : (bytes : List ℕ) → awaits_reply t.near.station.sender.phase ≡ false
      → HoldsOut limit (comes limit (sent u) bytes (record t { inward = items }))
  unit_out bytes rests =
      comes_out limit (sent u) bytes (record t { inward = items }) rests (unit_unheard limit items t u h.out)

  unit_whole : awaits_reply t.near.station.sender.phase ≡ false → HoldsBoth limit (unit_came (load_bytes u.load))
  unit_whole rests =
      item_left limit (sent u) items t h (load_bytes u.load) (unit_out (load_bytes u.load) rests)
      (arrived_whole limit is_limit u items t rests h.back)

  unit_damaged :
      (bytes : List ℕ)
      → awaits_reply t.near.station.sender.phase ≡ false
      → is_noticed u.load (signals_after limit t.near.station.receiver.past bytes) ≡ true
      → HoldsBoth limit (unit_came bytes)
  unit_damaged bytes rests noticed =
      item_left limit (sent u) items t h bytes (unit_out bytes rests)
      (arrived_damaged limit is_limit u bytes items t rests noticed h.back)

  pub unit_lost : HoldsBoth limit (unit_came [])
  unit_lost = item_left limit (sent u) items t h [] (unit_unheard limit items t u h.out)
      (unit_gone limit u items t h.back)

  -- bytes of it, or others, come for replies
  noise_out : (p : Phase) (b : ℕ) (bytes : List ℕ) → t.near.station.sender.phase ≡ p → awaits_reply p ≡ true
      → (ACK == b) ≡ false → has_byte ACK (b ∷ bytes) ≡ false
      → HoldsOut limit (comes limit (sent u) (b ∷ bytes) (record t { inward = items }))
  noise_out Neutral b bytes is awaits other none = cc
  noise_out AwaitLine b bytes is awaits other none =
      line_noise_out limit is_limit (sent u) items t h.out b bytes is other
  noise_out Busy b bytes is awaits other none = cc
  noise_out Contention b bytes is awaits other none = cc
  noise_out AwaitReply b bytes is awaits other none =
      frame_noise_out limit is_limit u (b ∷ bytes) items t h.out is none

  unit_noisy :
      (b : ℕ) (bytes : List ℕ)
      → awaits_reply t.near.station.sender.phase ≡ true
      → (ACK == b) ≡ false
      → has_byte ACK (b ∷ bytes) ≡ false
      → has_byte ENQ bytes ≡ false
      → HoldsBoth limit (unit_came (b ∷ bytes))
  unit_noisy b bytes awaits other none no_enquiry =
      item_left limit (sent u) items t h (b ∷ bytes)
      (noise_out t.near.station.sender.phase b bytes refl awaits other none)
      (unit_noise_back limit is_limit items t b bytes awaits no_enquiry
      (shut_if_awaits t.near.station h.near_exclusive awaits) u h.back)

  pub unit_arrives : (awaits : Bool) → awaits_reply t.near.station.sender.phase ≡ awaits
      → HoldsBoth limit (unit_came (load_bytes u.load))
  unit_arrives true is =
      let noise = unit_noise limit is_limit u items t h.back in
      subst (λ bytes. HoldsBoth limit (unit_came bytes)) (sym noise.bytes_are)
      (unit_noisy noise.first noise.others is noise.no_ack noise.lacks_ack noise.lacks_enq)
  unit_arrives false is = unit_whole is

-- a reply
module _ (limit : ℕ) (is_limit : IsLimit limit) (c : ℕ) (items : List Item) (t : TwoWay)
    (h : HoldsBoth limit (record t { inward = answered c ∷ items })) where
  abbrev reply_came : List ℕ → TwoWay
  reply_came bytes = comes limit (answered c) bytes (record t { inward = items })

  reply_late :
      (b : ℕ)
      → awaits_reply t.near.station.sender.phase ≡ false
      → EndsAtMost (signal_after limit t.near.station.receiver.past b)
      → HoldsBoth limit (reply_came (b ∷ []))
  reply_late b rests most =
      let t0 : TwoWay = record t { inward = items } in
      item_left limit (answered c) items t h (b ∷ [])
      (comes_out limit (answered c) (b ∷ []) t0 rests (reply_unheard limit items t c h.out))
      (subst (λ a. HoldsOut limit (turned (steps (answered c) (routed limit a b t.near.station) t0))) (sym rests)
      (answer_heard_back limit c t0 (answer_gone limit c items t h.back) b most))

  reply_in_time :
      (b : ℕ)
      → awaits_reply t.near.station.sender.phase ≡ true
      → HoldsOut limit (comes limit (answered c) (b ∷ []) (record t { inward = items }))
      → HoldsBoth limit (reply_came (b ∷ []))
  reply_in_time b awaits out =
      item_left limit (answered c) items t h (b ∷ []) out
      (answer_noise_back limit is_limit items t b [] awaits refl (shut_if_awaits t.near.station h.near_exclusive awaits)
      c h.back)

  pub reply_lost : HoldsBoth limit (reply_came [])
  reply_lost =
      item_left limit (answered c) items t h [] (reply_unheard limit items t c h.out)
      (answer_gone limit c items t h.back)

  line_answered : t.near.station.sender.phase ≡ AwaitLine → (is_ack : Bool) → (ACK == c) ≡ is_ack
      → HoldsOut limit (comes limit (answered c) (c ∷ []) (record t { inward = items }))
  line_answered is true same =
      let e : ACK ≡ c = eqb-true ACK c same in
      subst (λ b. HoldsOut limit (record t { inward = answered b ∷ items })
      → HoldsOut limit (comes limit (answered b) (b ∷ []) (record t { inward = items }))) e
      (λ given. line_given limit is_limit items t given is) h.out
  line_answered is false other = line_noise_out limit is_limit (answered c) items t h.out c [] is other

  answered_out : (p : Phase) → t.near.station.sender.phase ≡ p → awaits_reply p ≡ true
      → HoldsOut limit (comes limit (answered c) (c ∷ []) (record t { inward = items }))
  answered_out Neutral is awaits = cc
  answered_out AwaitLine is awaits = line_answered is (ACK == c) refl
  answered_out Busy is awaits = cc
  answered_out Contention is awaits = cc
  answered_out AwaitReply is awaits = frame_answered limit is_limit c items t h.out is

  damaged_answer_out : (p : Phase) (b : ℕ) → t.near.station.sender.phase ≡ p → awaits_reply p ≡ true
      → (ACK == b) ≡ false
      → HoldsOut limit (comes limit (answered c) (b ∷ []) (record t { inward = items }))
  damaged_answer_out Neutral b is awaits other = cc
  damaged_answer_out AwaitLine b is awaits other = line_noise_out limit is_limit
      (answered c) items t h.out b [] is other
  damaged_answer_out Busy b is awaits other = cc
  damaged_answer_out Contention b is awaits other = cc
  damaged_answer_out AwaitReply b is awaits other = frame_answer_damaged limit is_limit c items t h.out is b other

  pub reply_arrives : (awaits : Bool) → awaits_reply t.near.station.sender.phase ≡ awaits
      → HoldsBoth limit (reply_came (c ∷ []))
  reply_arrives true is = reply_in_time c is (answered_out t.near.station.sender.phase refl is)
  reply_arrives false is = reply_late c is (answer_ends limit t.near.station.receiver.past c h.far_answers.0)

pub arrives_both : (limit : ℕ) (is_limit : IsLimit limit) (items : List Item) (t : TwoWay)
    → HoldsBoth limit (record t { inward = items })
    → HoldsBoth limit (arrives limit items (record t { inward = items }))
arrives_both limit is_limit [] t h = h
arrives_both limit is_limit (sent u ∷ items) t h =
    unit_arrives limit is_limit u items t h (awaits_reply t.near.station.sender.phase) refl
arrives_both limit is_limit (answered c ∷ items) t h =
    reply_arrives limit is_limit c items t h (awaits_reply t.near.station.sender.phase) refl

pub lost_both : (limit : ℕ) (is_limit : IsLimit limit) (items : List Item) (t : TwoWay)
    → HoldsBoth limit (record t { inward = items })
    → HoldsBoth limit (lost_in items (record t { inward = items }))
lost_both limit is_limit [] t h = h
lost_both limit is_limit (sent u ∷ items) t h = unit_lost limit is_limit u items t h
lost_both limit is_limit (answered c ∷ items) t h = reply_lost limit is_limit c items t h

-- ---- damage

and_parts : (a b : Bool) → (a && b) ≡ true → (a ≡ true) × (b ≡ true)
and_parts true b e = (refl, e)
and_parts false b e = cc

not_true : (a : Bool) → not a ≡ true → a ≡ false
not_true true e = cc
not_true false e = refl

turned_test : (b : ℕ) → (b == ACK) ≡ false → (ACK == b) ≡ false
turned_test b e = ne_eqb ACK b (λ same. eqb-false b ACK e (sym same))

pub record IsSenderNoise (b : ℕ) (bytes : List ℕ) : Type 0 where
  pub no_ack : (ACK == b) ≡ false
  pub lacks_ack : has_byte ACK bytes ≡ false
  pub lacks_enq : has_byte ENQ bytes ≡ false

pub sender_noise : (b : ℕ) (bytes : List ℕ) → is_noise_to_sender (b ∷ bytes) ≡ true → IsSenderNoise b bytes
sender_noise b bytes e =
    let last = and_parts (not (b == ACK) && not (has_byte ACK bytes)) (not (has_byte ENQ bytes)) e in
    let both = and_parts (not (b == ACK)) (not (has_byte ACK bytes)) last.0 in
    record {
      no_ack = turned_test b (not_true (b == ACK) both.0);
      lacks_ack = not_true (has_byte ACK bytes) both.1;
      lacks_enq = not_true (has_byte ENQ bytes) last.1;
    }

quiet_if_noticed : {limit : ℕ} (signal : Option (SignalOf limit)) → is_noticed enquiry (with_signal signal []) ≡ true
    → EndsAtMost signal
quiet_if_noticed None e = tt
quiet_if_noticed (Some x) e = cc

unit_noise_both :
    (limit : ℕ) (is_limit : IsLimit limit) (bytes : List ℕ) (u : Travelling) (items : List Item) (t : TwoWay)
    → HoldsBoth limit (record t { inward = sent u ∷ items })
    → awaits_reply t.near.station.sender.phase ≡ true
    → is_noise_to_sender bytes ≡ true
    → HoldsBoth limit (left_line (sent u) (comes limit (sent u) bytes (record t { inward = items })))
unit_noise_both limit is_limit [] u items t h awaits noise = unit_lost limit is_limit u items t h
unit_noise_both limit is_limit (b ∷ bytes) u items t h awaits noise =
    let parts = sender_noise b bytes noise in
    unit_noisy limit is_limit u items t h b bytes awaits parts.no_ack
    (ap (λ x. x || has_byte ACK bytes) parts.no_ack ∙ parts.lacks_ack) parts.lacks_enq

reply_noise_both :
    (limit : ℕ) (is_limit : IsLimit limit) (bytes : List ℕ) (c : ℕ) (items : List Item) (t : TwoWay)
    → HoldsBoth limit (record t { inward = answered c ∷ items })
    → awaits_reply t.near.station.sender.phase ≡ true
    → is_noise_to_sender bytes ≡ true
    → is_single bytes ≡ true
    → HoldsBoth limit (comes limit (answered c) bytes (record t { inward = items }))
reply_noise_both limit is_limit [] c items t h awaits noise single = cc
reply_noise_both limit is_limit (b ∷ []) c items t h awaits noise single =
    reply_in_time limit is_limit c items t h b awaits
    (damaged_answer_out limit is_limit c items t h t.near.station.sender.phase b refl awaits
    (sender_noise b [] noise).no_ack)
reply_noise_both limit is_limit (b ∷ b' ∷ bytes) c items t h awaits noise single = cc

late_noise_both :
    (limit : ℕ) (is_limit : IsLimit limit) (bytes : List ℕ) (c : ℕ) (items : List Item) (t : TwoWay)
    → HoldsBoth limit (record t { inward = answered c ∷ items })
    → awaits_reply t.near.station.sender.phase ≡ false
    → is_noticed enquiry (signals_after limit t.near.station.receiver.past bytes) ≡ true
    → is_single bytes ≡ true
    → HoldsBoth limit (comes limit (answered c) bytes (record t { inward = items }))
late_noise_both limit is_limit [] c items t h rests noise single = cc
late_noise_both limit is_limit (b ∷ []) c items t h rests noise single =
    reply_late limit is_limit c items t h b rests
    (quiet_if_noticed (signal_after limit t.near.station.receiver.past b) noise)
late_noise_both limit is_limit (b ∷ b' ∷ bytes) c items t h rests noise single = cc

noise_both :
    (limit : ℕ) (is_limit : IsLimit limit) (bytes : List ℕ) (front : Item) (items : List Item) (t : TwoWay)
    → HoldsBoth limit (record t { inward = front ∷ items })
    → (awaits : Bool)
    → awaits_reply t.near.station.sender.phase ≡ awaits
    → is_noise limit awaits front bytes t.near.station.receiver ≡ true
    → HoldsBoth limit (left_line front (comes limit front bytes (record t { inward = items })))
noise_both limit is_limit bytes (sent u) items t h true is noise =
    unit_noise_both limit is_limit bytes u items t h is noise
noise_both limit is_limit bytes (answered c) items t h true is noise =
    let parts = and_parts (is_noise_to_sender bytes) (is_single bytes) noise in
    reply_noise_both limit is_limit bytes c items t h is parts.0 parts.1
noise_both limit is_limit bytes (sent u) items t h false is noise =
    unit_damaged limit is_limit u items t h bytes is noise
noise_both limit is_limit bytes (answered c) items t h false is noise =
    let parts = and_parts (is_noticed enquiry (signals_after limit t.near.station.receiver.past bytes))
    (is_single bytes) noise in
    late_noise_both limit is_limit bytes c items t h is parts.0 parts.1

pub damaged_both : (limit : ℕ) (is_limit : IsLimit limit) (bytes : List ℕ) (items : List Item) (t : TwoWay)
    → HoldsBoth limit (record t { inward = items })
    → HoldsBoth limit (damaged_in limit bytes items (record t { inward = items }))
damaged_both limit is_limit bytes [] t h = h
damaged_both limit is_limit bytes (front ∷ items) t h =
    cond_both (is_noise limit (awaits_reply t.near.station.sender.phase) front bytes t.near.station.receiver)
    (left_line front (comes limit front bytes (record t { inward = items }))) (record t { inward = front ∷ items })
    (HoldsBoth limit)
    (λ noise. noise_both limit is_limit bytes front items t h (awaits_reply t.near.station.sender.phase) refl noise)
    (λ other. h)
