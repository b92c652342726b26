-- Bytes of a unit of the other side come while the reply to a frame is awaited. Each counts as a byte that is no
-- acknowledgement: the frame goes out again, or the session ends. What went out before is lost on the other side, whose
-- receiver is closed.
use Rattle.std.proofs.Common.{◌≡◌, ℕ, ◌-◌, ◌≤◌, ◌⊎◌, inl, inr, true, false, List, [], ◌∷◌, length, drop}
use Rattle.std.proofs.Common.{refl, sym, ap, ◌∙◌, subst, arith}
use Rattle.std.specs.Prelude.{◌==◌}
use Rattle.std.proofs.lemmas.Bool.{cond_both, or_parts, eqb-false}
use Rattle.std.proofs.lemmas.List.{drop_all, take_all}
use Rattle.lis_text.specs.Control.{ACK, EOT, NAK}
use Rattle.lis_frame.specs.Limit.{IsLimit}
use Rattle.lis_link.specs.declared.sender.Phase.{Phase}
use Rattle.lis_link.specs.declared.sender.Phase.TheVariants.{Neutral, AwaitReply}
use Rattle.lis_link.specs.declared.sender.EmitOf.{EmitOf}
use Rattle.lis_link.specs.declared.sender.EmitOf.TheVariants as Emits
use Rattle.lis_link.specs.Sender.{SenderState, SenderStep, on_reply}
use Rattle.lis_world.specs.Unit.{ending, one_frame, Travelling}
use Rattle.lis_world.specs.World.{World}
use Rattle.lis_world.specs.Steps.{sender_steps}
use Rattle.lis_world.proofs.Invariant.{IsYes, IsAwaiting, InPhase, Holds}
use Rattle.lis_world.proofs.Base.{Base, base_of, holds_of}
use Rattle.lis_world.proofs.Replies.{replied_holds}
use Rattle.lis_station.specs.declared.station.Turn.{Turn}
use Rattle.lis_station.specs.Station.{awaits_reply, given_reply, turn_after_reply, replied, routed}
use Rattle.lis_station.specs.Line.{Item, sent, TwoWay, units_of, followed_by, emitted_out, sender_went}
use Rattle.lis_station.specs.inside.Line.{answers_of}
use Rattle.lis_station.specs.Line.{steps, comes, has_byte}
use Rattle.lis_station.proofs.Shadow.{shadow_in, NoEnquiry, OnlyUnits, IsDeaf, HoldsOut}
use Rattle.lis_station.proofs.Directions.{units_of-append, units_more}
use Rattle.lis_station.proofs.Hearing.{comes_out}
use Rattle.lis_station.proofs.InTurn.{exact, went_exact, sends_on, IsTurn, in_turn, no_enquiry_more, last_content}
use Rattle.lis_station.proofs.InTurn.{turn_out}
use Rattle.lis_station.proofs.Unheard.{tail_if_units, no_answers_if_units}

-- in the one-directional world: the frame is lost, and a byte that is no acknowledgement comes in the place of its
-- reply
swallowed_holds :
    (limit b : ℕ) (w : World)
    → Holds limit w
    → w.sender.phase ≡ AwaitReply
    → (IsYes b → ⊥)
    → Holds limit (sender_steps {limit = limit} (on_reply b w.sender) (record w { units = []; replies = [] }))
swallowed_holds limit b w h is refused =
    let w1 : World = record w { units = []; replies = b ∷ [] } in
    let awaiting : IsAwaiting w = subst (λ p. InPhase p w) is h.phase in
    let base = base_of limit w h in
    let base1 : Base limit w1 = record {
      sound = base.sound;
      to_drop_within = subst (λ m. m ≤ 0) (sym awaiting.unmuted) (omega arith);
      line = base.line;
      front = tt;
    } in
    let phase1 : IsAwaiting w1 = record {
      before = awaiting.before;
      frame = awaiting.frame;
      left = awaiting.left;
      frames_are = awaiting.frames_are;
      acknowledged_is = awaiting.acknowledged_is;
      pending = awaiting.pending;
      unmuted = awaiting.unmuted;
      traffic = inr (refl, inr (b, refl, λ yes. absurd (refused yes)));
    } in
    replied_holds limit (b ∷ []) w1 refl (holds_of limit w1 base1 h.current (subst (λ p. InPhase p w1) (sym is) phase1))

-- a step in turn leaves the other side deaf, and what comes here as it is
abbrev stepped : SenderState → Turn → TwoWay → TwoWay
stepped sender turn t = record t { near = followed_by (sends_on sender turn t.near.station) t.near }

module _ {limit : ℕ} (sender : SenderState) (turn : Turn) (t : TwoWay) where
  deaf_then :
      (is_limit : IsLimit limit) (lost : ℕ)
      → lost ≤ length (units_of t.outward)
      → (emit : EmitOf limit) (phase : Phase)
      → IsTurn emit phase
      → Holds limit (exact sender lost (emitted_out emit (stepped sender turn t)))
      → IsDeaf limit t
      → IsDeaf limit (emitted_out emit (stepped sender turn t))
  deaf_then is_limit lost within Emits.Nothing phase is h deaf = deaf
  deaf_then is_limit lost within Emits.Enq phase is h deaf = absurd is
  deaf_then is_limit lost within Emits.Nak phase is h deaf = absurd is
  deaf_then is_limit lost within Emits.Eot phase is h deaf =
      let u : Travelling = record { session = t.near.current; load = ending } in (
        deaf.0,
        subst (NoEnquiry limit) (sym (units_of-append t.outward (sent u ∷ [])))
            (no_enquiry_more limit (units_of t.outward) u tt deaf.1),
      )
  deaf_then is_limit lost within (Emits.Frame frame) phase is h deaf =
      let u : Travelling = record { session = t.near.current; load = one_frame frame } in
      let t' : TwoWay = emitted_out {limit = limit} (Emits.Frame frame) (stepped sender turn t) in
      let content = last_content limit is_limit (exact sender lost t')
      (drop lost (units_of t.outward)) t.near.current frame
      (units_more lost t.outward u within) h in (
        deaf.0,
        subst (NoEnquiry limit) (sym (units_of-append t.outward (sent u ∷ [])))
            (no_enquiry_more limit (units_of t.outward) u content deaf.1),
      )

  inward_then : (emit : EmitOf limit) → (emitted_out emit (stepped sender turn t)).inward ≡ t.inward
  inward_then Emits.Nothing = refl
  inward_then Emits.Enq = refl
  inward_then Emits.Nak = refl
  inward_then Emits.Eot = refl
  inward_then (Emits.Frame frame) = refl

  sender_then : (emit : EmitOf limit) → (emitted_out emit (stepped sender turn t)).near.station.sender ≡ sender
  sender_then Emits.Nothing = refl
  sender_then Emits.Enq = refl
  sender_then Emits.Nak = refl
  sender_then Emits.Eot = refl
  sender_then (Emits.Frame frame) = refl

turn_phase : {limit : ℕ} (emit : EmitOf limit) (phase : Phase) → IsTurn emit phase
    → (phase ≡ AwaitReply) ⊎ (phase ≡ Neutral)
turn_phase Emits.Nothing phase is = inl is
turn_phase Emits.Enq phase is = absurd is
turn_phase Emits.Nak phase is = absurd is
turn_phase Emits.Eot phase is = inr is
turn_phase (Emits.Frame frame) phase is = inl is

-- one byte
module _ (limit b : ℕ) (is_limit : IsLimit limit) (turn : Turn) (t : TwoWay) (h : HoldsOut limit t)
    (is : t.near.station.sender.phase ≡ AwaitReply)
    (refused : IsYes b → ⊥) (deaf : IsDeaf limit t) (only : OnlyUnits t.inward) where
  abbrev swallow : SenderStep limit
  swallow = on_reply b t.near.station.sender

  abbrev swallowed : TwoWay
  swallowed = sender_went swallow (sends_on swallow.after turn t.near.station) t

  swallowed_one : HoldsOut limit swallowed × IsDeaf limit swallowed
  swallowed_one =
      let sender : SenderState = t.near.station.sender in
      let put : Phase → SenderState = λ p. record sender { phase = p } in
      let us : List Travelling = units_of t.outward in
      let all : ℕ = length us in
      let w : World = shadow_in AwaitReply h.lost t in
      let hw : Holds limit w = subst (λ p. Holds limit (shadow_in p h.lost t)) is h.holds in
      let awaiting : IsAwaiting w = hw.phase in
      let unmuted = awaiting.unmuted in
      let within = h.lost_within in
      let units_are : drop all us ≡ [] = drop_all all us (omega arith) in
      let count_is : t.near.to_drop - h.lost ≡ t.near.to_drop - all = omega arith in
      let same : record w { units = []; replies = [] } ≡ exact (put AwaitReply) all t =
      ap (λ vs. record w { units = vs; replies = [] }) (sym units_are)
      ∙ ap (λ bs. record w { units = drop all us; replies = bs }) (sym (no_answers_if_units t.inward only))
      ∙ ap (λ m. record w { units = drop all us; replies = answers_of t.inward; to_drop = m }) count_is in
      let here : Holds limit (sender_steps swallow (exact sender all t)) =
      subst (λ p. Holds limit (sender_steps {limit = limit} (on_reply b (put p)) (exact (put p) all t))) (sym is)
      (subst (λ v. Holds limit (sender_steps {limit = limit} (on_reply b (put AwaitReply)) v)) same
      (swallowed_holds limit b w hw refl refused)) in
      let there : Holds limit (exact swallow.after all swallowed) =
      subst (Holds limit) (sym (went_exact swallow turn all t (omega arith))) here in
      let turns = in_turn limit b sender is in (
        turn_out limit is_limit all t (omega arith) (λ some. deaf.0)
            (subst (NoEnquiry limit) (sym (take_all all us (omega arith))) deaf.1)
            (tail_if_units (IsDeaf limit t) t.inward deaf only) swallow.emit swallow.after turn turns there,
        deaf_then swallow.after turn t is_limit all (omega arith) swallow.emit swallow.after.phase turns there deaf,
      )

-- EOT is given as NAK, so nothing but ACK acknowledges
given_is_no : (b : ℕ) → (ACK ≡ b → ⊥) → IsYes (given_reply AwaitReply b) → ⊥
given_is_no b other =
    cond_both (b == EOT) NAK b (λ g. IsYes g → ⊥) nak_is_no
    (λ differs. λ yes. elsewhere (eqb-false b EOT differs) yes)
  where
    nak_is_no : (b == EOT) ≡ true → IsYes NAK → ⊥
    nak_is_no e (inl same) = absurd (omega arith)
    nak_is_no e (inr same) = absurd (omega arith)

    elsewhere : (b ≡ EOT → ⊥) → IsYes b → ⊥
    elsewhere no_end (inl same) = other (sym same)
    elsewhere no_end (inr same) = no_end same

-- all bytes, none of them ACK
pub swallowed_out :
    (limit : ℕ) (is_limit : IsLimit limit) (item : Item) (bytes : List ℕ) (t : TwoWay)
    → HoldsOut limit t
    → (t.near.station.sender.phase ≡ AwaitReply) ⊎ (t.near.station.sender.phase ≡ Neutral)
    → has_byte ACK bytes ≡ false
    → IsDeaf limit t
    → OnlyUnits t.inward
    → HoldsOut limit (comes limit item bytes t)
swallowed_out limit is_limit item [] t h phase none deaf only = h
swallowed_out limit is_limit item (b ∷ bytes) t h (inr neutral) none deaf only =
    comes_out limit item (b ∷ bytes) t (ap awaits_reply neutral) h
swallowed_out limit is_limit item (b ∷ bytes) t h (inl is) none deaf only =
    let sender : SenderState = t.near.station.sender in
    let given : ℕ = given_reply sender.phase b in
    let turn : Turn = turn_after_reply sender.phase b t.near.station.turn in
    let step : SenderStep limit = on_reply given sender in
    let t1 : TwoWay = steps item (replied {limit = limit} b t.near.station) t in
    let parts = or_parts (ACK == b) (has_byte ACK bytes) none in
    let refused : IsYes given → ⊥ =
    subst (λ p. IsYes (given_reply p b) → ⊥) (sym is) (given_is_no b (eqb-false ACK b parts.0)) in
    let turns = in_turn limit given sender is in
    let one : HoldsOut limit t1 × IsDeaf limit t1 = swallowed_one limit given is_limit turn t h is refused deaf only in
    let same : t1.near.station.sender ≡ step.after = sender_then step.after turn t step.emit in
    let awaits : awaits_reply sender.phase ≡ true = ap awaits_reply is in
    subst (λ a. HoldsOut limit (comes limit item bytes (steps item (routed limit a b t.near.station) t))) (sym awaits)
    (swallowed_out limit is_limit item bytes t1 one.0
    (subst (λ (s : SenderState). (s.phase ≡ AwaitReply) ⊎ (s.phase ≡ Neutral)) (sym same)
    (turn_phase step.emit step.after.phase turns))
    parts.1 one.1
    (subst OnlyUnits (sym (inward_then step.after turn t step.emit)) only))
