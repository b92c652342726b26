-- What comes while a reply is awaited, seen from the sender here: the reply, another byte in its place, or bytes of a
-- unit.
use Rattle.std.proofs.Common.{◌≡◌, ℕ, inl, true, false, List, [], ◌∷◌, refl, sym, ap, ◌∙◌, subst}
use Rattle.std.specs.Prelude.{◌==◌, ◌||◌, cond}
use Rattle.std.proofs.lemmas.Bool.{cond_both, eqb-false, ne_eqb}
use Rattle.lis_text.specs.Control.{ACK, ENQ, EOT, NAK}
use Rattle.lis_frame.specs.Limit.{IsLimit}
use Rattle.lis_link.specs.declared.sender.Phase.TheVariants.{AwaitLine, Busy, Contention, AwaitReply}
use Rattle.lis_link.specs.declared.sender.EmitOf.TheVariants as Emits
use Rattle.lis_link.specs.Sender.{SenderState, SenderStep, gives, sends_first, reply_in, on_reply}
use Rattle.lis_world.specs.Unit.{Travelling}
use Rattle.lis_station.specs.declared.station.Turn.{Turn}
use Rattle.lis_station.specs.Station.{awaits_reply, given_reply, turn_after_reply, replied, routed}
use Rattle.lis_station.specs.Line.{Item, sent, answered, TwoWay, sender_went, steps, comes, has_byte}
use Rattle.lis_station.proofs.Shadow.{InOrder, IsDeaf, HoldsOut}
use Rattle.lis_station.proofs.Hearing.{comes_out}
use Rattle.lis_station.proofs.PutOff.{busy_out, contention_out}
use Rattle.lis_station.proofs.InTurn.{sends_on, line_given_out, replied_out, rejected_out, damaged_out}
use Rattle.lis_station.proofs.Unheard.{unit_unheard}
use Rattle.lis_station.proofs.Swallowed.{swallowed_out}

module _ (limit : ℕ) (is_limit : IsLimit limit) (item : Item) (items : List Item) (t : TwoWay)
    (h : HoldsOut limit (record t { inward = item ∷ items })) where
  abbrev here : TwoWay
  here = record t { inward = items }

  abbrev sender : SenderState
  sender = t.near.station.sender

  -- a step of the sender
  abbrev by_step : SenderStep limit → Turn → TwoWay
  by_step step turn = sender_went step (sends_on step.after turn t.near.station) here

  -- it is the station's, if a reply is awaited
  first_byte :
      (b : ℕ) (bytes : List ℕ)
      → awaits_reply sender.phase ≡ true
      → HoldsOut limit (comes limit item bytes (steps item (replied {limit = limit} b t.near.station) here))
      → HoldsOut limit (comes limit item (b ∷ bytes) here)
  first_byte b bytes awaits after =
      subst (λ a. HoldsOut limit (comes limit item bytes (steps item (routed limit a b t.near.station) here)))
      (sym awaits)
      after

  -- ---- ENQ was sent, and the byte is no ACK

  abbrev Rests : SenderStep limit → Turn → Type 0
  Rests step turn =
      HoldsOut limit (by_step step turn) × (awaits_reply (by_step step turn).near.station.sender.phase ≡ false)

  put_off : (is : sender.phase ≡ AwaitLine) (b : ℕ) (turn : Turn) → (ACK == b) ≡ false
      → Rests (reply_in {limit = limit} AwaitLine b sender) turn
  put_off is b turn other =
      let differs : (b == ACK) ≡ false = ne_eqb b ACK (λ same. eqb-false ACK b other (sym same)) in
      let contends : SenderStep limit = gives Emits.Nothing (record sender { phase = Contention }) in
      let is_busy : SenderStep limit = gives Emits.Nothing (record sender { phase = Busy }) in
      subst (λ c. Rests (cond c (sends_first {limit = limit} sender.frames sender) (cond (b == ENQ) contends is_busy))
      turn)
      (sym differs)
      (cond_both (b == ENQ) contends is_busy (λ step. Rests step turn)
      (λ e. (contention_out limit (record t { inward = item ∷ items }) h is turn items, refl))
      (λ e. (busy_out limit (record t { inward = item ∷ items }) h is turn items, refl)))

  pub line_noise_out :
      (b : ℕ) (bytes : List ℕ)
      → sender.phase ≡ AwaitLine
      → (ACK == b) ≡ false
      → HoldsOut limit (comes limit item (b ∷ bytes) here)
  line_noise_out b bytes is other =
      let turn : Turn = turn_after_reply sender.phase b t.near.station.turn in
      let rests : Rests (reply_in {limit = limit} sender.phase (given_reply sender.phase b) sender) turn =
      subst (λ p. Rests (reply_in {limit = limit} p (given_reply p b) sender) turn) (sym is)
      (put_off is b turn other) in
      first_byte b bytes (ap awaits_reply is)
      (comes_out limit item bytes (steps item (replied {limit = limit} b t.near.station) here) rests.1 rests.0)

-- ACK to ENQ
pub line_given :
    (limit : ℕ) (is_limit : IsLimit limit) (items : List Item) (t : TwoWay)
    → HoldsOut limit (record t { inward = answered ACK ∷ items })
    → t.near.station.sender.phase ≡ AwaitLine
    → HoldsOut limit (comes limit (answered ACK) (ACK ∷ []) (record t { inward = items }))
line_given limit is_limit items t h is =
    let sender : SenderState = t.near.station.sender in
    let turn : Turn = turn_after_reply sender.phase ACK t.near.station.turn in
    first_byte limit is_limit (answered ACK) items t h ACK [] (ap awaits_reply is)
    (subst (λ p. HoldsOut limit (sender_went {limit = limit} (reply_in sender.phase (given_reply p ACK) sender)
    (sends_on (reply_in {limit = limit} sender.phase (given_reply p ACK) sender).after turn t.near.station)
    (record t { inward = items }))) (sym is) (line_given_out limit is_limit items t h is turn))

-- a byte in the place of the reply to a frame: the reply itself, or one that is no ACK
module _ (limit : ℕ) (is_limit : IsLimit limit) (b : ℕ) (items : List Item) (t : TwoWay)
    (h : HoldsOut limit (record t { inward = answered b ∷ items }))
    (is : t.near.station.sender.phase ≡ AwaitReply) where
  abbrev answered_by : ℕ → Turn → TwoWay
  answered_by given turn = by_step limit is_limit (answered b) items t h
      (on_reply {limit = limit} given t.near.station.sender) turn

  given_out : (c : ℕ) (turn : Turn) → ((c == EOT) ≡ false → HoldsOut limit (answered_by c turn))
      → HoldsOut limit (answered_by (given_reply AwaitReply c) turn)
  given_out c turn other =
      cond_both (c == EOT) NAK c (λ given. HoldsOut limit (answered_by given turn))
      (λ e. rejected_out limit b is_limit items t h is turn) other

  one_byte : (c : ℕ) → ((turn : Turn) → (c == EOT) ≡ false → HoldsOut limit (answered_by c turn))
      → HoldsOut limit (comes limit (answered b) (c ∷ []) (record t { inward = items }))
  one_byte c other =
      let sender : SenderState = t.near.station.sender in
      let turn : Turn = turn_after_reply sender.phase c t.near.station.turn in
      first_byte limit is_limit (answered b) items t h c [] (ap awaits_reply is)
      (subst (λ p. HoldsOut limit (answered_by (given_reply p c) turn)) (sym is) (given_out c turn (other turn)))

  pub frame_answered : HoldsOut limit (comes limit (answered b) (b ∷ []) (record t { inward = items }))
  frame_answered = one_byte b (λ turn e. replied_out limit b is_limit items t h is turn)

  pub frame_answer_damaged : (c : ℕ) → (ACK == c) ≡ false
      → HoldsOut limit (comes limit (answered b) (c ∷ []) (record t { inward = items }))
  frame_answer_damaged c none =
      let differs : (c == ACK) ≡ false = ne_eqb c ACK (λ same. eqb-false ACK c none (sym same)) in
      one_byte c (λ turn e. damaged_out limit b is_limit items t h is c turn
      (ap (λ x. x || c == EOT) differs ∙ e))

-- bytes of a unit in the place of the reply to a frame
pub frame_noise_out :
    (limit : ℕ) (is_limit : IsLimit limit) (u : Travelling) (bytes : List ℕ) (items : List Item) (t : TwoWay)
    → HoldsOut limit (record t { inward = sent u ∷ items })
    → t.near.station.sender.phase ≡ AwaitReply
    → has_byte ACK bytes ≡ false
    → HoldsOut limit (comes limit (sent u) bytes (record t { inward = items }))
frame_noise_out limit is_limit u bytes items t h is none =
    let order = subst (λ p. InOrder p (IsDeaf limit t) (sent u ∷ items)) is h.in_order in
    swallowed_out limit is_limit (sent u) bytes (record t { inward = items }) (unit_unheard limit items t u h)
    (inl is) none
    order.0 order.1
