-- A reply in its turn: the sender's step here is its step in the one-directional world.
use Rattle.std.proofs.Common.{◌≡◌, ℕ, ◌+◌, ◌-◌, ◌<◌, ◌≤◌, false, List, [], ◌∷◌, ◌++◌, length, take, drop, refl, sym}
use Rattle.std.proofs.Common.{ap, ◌∙◌, subst, arith}
use Rattle.std.specs.Prelude.{nat_lt, ◌==◌, ◌||◌, cond}
use Rattle.std.proofs.lemmas.Bool.{cond_both}
use Rattle.std.proofs.lemmas.List.{length_push}
use Rattle.lis_text.specs.Control.{ACK, EOT, NAK}
use Rattle.lis_frame.specs.Frame.{FrameContent, IsContent}
use Rattle.lis_frame.specs.Limit.{IsLimit}
use Rattle.lis_link.specs.declared.sender.Phase.{Phase}
use Rattle.lis_link.specs.declared.sender.Phase.TheVariants.{Neutral, AwaitLine, AwaitReply}
use Rattle.lis_link.specs.declared.sender.Outcome.TheVariants.{SixTries}
use Rattle.lis_link.specs.declared.sender.EmitOf.{EmitOf}
use Rattle.lis_link.specs.declared.sender.EmitOf.TheVariants as Emits
use Rattle.lis_link.specs.Sender.{SenderState, SenderStep, gives, ends, sends_first, sends_again, on_accepted, reply_in}
use Rattle.lis_link.specs.Sender.{on_reply, most_tries}
use Rattle.lis_world.specs.Unit.{Load, enquiry, ending, one_frame, Travelling}
use Rattle.lis_world.specs.Session.{Session, session_at, changed, sends_frame}
use Rattle.lis_world.specs.World.{World}
use Rattle.lis_world.specs.Steps.{put_on_link, emitted, sender_steps}
use Rattle.lis_world.proofs.Invariant.{Following, Front, Holds}
use Rattle.lis_world.proofs.Delivery.{next_frame}
use Rattle.lis_world.proofs.Replies.{replied_holds, reply_damaged_holds}
use Rattle.lis_station.specs.declared.station.Turn.{Turn}
use Rattle.lis_station.specs.Station.{StationState}
use Rattle.lis_station.specs.Line.{Item, sent, answered, End, TwoWay, units_of, followed_by, put_out}
use Rattle.lis_station.specs.inside.Line.{answers_of}
use Rattle.lis_station.specs.Line.{emitted_out}
use Rattle.lis_station.specs.Line.{sender_went}
use Rattle.lis_station.proofs.Shadow.{shadow_in, shadow, NoEnquiry, IsFrame, Tail, InOrder, IsDeaf, CanAsk, HoldsOut}
use Rattle.lis_station.proofs.Directions.{units_of-append, units_more, lost_more, order_map}

-- the world of a sender that does not wait, by its phase
abbrev pub exact : SenderState → ℕ → TwoWay → World
exact sender lost t = record {
  sender = sender;
  receiver = t.far.station.receiver;
  units = drop lost (units_of t.outward);
  replies = answers_of t.inward;
  to_drop = t.near.to_drop - lost;
  current = t.near.current;
  opened = t.far.opened;
  sessions = t.near.sessions;
}

put_exact :
    (sender : SenderState) (lost : ℕ) (load : Load) (t : TwoWay)
    → lost ≤ length (units_of t.outward)
    → exact sender lost (put_out load t) ≡ put_on_link load (exact sender lost t)
put_exact sender lost load t within =
    ap (λ us. record (exact sender lost t) { units = us })
    (units_more lost t.outward (record { session = t.near.current; load = load }) within)

emitted_exact :
    {limit : ℕ} (sender : SenderState) (lost : ℕ) (emit : EmitOf limit) (t : TwoWay)
    → lost ≤ length (units_of t.outward)
    → exact sender lost (emitted_out emit t) ≡ emitted emit (exact sender lost t)
emitted_exact sender lost Emits.Nothing t within = refl
emitted_exact sender lost Emits.Enq t within = put_exact sender lost enquiry t within
emitted_exact sender lost Emits.Eot t within = put_exact sender lost ending t within
emitted_exact sender lost Emits.Nak t within = refl
emitted_exact sender lost (Emits.Frame frame) t within =
    put_exact sender lost (one_frame frame)
    (record t { near = record t.near { sessions = changed t.near.current (sends_frame frame) t.near.sessions } }) within

-- a station after its sender's step
abbrev pub sends_on : SenderState → Turn → StationState → StationState
sends_on sender turn s = record s { sender = sender; turn = turn }

-- the sender's step there, if it does not wait after it
pub went_exact :
    {limit : ℕ} (step : SenderStep limit) (turn : Turn) (lost : ℕ) (t : TwoWay)
    → lost ≤ length (units_of t.outward)
    → exact step.after lost (sender_went step (sends_on step.after turn t.near.station) t)
    ≡ sender_steps step (exact t.near.station.sender lost t)
went_exact step turn lost t within =
    emitted_exact step.after lost step.emit
    (record t { near = followed_by (sends_on step.after turn t.near.station) t.near }) within

-- what a step in turn emits
abbrev pub IsTurn : {limit : ℕ} → EmitOf limit → Phase → Type 0
IsTurn Emits.Nothing phase = phase ≡ AwaitReply
IsTurn Emits.Enq phase = ⊥
IsTurn Emits.Eot phase = phase ≡ Neutral
IsTurn Emits.Nak phase = ⊥
IsTurn (Emits.Frame frame) phase = phase ≡ AwaitReply

abbrev StepsInTurn : {limit : ℕ} → SenderStep limit → Type 0
StepsInTurn step = IsTurn step.emit step.after.phase

first_in_turn : (limit : ℕ) (frames : List FrameContent) (s : SenderState)
    → StepsInTurn (sends_first {limit = limit} frames s)
first_in_turn limit [] s = refl
first_in_turn limit (frame ∷ frames) s = refl

again_in_turn : (limit : ℕ) (frames : List FrameContent) (s : SenderState) → s.phase ≡ AwaitReply
    → StepsInTurn (sends_again {limit = limit} frames s)
again_in_turn limit [] s is = is
again_in_turn limit (frame ∷ frames) s is =
    cond_both (nat_lt s.tries most_tries) (gives {limit = limit} (Emits.Frame frame) (record s { tries = s.tries + 1 }))
    (ends {limit = limit} SixTries s) (λ step. StepsInTurn step) (λ few. is) (λ many. refl)

pub in_turn : (limit b : ℕ) (s : SenderState) → s.phase ≡ AwaitReply → StepsInTurn (on_reply {limit = limit} b s)
in_turn limit b s is =
    subst (λ p. StepsInTurn (reply_in {limit = limit} p b s)) (sym is)
    (cond_both (b == ACK || b == EOT) (on_accepted {limit = limit} s)
    (sends_again {limit = limit} (drop s.acknowledged s.frames) s) (λ step. StepsInTurn step)
    (λ yes. first_in_turn limit (drop (s.acknowledged + 1) s.frames) _)
    (λ other. again_in_turn limit (drop s.acknowledged s.frames) s is))

pub no_enquiry_more :
    (limit : ℕ) (us : List Travelling) (u : Travelling)
    → IsFrame limit u.load
    → NoEnquiry limit us
    → NoEnquiry limit (us ++ u ∷ [])
no_enquiry_more limit [] u is h = (is, tt)
no_enquiry_more limit (v ∷ us) u is h = (h.0, no_enquiry_more limit us u is h.1)

-- a frame that is the last unit on its way is one of a text
not_later : (ss : List Session) (vs : List Travelling) (s : ℕ) (f : FrameContent)
    → Following ss (vs ++ record { session = s; load = one_frame f } ∷ []) → ⊥
not_later ss [] s f later = later.0
not_later ss (v ∷ vs) s f later = not_later ss vs s f later.1

last_content_in :
    (limit : ℕ) (is_limit : IsLimit limit) (w : World) (h : Holds limit w) (vs : List Travelling) (s : ℕ)
    (f : FrameContent)
    → Front w.sessions w.receiver.is_open w.opened (vs ++ record { session = s; load = one_frame f } ∷ [])
    → IsContent limit f
last_content_in limit is_limit w h [] s f front =
    (next_frame limit (session_at s w.sessions) front.0.0 f is_limit (h.sound s) front.0.1.sent_is).content
last_content_in limit is_limit w h (v ∷ vs) s f front = absurd (not_later w.sessions vs s f front.1)

pub last_content :
    (limit : ℕ) (is_limit : IsLimit limit) (w : World) (vs : List Travelling) (s : ℕ) (f : FrameContent)
    → w.units ≡ vs ++ record { session = s; load = one_frame f } ∷ []
    → Holds limit w
    → IsContent limit f
last_content limit is_limit w vs s f are h =
    last_content_in limit is_limit w h vs s f (subst (Front w.sessions w.receiver.is_open w.opened) are h.front)

rests_as : (limit lost : ℕ) (t : TwoWay) → t.near.station.sender.phase ≡ Neutral
    → Holds limit (exact t.near.station.sender lost t)
    → Holds limit (shadow lost t)
rests_as limit lost t is h =
    subst (λ p. Holds limit (shadow_in p lost t)) (sym is)
    (subst (λ p. Holds limit (exact (record t.near.station.sender { phase = p }) lost t)) is h)

awaits_as : (limit lost : ℕ) (t : TwoWay) → t.near.station.sender.phase ≡ AwaitReply
    → Holds limit (exact t.near.station.sender lost t)
    → Holds limit (shadow lost t)
awaits_as limit lost t is h =
    subst (λ p. Holds limit (shadow_in p lost t)) (sym is)
    (subst (λ p. Holds limit (exact (record t.near.station.sender { phase = p }) lost t)) is h)

-- a direction after a step in turn
module _ (limit : ℕ) (is_limit : IsLimit limit) (lost : ℕ) (t : TwoWay) (within : lost ≤ length (units_of t.outward))
    (unheard : 0 < lost → t.far.station.receiver.is_open ≡ false)
    (frames : NoEnquiry limit (take lost (units_of t.outward)))
    (order : Tail (IsDeaf limit t) t.inward) where
  -- with a unit that is no ENQ
  unit_out :
      (load : Load) (t' : TwoWay)
      → IsFrame limit load
      → t'.outward ≡ t.outward ++ sent (record { session = t.near.current; load = load }) ∷ []
      → t'.inward ≡ t.inward
      → t'.far ≡ t.far
      → Tail (IsDeaf limit t') t'.inward
  unit_out load t' is out into far =
      let u : Travelling = record { session = t.near.current; load = load } in
      let units : units_of t'.outward ≡ units_of t.outward ++ u ∷ [] = ap units_of out ∙ units_of-append t.outward
      (sent u ∷ []) in
      subst (Tail (IsDeaf limit t')) (sym into)
      (order_map AwaitReply (IsDeaf limit t) (IsDeaf limit t')
      (λ deaf. (
        ap (λ (e : End). e.station.receiver.is_open) far ∙ deaf.0,
        subst (NoEnquiry limit) (sym units) (no_enquiry_more limit (units_of t.outward) u is deaf.1),
      )) t.inward order)

  longer : (u : Travelling) → lost ≤ length (units_of (t.outward ++ sent u ∷ []))
  longer u =
      let one_more : length (units_of (t.outward ++ sent u ∷ [])) ≡ length (units_of t.outward) + 1 =
      ap length (units_of-append t.outward (sent u ∷ [])) ∙ length_push (units_of t.outward) u in
      omega arith

  abbrev after_it : SenderState → Turn → TwoWay
  after_it sender turn = record t { near = followed_by (sends_on sender turn t.near.station) t.near }

  pub turn_out :
      (emit : EmitOf limit) (sender : SenderState) (waits : Turn)
      → IsTurn emit sender.phase
      → Holds limit (exact sender lost (emitted_out emit (after_it sender waits)))
      → HoldsOut limit (emitted_out emit (after_it sender waits))
  turn_out Emits.Enq sender waits turn h = absurd turn
  turn_out Emits.Nak sender waits turn h = absurd turn
  turn_out Emits.Nothing sender waits turn h =
      let t' : TwoWay = after_it sender waits in
      record {
        lost = lost;
        lost_within = within;
        holds = awaits_as limit lost t' turn h;
        lost_unheard = unheard;
        lost_frames = frames;
        in_order = subst (λ p. InOrder p (IsDeaf limit t') t.inward) (sym turn) order;
        can_ask = subst (λ p. CanAsk limit p sender t'.near.current t'.near.sessions) (sym turn) tt;
      }
  turn_out Emits.Eot sender waits turn h =
      let t' : TwoWay = put_out ending (after_it sender waits) in
      let u : Travelling = record { session = t.near.current; load = ending } in
      record {
        lost = lost;
        lost_within = longer u;
        holds = rests_as limit lost t' turn h;
        lost_unheard = unheard;
        lost_frames = subst (NoEnquiry limit) (sym (lost_more lost t.outward u within)) frames;
        in_order = subst (λ p. InOrder p (IsDeaf limit t') t.inward) (sym turn) tt;
        can_ask = subst (λ p. CanAsk limit p sender t'.near.current t'.near.sessions) (sym turn) tt;
      }
  turn_out (Emits.Frame frame) sender waits turn h =
      let t' : TwoWay = emitted_out {limit = limit} (Emits.Frame frame) (after_it sender waits) in
      let u : Travelling = record { session = t.near.current; load = one_frame frame } in
      let content = last_content limit is_limit (exact sender lost t')
      (drop lost (units_of t.outward)) t.near.current frame
      (units_more lost t.outward u within) h in
      record {
        lost = lost;
        lost_within = longer u;
        holds = awaits_as limit lost t' turn h;
        lost_unheard = unheard;
        lost_frames = subst (NoEnquiry limit) (sym (lost_more lost t.outward u within)) frames;
        in_order = subst (λ p. InOrder p (IsDeaf limit t') t.inward) (sym turn)
            (unit_out (one_frame frame) t' content refl refl refl);
        can_ask = subst (λ p. CanAsk limit p sender t'.near.current t'.near.sessions) (sym turn) tt;
      }

-- the front reply reaches a sender that awaits the reply to a frame; as it is, or as NAK
module _ (limit b : ℕ) (is_limit : IsLimit limit) (items : List Item) (t : TwoWay)
    (h : HoldsOut limit (record t { inward = answered b ∷ items }))
    (is : t.near.station.sender.phase ≡ AwaitReply) where
  abbrev went : ℕ → Turn → TwoWay
  went given turn = sender_went {limit = limit} (on_reply given t.near.station.sender)
      (sends_on (on_reply {limit = limit} given t.near.station.sender).after turn t.near.station)
      (record t { inward = items })

  replied_from :
      (given : ℕ) (turn : Turn)
      → Holds limit (sender_steps {limit = limit} (on_reply given (record t.near.station.sender { phase = AwaitReply }))
      (exact (record t.near.station.sender { phase = AwaitReply }) h.lost (record t { inward = items })))
      → HoldsOut limit (went given turn)
  replied_from given turn after =
      let put : Phase → SenderState = λ p. record t.near.station.sender { phase = p } in
      let t1 : TwoWay = record t { inward = items } in
      let step : SenderStep limit = on_reply given t.near.station.sender in
      let here : Holds limit (sender_steps step (exact t.near.station.sender h.lost t1)) =
      subst (λ p. Holds limit (sender_steps {limit = limit} (on_reply given (put p)) (exact (put p) h.lost t1)))
      (sym is) after in
      turn_out limit is_limit h.lost t1 h.lost_within h.lost_unheard h.lost_frames
      (subst (λ p. InOrder p (IsDeaf limit t1) (answered b ∷ items)) is h.in_order) step.emit step.after turn
      (in_turn limit given t.near.station.sender is)
      (subst (Holds limit) (sym (went_exact step turn h.lost t1 h.lost_within)) here)

  before : Holds limit (shadow_in AwaitReply h.lost (record t { inward = answered b ∷ items }))
  before = subst (λ p. Holds limit (shadow_in p h.lost (record t { inward = answered b ∷ items }))) is h.holds

  pub replied_out : (turn : Turn) → HoldsOut limit (went b turn)
  replied_out turn = replied_from b turn (replied_holds limit (b ∷ answers_of items) _ refl before)

  -- or another byte that is no acknowledgement
  pub damaged_out : (c : ℕ) (turn : Turn) → (c == ACK || c == EOT) ≡ false → HoldsOut limit (went c turn)
  damaged_out c turn other =
      let w : World = shadow_in AwaitReply h.lost (record t { inward = answered b ∷ items }) in
      let after : World = sender_steps {limit = limit} (on_reply c w.sender)
      (record w { replies = answers_of items }) in
      replied_from c turn
      (subst (λ t. Holds limit (cond t w after)) other
      (reply_damaged_holds limit c (b ∷ answers_of items) w refl before))

  pub rejected_out : (turn : Turn) → HoldsOut limit (went NAK turn)
  rejected_out turn = replied_from NAK turn (reply_damaged_holds limit NAK (b ∷ answers_of items) _ refl before)

-- ACK to ENQ reaches the sender: the line is its own, and the first frame goes out
module _ (limit : ℕ) (is_limit : IsLimit limit) (items : List Item) (t : TwoWay)
    (h : HoldsOut limit (record t { inward = answered ACK ∷ items }))
    (is : t.near.station.sender.phase ≡ AwaitLine) where
  abbrev given_line : Turn → TwoWay
  given_line turn = sender_went {limit = limit} (on_reply ACK t.near.station.sender)
      (sends_on (on_reply {limit = limit} ACK t.near.station.sender).after turn t.near.station)
      (record t { inward = items })

  pub line_given_out : (turn : Turn) → HoldsOut limit (given_line turn)
  line_given_out turn =
      let sender : SenderState = t.near.station.sender in
      let put : Phase → SenderState = λ p. record sender { phase = p } in
      let t1 : TwoWay = record t { inward = items } in
      let step : SenderStep limit = on_reply ACK sender in
      let before : Holds limit (shadow_in AwaitLine h.lost (record t { inward = answered ACK ∷ items })) =
      subst (λ p. Holds limit (shadow_in p h.lost (record t { inward = answered ACK ∷ items }))) is h.holds in
      let here : Holds limit (sender_steps step (exact sender h.lost t1)) =
      subst (λ p. Holds limit (sender_steps {limit = limit} (on_reply ACK (put p)) (exact (put p) h.lost t1))) (sym is)
      (replied_holds limit (ACK ∷ answers_of items) _ refl before) in
      turn_out limit is_limit h.lost t1 h.lost_within h.lost_unheard h.lost_frames
      (subst (λ p. InOrder p (IsDeaf limit t1) (answered ACK ∷ items)) is h.in_order) step.emit step.after turn
      (subst (λ p. StepsInTurn (reply_in {limit = limit} p ACK sender)) (sym is)
      (first_in_turn limit sender.frames sender))
      (subst (Holds limit) (sym (went_exact step turn h.lost t1 h.lost_within)) here)
