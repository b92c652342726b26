-- The line stays new to a station until it asks for it, whatever both stations do.
use Rattle.std.proofs.Common.{◌≡◌, ℕ, ◌+◌, Bool, true, false, List, [], ◌∷◌, ◌++◌, drop, Option, None, Some}
use Rattle.std.proofs.Common.{refl, sym, ap, ◌∙◌}
use Rattle.std.proofs.Common.{subst}
use Rattle.std.specs.Prelude.{◌==◌, ◌&&◌, ◌||◌, not, cond, nat_lt}
use Rattle.std.specs.Option.{is_none}
use Rattle.std.proofs.lemmas.Bool.{cond_both, and_parts, or_parts, eqb-false, ne_eqb}
use Rattle.std.proofs.lemmas.List.{append-nil}
use Rattle.lis_text.specs.Control.{ENQ, EOT, LF, ACK}
use Rattle.lis_frame.specs.declared.frame.FrameFault.{FrameFault}
use Rattle.lis_frame.specs.declared.scanner.SignalOf.{SignalOf}
use Rattle.lis_frame.specs.declared.scanner.SignalOf.TheVariants.{Enq, Eot, Good, Bad}
use Rattle.lis_frame.specs.Frame.{FrameContent, frame_bytes}
use Rattle.lis_frame.specs.FrameBody.{body_fault}
use Rattle.lis_frame.specs.Limit.{IsLimit}
use Rattle.lis_frame.specs.Stream.{signal_after, signals_after, with_signal, signal_of_fault, ended_body, open_body}
use Rattle.lis_link.specs.declared.sender.Phase.{Phase}
use Rattle.lis_link.specs.declared.sender.Phase.TheVariants.{Neutral, AwaitLine, Busy, Contention, AwaitReply}
use Rattle.lis_link.specs.declared.sender.Outcome.TheVariants.{SixTries}
use Rattle.lis_link.specs.declared.sender.EmitOf.{EmitOf}
use Rattle.lis_link.specs.declared.sender.EmitOf.TheVariants as Emits
use Rattle.lis_link.specs.declared.receiver.Note.TheVariants.{Quiet}
use Rattle.lis_link.specs.Receiver.{ReceiverState, answers, on_byte, heard as receiver_heard, heard_by}
use Rattle.lis_link.specs.Sender.{SenderState, gives, ends, sends_first, sends_again, on_accepted, reply_in, most_tries}
use Rattle.lis_link.specs.Sender.{timer_in, on_sender_timer}
use Rattle.lis_world.specs.Unit.{Load, enquiry, ending, one_frame, Travelling, load_bytes}
use Rattle.lis_world.specs.Steps.{is_noticed}
use Rattle.lis_station.specs.declared.station.StationFault.{StationFault}
use Rattle.lis_station.specs.LeftOut.{waits_no_more_for_late}
use Rattle.lis_station.specs.Station.{StationState, awaits_reply, given_reply, heard, routed, replied, reply_step}
use Rattle.lis_station.specs.Station.{station_fault, timed_by, station_started}
use Rattle.lis_station.specs.Line.{Item, sent, answered, TwoWay, turned, units_of, with_session, texts_of, followed_by}
use Rattle.lis_station.specs.Line.{emitted_out, steps, comes, left_line, item_bytes, arrives, is_noise_to_sender}
use Rattle.lis_station.specs.Line.{is_single, is_noise, has_byte, damaged_in, lost_in, begins_out, asks_anew, room_near}
use Rattle.lis_station.specs.Line.{StationEvent, start, arrive, arrive_without_room, damage, lose, timer, give_up}
use Rattle.lis_station.specs.Line.{close_line, restart, set_ready, ask_turn}
use Rattle.lis_station.specs.inside.Line.{answers_of}
use Rattle.lis_station.proofs.Directions.{units_of-append, answers_of-append}
use Rattle.lis_station.proofs.Noise.{no_reply_out}
use Rattle.lis_station.proofs.Both.{IsNoise}
use Rattle.lis_late_line.specs.Late.{happens_late, timed_late, sender_timed_late}
use Rattle.lis_late_line.specs.Discipline.{on_each_enquiry, is_waiting}
use Rattle.lis_late_line.proofs.Hushed.{StaysAtRest, heard_at_rest}
use Rattle.lis_late_line.proofs.Deaf.{left_by}
use Rattle.lis_late_line.proofs.LateItems.{HoldsLate, front_noise}
use Rattle.lis_late_line.proofs.LateEvents.{IsNoRequest, NoRequest, IsNew, room_late}

pub not_true : (a : Bool) → not a ≡ true → a ≡ false
not_true true e = cc
not_true false e = refl

-- ---- whatever its own station does, but ask for it

abbrev AsksNot : {limit : ℕ} → EmitOf limit → Type 0
AsksNot Emits.Enq = ⊥
AsksNot emit = Unit {0}

request_none : (us : List Travelling) (u : Travelling) → NoRequest us → IsNoRequest u.load → NoRequest (us ++ u ∷ [])
request_none [] u none is = (is, tt)
request_none (v ∷ us) u none is = (none.0, request_none us u none.1 is)

sent_new : (u : Travelling) (t : TwoWay) → IsNoRequest u.load → IsNew t
    → IsNew (record t { outward = t.outward ++ sent u ∷ [] })
sent_new u t is new = record {
  no_request = subst NoRequest (sym (units_of-append t.outward (sent u ∷ [])))
      (request_none (units_of t.outward) u new.no_request is);
  no_answer = new.no_answer;
  far_shut = new.far_shut;
}

emitted_new : {limit : ℕ} (emit : EmitOf limit) (t : TwoWay) → AsksNot emit → IsNew t → IsNew (emitted_out emit t)
emitted_new Emits.Nothing t not new = new
emitted_new Emits.Nak t not new = new
emitted_new Emits.Enq t not new = absurd not
emitted_new Emits.Eot t not new = sent_new (record { session = t.near.current; load = ending }) t tt new
emitted_new (Emits.Frame frame) t not new =
    let u : Travelling = record { session = t.near.current; load = one_frame frame } in
    let out = sent_new u t tt new in
    record { no_request = out.no_request; no_answer = out.no_answer; far_shut = out.far_shut }

-- no reply makes a sender ask
first_not : (limit : ℕ) (frames : List FrameContent) (s : SenderState)
    → AsksNot (sends_first {limit = limit} frames s).emit
first_not limit [] s = tt
first_not limit (frame ∷ frames) s = tt

again_not : (limit : ℕ) (frames : List FrameContent) (s : SenderState)
    → AsksNot (sends_again {limit = limit} frames s).emit
again_not limit [] s = tt
again_not limit (frame ∷ frames) s =
    cond_both (nat_lt s.tries most_tries) (gives {limit = limit} (Emits.Frame frame) (record s { tries = s.tries + 1 }))
    (ends {limit = limit} SixTries s) (λ step. AsksNot step.emit) (λ few. tt) (λ many. tt)

reply_not : (limit : ℕ) (p : Phase) (b : ℕ) (s : SenderState) → AsksNot (reply_in {limit = limit} p b s).emit
reply_not limit Neutral b s =
    cond_both (b == ENQ) (gives {limit = limit} Emits.Nak s) (gives {limit = limit} Emits.Nothing s)
    (λ step. AsksNot step.emit) (λ enq. tt) (λ other. tt)
reply_not limit AwaitLine b s =
    cond_both (b == ACK) (sends_first {limit = limit} s.frames s)
    (cond (b == ENQ) (gives {limit = limit} Emits.Nothing (record s { phase = Contention }))
    (gives {limit = limit} Emits.Nothing (record s { phase = Busy }))) (λ step. AsksNot step.emit)
    (λ ack. first_not limit s.frames s)
    (λ other. cond_both (b == ENQ) (gives {limit = limit} Emits.Nothing (record s { phase = Contention }))
    (gives {limit = limit} Emits.Nothing (record s { phase = Busy })) (λ step. AsksNot step.emit) (λ enq. tt)
    (λ nak. tt))
reply_not limit Busy b s = tt
reply_not limit Contention b s = tt
reply_not limit AwaitReply b s =
    cond_both (b == ACK || b == EOT) (on_accepted {limit = limit} s)
    (sends_again {limit = limit} (drop s.acknowledged s.frames) s) (λ step. AsksNot step.emit)
    (λ yes. first_not limit (drop (s.acknowledged + 1) s.frames) _)
    (λ other. again_not limit (drop s.acknowledged s.frames) s)

-- bytes come
rest_new : (t0 t : TwoWay) → StaysAtRest t0 t → IsNew t0 → IsNew t
rest_new t0 t same new = record {
  no_request = subst NoRequest (sym same.units_same) new.no_request;
  no_answer = ap answers_of same.inward_same ∙ new.no_answer;
  far_shut = ap (λ (s : StationState). s.receiver.is_open) same.far_same ∙ new.far_shut;
}

module _ (limit : ℕ) (item : Item) where
  routed_new : (awaits : Bool) (b : ℕ) (t : TwoWay) → IsNew t
      → IsNew (steps item (routed limit awaits b t.near.station) t)
  routed_new true b t new =
      emitted_new (reply_step {limit = limit} b t.near.station.sender).emit
      (record t { near = followed_by (replied {limit = limit} b t.near.station).after t.near })
      (reply_not limit t.near.station.sender.phase (given_reply t.near.station.sender.phase b) t.near.station.sender)
      (record { no_request = new.no_request; no_answer = new.no_answer; far_shut = new.far_shut })
  routed_new false b t new =
      rest_new t _ (heard_at_rest limit item (on_byte limit b t.near.station.receiver) t) new

  comes_new : (bytes : List ℕ) (t : TwoWay) → IsNew t → IsNew (comes limit item bytes t)
  comes_new [] t new = new
  comes_new (b ∷ bytes) t new =
      comes_new bytes (steps item (routed limit (awaits_reply t.near.station.sender.phase) b t.near.station) t)
      (routed_new (awaits_reply t.near.station.sender.phase) b t new)

left_new : (front : Item) (x : TwoWay) → IsNew x → IsNew (left_line front x)
left_new (sent u) x new = record { no_request = new.no_request; no_answer = new.no_answer; far_shut = new.far_shut }
left_new (answered b) x new = new

after_front : (front : Item) (items : List Item) (t : TwoWay) → IsNew (record t { inward = front ∷ items })
    → IsNew (record t { inward = items })
after_front (sent u) items t new =
    record { no_request = new.no_request; no_answer = new.no_answer; far_shut = new.far_shut }
after_front (answered b) items t new =
    let never = new.no_answer in
    absurd (cc)

module _ (limit : ℕ) (front : Item) (items : List Item) (t : TwoWay)
    (new : IsNew (record t { inward = front ∷ items })) where
  came_new : (bytes : List ℕ) → IsNew (left_line front (comes limit front bytes (record t { inward = items })))
  came_new bytes =
      let t1 : TwoWay = record t { inward = items } in
      left_new front (comes limit front bytes t1) (comes_new limit front bytes t1 (after_front front items t new))

arrives_new : (limit : ℕ) (items : List Item) (t : TwoWay) → IsNew (record t { inward = items })
    → IsNew (arrives limit items (record t { inward = items }))
arrives_new limit [] t new = new
arrives_new limit (front ∷ items) t new = came_new limit front items t new (item_bytes front)

lost_new : (limit : ℕ) (items : List Item) (t : TwoWay) → IsNew (record t { inward = items })
    → IsNew (lost_in items (record t { inward = items }))
lost_new limit [] t new = new
lost_new limit (front ∷ items) t new = came_new limit front items t new []

damaged_new : (limit : ℕ) (bytes : List ℕ) (items : List Item) (t : TwoWay) → IsNew (record t { inward = items })
    → IsNew (damaged_in limit bytes items (record t { inward = items }))
damaged_new limit bytes [] t new = new
damaged_new limit bytes (front ∷ items) t new =
    cond_both (is_noise limit (awaits_reply t.near.station.sender.phase) front bytes t.near.station.receiver)
    (left_line front (comes limit front bytes (record t { inward = items }))) (record t { inward = front ∷ items })
    IsNew
    (λ noise. came_new limit front items t new bytes)
    (λ other. new)

-- what a line's newness is about stays as it is
same_new : (t t' : TwoWay) → t'.outward ≡ t.outward → t'.inward ≡ t.inward → t'.far.station ≡ t.far.station → IsNew t
    → IsNew t'
same_new t t' out into far new = record {
  no_request = subst (λ xs. NoRequest (units_of xs)) (sym out) new.no_request;
  no_answer = ap answers_of into ∙ new.no_answer;
  far_shut = ap (λ (s : StationState). s.receiver.is_open) far ∙ new.far_shut;
}

module _ (limit : ℕ) (t : TwoWay) (new : IsNew t) where
  not_begun : (texts : List (List ℕ)) (fault : Option StationFault) → is_none fault ≡ false
      → IsNew (begins_out limit fault texts t)
  not_begun texts (Some fault) other = new
  not_begun texts None other = cc

  timer_not : (p : Phase) → is_waiting p ≡ false → AsksNot (timer_in {limit = limit} p t.near.station.sender).emit
  timer_not Neutral waits = tt
  timer_not AwaitLine waits = tt
  timer_not Busy waits = cc
  timer_not Contention waits = cc
  timer_not AwaitReply waits = tt

  waited_new : is_waiting t.near.station.sender.phase ≡ false → IsNew (waits_no_more_for_late limit t)
  waited_new waits =
      emitted_new (on_sender_timer {limit = limit} t.near.station.sender).emit
      (record t { near = followed_by (timed_by {limit = limit} false t.near.station).after t.near })
      (timer_not t.near.station.sender.phase waits)
      (record { no_request = new.no_request; no_answer = new.no_answer; far_shut = new.far_shut })

  sender_timer_new : (p : Phase) → t.near.station.sender.phase ≡ p → is_waiting p ≡ false
      → IsNew (sender_timed_late limit p t)
  sender_timer_new Neutral is waits = new
  sender_timer_new AwaitLine is waits = waited_new (ap is_waiting is)
  sender_timer_new Busy is waits = cc
  sender_timer_new Contention is waits = cc
  sender_timer_new AwaitReply is waits = waited_new (ap is_waiting is)

  timer_new : (is_open : Bool) → (not is_open && is_waiting t.near.station.sender.phase) ≡ false
      → IsNew (timed_late limit is_open t)
  timer_new true none = same_new t _ refl refl refl new
  timer_new false none = sender_timer_new t.near.station.sender.phase refl none

  pub near_new : (event : StationEvent) → on_each_enquiry event t.near.station ≡ false
      → IsNew (happens_late limit event t)
  near_new (start texts) none = not_begun texts (station_fault t.near.station texts) none
  near_new arrive none = arrives_new limit t.inward t new
  near_new arrive_without_room none =
      same_new (arrives limit t.inward (room_near false t)) _ refl refl refl
      (arrives_new limit t.inward (room_near false t) (same_new t (room_near false t) refl refl refl new))
  near_new (damage bytes) none = damaged_new limit bytes t.inward t new
  near_new lose none = lost_new limit t.inward t new
  near_new timer none = timer_new t.near.station.receiver.is_open none
  near_new give_up none = same_new t _ refl refl refl new
  near_new close_line none = same_new t _ refl refl refl new
  near_new restart none = same_new t _ refl refl refl new
  near_new (set_ready ready) none = same_new t _ refl refl refl new
  near_new ask_turn none = same_new t _ refl refl refl new

-- ---- and whatever the other station does, whose receiver waits for an ENQ

-- bytes that give no ENQ mean nothing to it
abbrev IsUnasked : {limit : ℕ} → Option (SignalOf limit) → Type 0
IsUnasked None = Unit {0}
IsUnasked (Some Enq) = ⊥
IsUnasked (Some Eot) = Unit {0}
IsUnasked (Some (Good f)) = Unit {0}
IsUnasked (Some (Bad fault)) = Unit {0}

abbrev AreUnasked : {limit : ℕ} → List (SignalOf limit) → Type 0
AreUnasked [] = Unit {0}
AreUnasked (signal ∷ signals) = IsUnasked (Some signal) × AreUnasked signals

body_unasked : (limit : ℕ) (body : List ℕ) (fault : Option FrameFault)
    → IsUnasked {limit = limit} (Some (signal_of_fault body fault))
body_unasked limit body None = tt
body_unasked limit body (Some fault) = tt

ended_unasked : (limit : ℕ) (inner : Option (List ℕ)) → IsUnasked (ended_body limit inner)
ended_unasked limit None = tt
ended_unasked limit (Some body) = body_unasked limit body (body_fault limit body)

byte_unasked : (limit : ℕ) (past : List ℕ) (b : ℕ) → (b == ENQ) ≡ false → IsUnasked (signal_after limit past b)
unfolding signal_after
byte_unasked limit past b other =
    let line_feed : Option (SignalOf limit) = cond (b == LF) (ended_body limit (open_body past)) None in
    let end : Option (SignalOf limit) = cond (b == EOT) (Some Eot) line_feed in
    subst (λ t. IsUnasked (cond t (Some Enq) end)) (sym other)
    (cond_both (b == EOT) (Some Eot) line_feed (λ s. IsUnasked {limit = limit} s) (λ e. tt)
    (λ e. cond_both (b == LF) (ended_body limit (open_body past)) None (λ s. IsUnasked {limit = limit} s)
    (λ e. ended_unasked limit (open_body past)) (λ e. tt)))

unasked_parts : {limit : ℕ} (signal : Option (SignalOf limit)) (signals : List (SignalOf limit))
    → AreUnasked (with_signal signal signals)
    → IsUnasked signal × AreUnasked signals
unasked_parts None signals none = (tt, none)
unasked_parts (Some signal) signals none = none

noticed_unasked : {limit : ℕ} (load : Load) (signals : List (SignalOf limit)) → is_noticed load signals ≡ true
    → AreUnasked signals
noticed_unasked load [] e = tt
noticed_unasked enquiry (x ∷ xs) e = cc
noticed_unasked ending (x ∷ xs) e = cc
noticed_unasked (one_frame f) (Bad fault ∷ []) e = (tt, tt)
noticed_unasked (one_frame f) (Bad fault ∷ x ∷ xs) e = cc
noticed_unasked (one_frame f) (Enq ∷ xs) e = cc
noticed_unasked (one_frame f) (Eot ∷ xs) e = cc
noticed_unasked (one_frame f) (Good g ∷ xs) e = cc

module _ (limit b : ℕ) (t : TwoWay) (shut : t.near.station.receiver.is_open ≡ false) where
  abbrev pasted : ReceiverState
  pasted = record t.near.station.receiver { past = b ∷ t.near.station.receiver.past }

  quiet_is : (signal : Option (SignalOf limit)) → IsUnasked signal
      → receiver_heard signal pasted ≡ answers None Quiet pasted
  quiet_is None none = refl
  quiet_is (Some Enq) none = absurd none
  quiet_is (Some Eot) none = ap (λ o. heard_by {limit = limit} o Eot pasted) shut
  quiet_is (Some (Good f)) none = ap (λ o. heard_by {limit = limit} o (Good f) pasted) shut
  quiet_is (Some (Bad fault)) none = ap (λ o. heard_by {limit = limit} o (Bad fault) pasted) shut

  -- the station has heard one more byte, and nothing else
  abbrev pasted_line : TwoWay
  pasted_line = left_by limit b t (answers None Quiet pasted)

  shut_step : (item : Item) → IsUnasked (signal_after limit t.near.station.receiver.past b)
      → steps item (heard {limit = limit} (on_byte limit b t.near.station.receiver) t.near.station) t ≡ pasted_line
  shut_step item none =
      ap (λ step. steps item (heard {limit = limit} step t.near.station) t)
      (quiet_is (signal_after limit t.near.station.receiver.past b) none) ∙ go item
    where
      go : (item : Item) → steps item (heard {limit = limit} (answers None Quiet pasted) t.near.station) t ≡ pasted_line
      go (sent u) = no_reply_out t.far.to_drop pasted_line
      go (answered c) = no_reply_out t.far.to_drop pasted_line

-- the other side's newness, seen from here
abbrev IsNewThere : TwoWay → Type 0
IsNewThere t = IsNew (turned t)

same_there :
    (t t' : TwoWay)
    → t'.outward ≡ t.outward
    → t'.inward ≡ t.inward
    → t'.near.station.receiver.is_open ≡ t.near.station.receiver.is_open
    → IsNewThere t
    → IsNewThere t'
same_there t t' out into open_same new = record {
  no_request = subst (λ xs. NoRequest (units_of xs)) (sym into) new.no_request;
  no_answer = ap answers_of out ∙ new.no_answer;
  far_shut = open_same ∙ new.far_shut;
}

no_more_answers : (items : List Item) (u : Travelling) → answers_of (items ++ sent u ∷ []) ≡ answers_of items
no_more_answers items u = answers_of-append items (sent u ∷ []) ∙ append-nil (answers_of items)

sent_there : (u : Travelling) (t : TwoWay) → IsNewThere t → IsNewThere (record t { outward = t.outward ++ sent u ∷ [] })
sent_there u t new = record {
  no_request = new.no_request;
  no_answer = no_more_answers t.outward u ∙ new.no_answer;
  far_shut = new.far_shut;
}

emitted_there : {limit : ℕ} (emit : EmitOf limit) (t : TwoWay) → IsNewThere t → IsNewThere (emitted_out emit t)
emitted_there Emits.Nothing t new = new
emitted_there Emits.Nak t new = new
emitted_there Emits.Enq t new =
    sent_there (record { session = t.near.current; load = enquiry }) t new
emitted_there Emits.Eot t new =
    sent_there (record { session = t.near.current; load = ending }) t new
emitted_there (Emits.Frame frame) t new =
    let out = sent_there (record { session = t.near.current; load = one_frame frame }) t new in
    record { no_request = out.no_request; no_answer = out.no_answer; far_shut = out.far_shut }

module _ (limit : ℕ) (item : Item) where
  -- a byte
  sender_there : (b : ℕ) (t : TwoWay) → IsNewThere t → IsNewThere (steps item (routed limit true b t.near.station) t)
  sender_there b t new =
      let after : TwoWay = record t { near = followed_by (replied {limit = limit} b t.near.station).after t.near } in
      emitted_there (reply_step {limit = limit} b t.near.station.sender).emit after
      (same_there t after refl refl refl new)

  receiver_there : (b : ℕ) (t : TwoWay) → IsUnasked (signal_after limit t.near.station.receiver.past b) → IsNewThere t
      → IsNewThere (steps item (routed limit false b t.near.station) t)
  receiver_there b t none new =
      subst IsNewThere (sym (shut_step limit b t new.far_shut item none))
      (same_there t (pasted_line limit b t new.far_shut) refl refl refl new)

  routed_there : (awaits : Bool) (b : ℕ) (t : TwoWay) → IsUnasked (signal_after limit t.near.station.receiver.past b)
      → IsNewThere t
      → IsNewThere (steps item (routed limit awaits b t.near.station) t)
  routed_there true b t none new = sender_there b t new
  routed_there false b t none new = receiver_there b t none new

  -- bytes without an ENQ
  lacking_there : (bytes : List ℕ) (t : TwoWay) → has_byte ENQ bytes ≡ false → IsNewThere t
      → IsNewThere (comes limit item bytes t)
  lacking_there [] t lacks new = new
  lacking_there (b ∷ bytes) t lacks new =
      let parts = or_parts (ENQ == b) (has_byte ENQ bytes) lacks in
      let other : (b == ENQ) ≡ false = ne_eqb b ENQ (λ same. eqb-false ENQ b parts.0 (sym same)) in
      let awaits : Bool = awaits_reply t.near.station.sender.phase in
      lacking_there bytes (steps item (routed limit awaits b t.near.station) t) parts.1
      (routed_there awaits b t (byte_unasked limit t.near.station.receiver.past b other) new)

  -- bytes that give none, while no reply is awaited
  unasked_there : (bytes : List ℕ) (t : TwoWay) → awaits_reply t.near.station.sender.phase ≡ false
      → AreUnasked (signals_after limit t.near.station.receiver.past bytes)
      → IsNewThere t
      → IsNewThere (comes limit item bytes t)
  unasked_there [] t rests none new = new
  unasked_there (b ∷ bytes) t rests none new =
      let parts = unasked_parts (signal_after limit t.near.station.receiver.past b)
      (signals_after limit (b ∷ t.near.station.receiver.past) bytes) none in
      let t1 : TwoWay = pasted_line limit b t new.far_shut in
      subst (λ a. IsNewThere (comes limit item bytes (steps item (routed limit a b t.near.station) t))) (sym rests)
      (subst (λ x. IsNewThere (comes limit item bytes x)) (sym (shut_step limit b t new.far_shut item parts.0))
      (unasked_there bytes t1 rests parts.1 (same_there t t1 refl refl refl new)))

  -- noise to a sender that awaits a reply
  noise_there : (bytes : List ℕ) (t : TwoWay) → awaits_reply t.near.station.sender.phase ≡ true
      → is_noise_to_sender bytes ≡ true
      → IsNewThere t
      → IsNewThere (comes limit item bytes t)
  noise_there [] t awaits noise new = new
  noise_there (b ∷ bytes) t awaits noise new =
      let parts = and_parts (not (b == ACK) && not (has_byte ACK bytes)) (not (has_byte ENQ bytes)) noise in
      subst (λ a. IsNewThere (comes limit item bytes (steps item (routed limit a b t.near.station) t))) (sym awaits)
      (lacking_there bytes (steps item (routed limit true b t.near.station) t) (not_true (has_byte ENQ bytes) parts.1)
      (sender_there b t new))

-- ---- the front item comes there

abbrev front_byte : List ℕ → ℕ
front_byte [] = 0
front_byte (b ∷ bytes) = b

-- a unit that is no ENQ has none among its bytes
unit_lacks : (load : Load) → IsNoRequest load → IsNoise load → has_byte ENQ (load_bytes load) ≡ false
unfolding frame_bytes
unit_lacks enquiry none noise = absurd none
unit_lacks ending none noise = refl
unit_lacks (one_frame f) none noise =
    ap (has_byte ENQ) noise.bytes_are
    ∙ ap (λ b. (ENQ == b) || has_byte ENQ noise.others) (sym (ap front_byte noise.bytes_are)) ∙ noise.lacks_enq

left_there : (front : Item) (x : TwoWay) → IsNewThere x → IsNewThere (left_line front x)
left_there (sent u) x new = record { no_request = new.no_request; no_answer = new.no_answer; far_shut = new.far_shut }
left_there (answered b) x new = new

after_front_there : (front : Item) (items : List Item) (t : TwoWay)
    → IsNewThere (record t { inward = front ∷ items })
    → IsNewThere (record t { inward = items })
after_front_there (sent u) items t new =
    record { no_request = new.no_request.1; no_answer = new.no_answer; far_shut = new.far_shut }
after_front_there (answered b) items t new =
    record { no_request = new.no_request; no_answer = new.no_answer; far_shut = new.far_shut }

noise_by : (limit : ℕ) (front : Item) (bytes : List ℕ) (t : TwoWay) (awaits : Bool)
    → awaits_reply t.near.station.sender.phase ≡ awaits
    → is_noise limit awaits front bytes t.near.station.receiver ≡ true
    → IsNewThere t
    → IsNewThere (comes limit front bytes t)
noise_by limit (sent u) bytes t true is noise new = noise_there limit (sent u) bytes t is noise new
noise_by limit (answered c) bytes t true is noise new =
    noise_there limit (answered c) bytes t is (and_parts (is_noise_to_sender bytes) (is_single bytes) noise).0 new
noise_by limit (sent u) bytes t false is noise new =
    unasked_there limit (sent u) bytes t is
    (noticed_unasked u.load (signals_after limit t.near.station.receiver.past bytes) noise) new
noise_by limit (answered c) bytes t false is noise new =
    let signals : List (SignalOf limit) = signals_after limit t.near.station.receiver.past bytes in
    unasked_there limit (answered c) bytes t is
    (noticed_unasked enquiry signals (and_parts (is_noticed enquiry signals) (is_single bytes) noise).0) new

module _ (limit : ℕ) (is_limit : IsLimit limit) where
  arrives_there : (items : List Item) (t : TwoWay) → HoldsLate limit (record t { inward = items })
      → IsNewThere (record t { inward = items })
      → IsNewThere (arrives limit items (record t { inward = items }))
  arrives_there [] t h new = new
  arrives_there (sent u ∷ items) t h new =
      let t1 : TwoWay = record t { inward = items } in
      left_there (sent u) (comes limit (sent u) (load_bytes u.load) t1)
      (lacking_there limit (sent u) (load_bytes u.load) t1
      (unit_lacks u.load new.no_request.0 (front_noise limit is_limit u items t h))
      (after_front_there (sent u) items t new))
  arrives_there (answered c ∷ items) t h new =
      routed_there limit (answered c) (awaits_reply t.near.station.sender.phase) c (record t { inward = items })
      (byte_unasked limit t.near.station.receiver.past c h.far_answers.0.0)
      (after_front_there (answered c) items t new)

  lost_there : (items : List Item) (t : TwoWay) → IsNewThere (record t { inward = items })
      → IsNewThere (lost_in items (record t { inward = items }))
  lost_there [] t new = new
  lost_there (front ∷ items) t new =
      left_there front (record t { inward = items }) (after_front_there front items t new)

  damaged_there : (bytes : List ℕ) (items : List Item) (t : TwoWay) → IsNewThere (record t { inward = items })
      → IsNewThere (damaged_in limit bytes items (record t { inward = items }))
  damaged_there bytes [] t new = new
  damaged_there bytes (front ∷ items) t new =
      let t1 : TwoWay = record t { inward = items } in
      let awaits : Bool = awaits_reply t.near.station.sender.phase in
      cond_both (is_noise limit awaits front bytes t.near.station.receiver)
      (left_line front (comes limit front bytes t1)) (record t { inward = front ∷ items }) IsNewThere
      (λ noise. left_there front (comes limit front bytes t1)
      (noise_by limit front bytes t1 awaits refl noise (after_front_there front items t new)))
      (λ other. new)

  -- the sender there sends
  begun_there : (texts : List (List ℕ)) (fault : Option StationFault) (t : TwoWay) → IsNewThere t
      → IsNewThere (begins_out limit fault texts t)
  begun_there texts (Some fault) t new = new
  begun_there texts None t new =
      let after : TwoWay =
      record t { near = with_session (station_started limit texts t.near.station) texts t.near } in
      emitted_there {limit = limit} Emits.Enq after (same_there t after refl refl refl new)

  asked_there : (t : TwoWay) → IsNewThere t → IsNewThere (asks_anew limit t)
  asked_there t new =
      let after : TwoWay =
      record t { near = with_session (timed_by {limit = limit} false t.near.station).after (texts_of t.near) t.near } in
      emitted_there {limit = limit} Emits.Enq after (same_there t after refl refl refl new)

  waited_there : (t : TwoWay) → IsNewThere t → IsNewThere (waits_no_more_for_late limit t)
  waited_there t new =
      let after : TwoWay = record t {
        near = followed_by (timed_by {limit = limit} false t.near.station).after t.near;
      } in
      emitted_there (on_sender_timer {limit = limit} t.near.station.sender).emit after
      (same_there t after refl refl refl new)

  timed_there : (p : Phase) (t : TwoWay) → IsNewThere t → IsNewThere (sender_timed_late limit p t)
  timed_there Neutral t new = new
  timed_there AwaitLine t new = waited_there t new
  timed_there Busy t new = asked_there t new
  timed_there Contention t new = asked_there t new
  timed_there AwaitReply t new = waited_there t new

  timer_there : (is_open : Bool) (t : TwoWay) → t.near.station.receiver.is_open ≡ is_open → IsNewThere t
      → IsNewThere (timed_late limit is_open t)
  timer_there true t is new =
      let never : true ≡ false = sym is ∙ new.far_shut in
      absurd (cc)
  timer_there false t is new = timed_there t.near.station.sender.phase t new

  -- its receiver stays closed
  closed_there : (t t' : TwoWay) → t'.outward ≡ t.outward → t'.inward ≡ t.inward
      → t'.near.station.receiver.is_open ≡ false
      → IsNewThere t
      → IsNewThere t'
  closed_there t t' out into shut new = same_there t t' out into (shut ∙ sym new.far_shut) new

  pub far_new : (event : StationEvent) (t : TwoWay) → HoldsLate limit t → IsNew (turned t)
      → IsNew (turned (happens_late limit event t))
  far_new (start texts) t h new = begun_there texts (station_fault t.near.station texts) t new
  far_new arrive t h new = arrives_there t.inward t h new
  far_new arrive_without_room t h new =
      let t0 : TwoWay = room_near false t in
      let x : TwoWay = arrives limit t.inward t0 in
      same_there x (room_near true x) refl refl refl
      (arrives_there t.inward t0 (room_late limit t h false) (same_there t t0 refl refl refl new))
  far_new (damage bytes) t h new = damaged_there bytes t.inward t new
  far_new lose t h new = lost_there t.inward t new
  far_new timer t h new = timer_there t.near.station.receiver.is_open t refl new
  far_new give_up t h new = same_there t (happens_late limit give_up t) refl refl refl new
  far_new close_line t h new = closed_there t (happens_late limit close_line t) refl refl refl new
  far_new restart t h new = closed_there t (happens_late limit restart t) refl refl refl new
  far_new (set_ready ready) t h new = same_there t (happens_late limit (set_ready ready) t) refl refl refl new
  far_new ask_turn t h new = same_there t (happens_late limit ask_turn t) refl refl refl new
