-- What a loss gives: the sender's timer ends the session, and a later one is carried through.
use Rattle.std.proofs.Common.{◌≡◌, ℕ, zero, suc, ◌<◌, ◌⊎◌, inl, inr, true, false, List, [], ◌∷◌, ◌++◌, length, drop}
use Rattle.std.proofs.Common.{Some}
use Rattle.std.proofs.Common.{refl, sym, ap, ◌∙◌, subst, arith}
use Rattle.std.specs.Prelude.{All}
use Rattle.std.proofs.lemmas.Bool.{cond-true}
use Rattle.std.proofs.lemmas.List.Elements.{All-head, All-tail}
use Rattle.lis_frame.specs.Limit.{IsLimit}
use Rattle.lis_frame.specs.Stream.{signals_after}
use Rattle.lis_link.specs.declared.sender.Phase.TheVariants.{AwaitLine, AwaitReply}
use Rattle.lis_link.specs.declared.sender.Outcome.TheVariants.{TimedOut}
use Rattle.lis_link.specs.declared.sender.StartFault.TheVariants.{InSession}
use Rattle.lis_link.specs.Sender.{SenderState, finished_with, start_fault, start_fault_in, timer_in}
use Rattle.lis_world.specs.declared.event.Event.{Event}
use Rattle.lis_world.specs.declared.event.Event.TheVariants.{Start, Deliver, DeliverNoRoom, Damage, Lose, Reply}
use Rattle.lis_world.specs.declared.event.Event.TheVariants.{DamageReply, LoseReply, SenderTimer, ReceiverTimer}
use Rattle.lis_world.specs.declared.event.Event.TheVariants.{RestartSender, RestartReceiver, Ready, Busy, Contending}
use Rattle.lis_world.specs.Unit.{ending, Travelling, load_bytes}
use Rattle.lis_world.specs.Session.{Session, session_at, changed, follows}
use Rattle.lis_world.specs.World.{World, ComputerState, computer_state_of, hears, replies_with, settled}
use Rattle.lis_world.specs.Steps.{put_on_link, with_sender, sender_steps, begins, delivered, room_at, is_noticed}
use Rattle.lis_world.specs.Steps.{damaged, replied, reply_damaged, forgotten, given_up, after_event, world}
use Rattle.lis_world.specs.inside.Playing.{runs}
use Rattle.lis_world.specs.Recovery.{Loss, unit_is_lost, unit_is_unheard, reply_is_lost, loss_events, IsUnheard}
use Rattle.lis_world.specs.Recovery.{IsAwaitingOne, is_other, IsTimedOut, lost_events, OvercomesLoss}
use Rattle.lis_world.proofs.SessionLemmas.{length-changed, at-changed_same}
use Rattle.lis_world.proofs.Invariant.{RequestTraffic, FrameTraffic}
use Rattle.lis_world.proofs.Invariant.{FrameAnswer, IsAwaiting, InPhase, Holds, AreKept}
use Rattle.lis_world.proofs.Arrival.{kept_refl}
use Rattle.lis_world.proofs.Delivery.{side_of, left_delivered, leads_of}
use Rattle.lis_world.proofs.Safety.{event_holds, runs_hold, new_holds}
use Rattle.lis_world.proofs.Rounds.{by_signals}
use Rattle.lis_world.proofs.Carrying.{runs-append}
use Rattle.lis_world.proofs.Recovering.{world-append, emptied_carries_next}

-- the sender awaits the answer to its ENQ, or to a frame
abbrev Awaits : World → Type 0
Awaits w = (w.sender.phase ≡ AwaitLine) ⊎ (w.sender.phase ≡ AwaitReply)

none_is_some : {A : Type 0} (xs : List A) (x : A) → xs ≡ [] → xs ≡ x ∷ [] → ⊥
none_is_some xs x none one = cc

-- while a unit is on the link no reply is
no_reply_yet : (limit : ℕ) (w : World) (u : Travelling) → Holds limit w → Awaits w → w.units ≡ u ∷ [] → w.replies ≡ []
no_reply_yet limit w u h (inl requests) alone = go (subst (λ p. InPhase p w) requests h.phase).traffic
  where
    go : RequestTraffic w → w.replies ≡ []
    go (inl none) = none.0
    go (inr answered) = absurd (none_is_some w.units u answered.0 alone)
no_reply_yet limit w u h (inr awaits) alone =
    go (subst (λ p. InPhase p w) awaits h.phase) (subst (λ p. InPhase p w) awaits h.phase).traffic
  where
    go :
        (a : IsAwaiting w)
        → FrameTraffic w a.before a.frame
        → w.replies ≡ []
    go a (inl one) = one.1
    go a (inr answered) = absurd (none_is_some w.units u answered.0 alone)

-- and after it one is at most
abbrev AtMostOne : List ℕ → Type 0
AtMostOne replies = (replies ≡ []) ⊎ ((b : ℕ) × (replies ≡ b ∷ []))

one_reply_left : (limit : ℕ) (w : World) → Holds limit w → Awaits w → w.units ≡ [] → AtMostOne w.replies
one_reply_left limit w h (inl requests) none = go (subst (λ p. InPhase p w) requests h.phase).traffic
  where
    go : RequestTraffic w → AtMostOne w.replies
    go (inl no_reply) = inl no_reply.0
    go (inr answered) = inr (answered.1.0, answered.1.1)
one_reply_left limit w h (inr awaits) none =
    go (subst (λ p. InPhase p w) awaits h.phase) (subst (λ p. InPhase p w) awaits h.phase).traffic
  where
    answer : (a : IsAwaiting w) → FrameAnswer w.replies w.sessions w.current a.before a.frame → AtMostOne w.replies
    answer a (inl no_reply) = inl no_reply
    answer a (inr one) = inr (one.0, one.1)

    go :
        (a : IsAwaiting w)
        → FrameTraffic w a.before a.frame
        → AtMostOne w.replies
    go a (inl one) = inl one.1
    go a (inr answered) = answer a answered.1

within_sessions : (limit : ℕ) (w : World) → Holds limit w → Awaits w → w.current < length w.sessions
within_sessions limit w h (inl requests) = (subst (λ p. InPhase p w) requests h.phase).unsent.0
within_sessions limit w h (inr awaits) = (subst (λ p. InPhase p w) awaits h.phase).pending.is_session

-- ---- the unit, or its reply, is lost

-- the unit has left the link, and the sender is as it was
record IsGone (limit : ℕ) (w v : World) : Type 0 where
  holds : Holds limit v
  awaits : Awaits v
  sender_same : v.sender ≡ w.sender
  current_same : v.current ≡ w.current
  no_unit : v.units ≡ []
  kept : AreKept w.sessions v.sessions

-- and no reply comes
record IsCutOff (limit : ℕ) (w v : World) : Type 0 where
  gone : IsGone limit w v
  no_reply : v.replies ≡ []

gone_settled :
    (limit : ℕ) (w v : World) (d : ComputerState) → Awaits w → AreKept w.sessions d.sessions → Holds limit v
    → v ≡ settled [] d w → IsGone limit w v
gone_settled limit w v d awaits kept h is =
    subst (IsGone limit w) (sym is) (record {
      holds = subst (Holds limit) is h;
      awaits = awaits;
      sender_same = refl;
      current_same = refl;
      no_unit = refl;
      kept = kept;
    })

quiet_replies :
    (to_drop : ℕ) (caused replies : List ℕ) → caused ≡ [] → replies ≡ [] → replies_with to_drop caused replies ≡ []
quiet_replies zero caused replies quiet none = ap (λ xs. xs ++ caused) none ∙ quiet
quiet_replies (suc to_drop) caused replies quiet none = none

cut_settled :
    (limit : ℕ) (w v : World) (d : ComputerState)
    → Awaits w → w.replies ≡ [] → d.replies ≡ [] → AreKept w.sessions d.sessions → Holds limit v
    → v ≡ settled [] d w → IsCutOff limit w v
cut_settled limit w v d awaits none quiet kept h is =
    record {
      gone = gone_settled limit w v d awaits kept h is;
      no_reply = ap (λ (x : World). x.replies) is ∙ quiet_replies w.to_drop d.replies w.replies quiet none;
    }

-- bytes without a signal are heard as nothing
record IsUntouched (ss : List Session) (d : ComputerState) : Type 0 where
  quiet : d.replies ≡ []
  kept : AreKept ss d.sessions

unheard :
    (limit s : ℕ) (bytes : List ℕ) (w : World) → signals_after limit w.receiver.past bytes ≡ []
    → IsUntouched w.sessions (hears limit s bytes (computer_state_of w))
unheard limit s bytes w none =
    by_signals (IsUntouched w.sessions) limit s bytes (computer_state_of w) [] none
    (record { quiet = refl; kept = kept_refl w.sessions })

cut_unheard :
    (limit : ℕ) (w : World) (u : Travelling) (bytes : List ℕ)
    → IsLimit limit → Holds limit w → Awaits w → w.units ≡ u ∷ [] → signals_after limit w.receiver.past bytes ≡ []
    → IsCutOff limit w (after_event limit (Damage bytes) w)
cut_unheard limit w u bytes is_limit h awaits alone none =
    let after : ComputerState = hears limit u.session bytes (computer_state_of w) in
    let untouched = unheard limit u.session bytes w none in
    let noticed : is_noticed u.load (signals_after limit w.receiver.past bytes) ≡ true = ap (is_noticed u.load) none in
    cut_settled limit w (after_event limit (Damage bytes) w) after awaits (no_reply_yet limit w u h awaits alone)
    untouched.quiet untouched.kept
    (event_holds limit (Damage bytes) w is_limit h)
    (ap (λ us. damaged limit bytes us w) alone
    ∙ cond-true (is_noticed u.load (signals_after limit w.receiver.past bytes)) (settled [] after w) w noticed)

-- the reply is lost after the unit
lost_after :
    (limit : ℕ) (w v : World) → IsLimit limit → IsGone limit w v
    → IsCutOff limit w (after_event limit LoseReply v)
lost_after limit w v is_limit gone =
    record {
      gone = record {
        holds = event_holds limit LoseReply v is_limit gone.holds;
        awaits = gone.awaits;
        sender_same = gone.sender_same;
        current_same = gone.current_same;
        no_unit = gone.no_unit;
        kept = gone.kept;
      };
      no_reply = go (one_reply_left limit v gone.holds gone.awaits gone.no_unit);
    }
  where
    go : AtMostOne v.replies → drop 1 v.replies ≡ []
    go (inl none) = ap (drop 1) none
    go (inr one) = ap (drop 1) one.1

gone_delivered :
    (limit : ℕ) (w : World) (u : Travelling) → IsLimit limit → Holds limit w → Awaits w → w.units ≡ u ∷ []
    → IsGone limit w (after_event limit Deliver w)
gone_delivered limit w u is_limit h awaits alone =
    let left =
    left_delivered limit u.session u.load (computer_state_of w) is_limit (side_of limit w h)
    (leads_of limit w u [] h alone) in
    gone_settled limit w (after_event limit Deliver w) (hears limit u.session (load_bytes u.load) (computer_state_of w))
    awaits left.kept
    (event_holds limit Deliver w is_limit h) (ap (λ us. delivered limit us w) alone)

cut_off :
    (limit : ℕ) (loss : Loss) (w : World)
    → IsLimit limit → Holds limit w → IsAwaitingOne w → IsUnheard limit w loss
    → IsCutOff limit w (runs limit (loss_events loss) w)
cut_off limit unit_is_lost w is_limit h one silent =
    cut_unheard limit w one.unit [] is_limit h one.awaits one.alone refl
cut_off limit (unit_is_unheard bytes) w is_limit h one silent =
    cut_unheard limit w one.unit bytes is_limit h one.awaits one.alone silent
cut_off limit reply_is_lost w is_limit h one silent =
    lost_after limit w (after_event limit Deliver w) is_limit
    (gone_delivered limit w one.unit is_limit h one.awaits one.alone)

-- ---- nothing but the sender's timer and its restart moves it

cut_same : (limit : ℕ) (w v x : World) → x ≡ v → IsCutOff limit w v → IsCutOff limit w x
cut_same limit w v x is cut = subst (IsCutOff limit w) (sym is) cut

refused_start : (limit : ℕ) (texts : List (List ℕ)) (v : World) → Awaits v → after_event limit (Start texts) v ≡ v
refused_start limit texts v (inl requests) =
    let fault : start_fault v.sender texts ≡ Some InSession = ap (λ p. start_fault_in p texts) requests in
    ap (λ f. begins limit f texts v) fault
refused_start limit texts v (inr awaits) =
    let fault : start_fault v.sender texts ≡ Some InSession = ap (λ p. start_fault_in p texts) awaits in
    ap (λ f. begins limit f texts v) fault

-- what happens to the receiver alone
cut_receiver :
    (limit : ℕ) (w v x : World)
    → Holds limit x → x ≡ record v { receiver = x.receiver } → IsCutOff limit w v → IsCutOff limit w x
cut_receiver limit w v x h is cut =
    let gone = cut.gone in
    subst (IsCutOff limit w) (sym is) (record {
      gone = record {
        holds = subst (Holds limit) is h;
        awaits = gone.awaits;
        sender_same = gone.sender_same;
        current_same = gone.current_same;
        no_unit = gone.no_unit;
        kept = gone.kept;
      };
      no_reply = cut.no_reply;
    })

cut_still :
    (limit : ℕ) (event : Event) (w v : World) → IsLimit limit → is_other event ≡ true → IsCutOff limit w v
    → IsCutOff limit w (after_event limit event v)
cut_still limit (Start texts) w v is_limit other cut =
    cut_same limit w v _ (refused_start limit texts v cut.gone.awaits) cut
cut_still limit Deliver w v is_limit other cut =
    cut_same limit w v _ (ap (λ us. delivered limit us v) cut.gone.no_unit) cut
cut_still limit DeliverNoRoom w v is_limit other cut =
    let is = ap (λ us. room_at true (delivered limit us (room_at false v))) cut.gone.no_unit in
    cut_receiver limit w v _ (event_holds limit DeliverNoRoom v is_limit cut.gone.holds)
    (is ∙ ap (λ (x : World). record v { receiver = x.receiver }) (sym is)) cut
cut_still limit (Damage bytes) w v is_limit other cut =
    cut_same limit w v _ (ap (λ us. damaged limit bytes us v) cut.gone.no_unit) cut
cut_still limit Lose w v is_limit other cut =
    cut_same limit w v _ (ap (λ us. damaged limit [] us v) cut.gone.no_unit) cut
cut_still limit Reply w v is_limit other cut = cut_same limit w v _ (ap (λ rs. replied limit rs v) cut.no_reply) cut
cut_still limit (DamageReply damage) w v is_limit other cut =
    cut_same limit w v _ (ap (λ rs. reply_damaged limit damage rs v) cut.no_reply) cut
cut_still limit LoseReply w v is_limit other cut = lost_after limit w v is_limit cut.gone
cut_still limit SenderTimer w v is_limit other cut = cc
cut_still limit ReceiverTimer w v is_limit other cut =
    cut_receiver limit w v _ (event_holds limit ReceiverTimer v is_limit cut.gone.holds) refl cut
cut_still limit RestartSender w v is_limit other cut = cc
cut_still limit RestartReceiver w v is_limit other cut =
    cut_receiver limit w v _ (event_holds limit RestartReceiver v is_limit cut.gone.holds) refl cut
cut_still limit Ready w v is_limit other cut =
    cut_receiver limit w v _ (event_holds limit Ready v is_limit cut.gone.holds) refl cut
cut_still limit Busy w v is_limit other cut =
    cut_receiver limit w v _ (event_holds limit Busy v is_limit cut.gone.holds) refl cut
cut_still limit Contending w v is_limit other cut =
    cut_receiver limit w v _ (event_holds limit Contending v is_limit cut.gone.holds) refl cut

cut_on :
    (limit : ℕ) (others : List Event) (w v : World)
    → IsLimit limit → All (λ event. is_other event ≡ true) others → IsCutOff limit w v
    → IsCutOff limit w (runs limit others v)
cut_on limit [] w v is_limit all cut = cut
cut_on limit (event ∷ others) w v is_limit all cut =
    cut_on limit others w (after_event limit event v) is_limit (All-tail (λ e. is_other e ≡ true) event others all)
    (cut_still limit event w v is_limit (All-head (λ e. is_other e ≡ true) event others all) cut)

-- ---- the timer

timed_is :
    (limit : ℕ) (v : World) → Awaits v
    → after_event limit SenderTimer v ≡ put_on_link ending (with_sender (finished_with TimedOut v.sender) (forgotten v))
timed_is limit v (inl requests) = ap (λ p. sender_steps {limit = limit} (timer_in p v.sender) (given_up p v)) requests
timed_is limit v (inr awaits) = ap (λ p. sender_steps {limit = limit} (timer_in p v.sender) (given_up p v)) awaits

timed_out_of :
    (limit : ℕ) (w v : World) → IsCutOff limit w v
    → IsTimedOut w (put_on_link ending (with_sender (finished_with TimedOut v.sender) (forgotten v)))
timed_out_of limit w v cut =
    let gone = cut.gone in
    let c : ℕ = v.current in
    let sender : SenderState = finished_with TimedOut v.sender in
    let ss : List Session = changed c (follows sender) v.sessions in
    let within : c < length v.sessions = within_sessions limit v gone.holds gone.awaits in
    let here : session_at w.current ss ≡ follows sender (session_at c v.sessions) =
    ap (λ k. session_at k ss) (sym gone.current_same) ∙ at-changed_same c (follows sender) v.sessions within in
    let kept = gone.kept.each_kept c in
    let before : session_at c w.sessions ≡ session_at w.current w.sessions =
    ap (λ k. session_at k w.sessions) gone.current_same in
    record {
      sender_is = ap (finished_with TimedOut) gone.sender_same;
      as_many = length-changed c (follows sender) v.sessions ∙ gone.kept.length_same;
      texts_same = ap (λ (x : Session). x.texts) here ∙ kept.texts_same ∙ ap (λ (x : Session). x.texts) before;
      sent_same = ap (λ (x : Session). x.sent) here ∙ kept.sent_same ∙ ap (λ (x : Session). x.sent) before;
      acknowledged_same =
          ap (λ (x : Session). x.acknowledged) here ∙ gone.holds.current.acknowledged_is ∙ kept.acknowledged_same
          ∙ ap (λ (x : Session). x.acknowledged) before;
      outcome_is = ap (λ (x : Session). x.outcome) here;
      units_are =
          ap (λ us. us ++ record { session = c; load = ending } ∷ []) gone.no_unit
          ∙ ap (λ k. record { session = k; load = ending } ∷ []) gone.current_same;
      no_reply = refl;
    }

lost_runs :
    (limit : ℕ) (loss : Loss) (others : List Event) (w : World)
    → runs limit (lost_events loss others) w ≡ after_event limit SenderTimer
    (runs limit others (runs limit (loss_events loss) w))
lost_runs limit loss others w =
    runs-append limit (loss_events loss) (others ++ SenderTimer ∷ []) w
    ∙ runs-append limit others (SenderTimer ∷ []) (runs limit (loss_events loss) w)

timed_out :
    (limit : ℕ) (events others : List Event) (loss : Loss)
    → IsLimit limit
    → IsAwaitingOne (world limit events)
    → IsUnheard limit (world limit events) loss
    → All (λ event. is_other event ≡ true) others
    → IsTimedOut (world limit events) (world limit (events ++ lost_events loss others))
timed_out limit events others loss is_limit one silent all =
    let w : World = world limit events in
    let h : Holds limit w = runs_hold limit events _ is_limit (new_holds limit) in
    let v : World = runs limit others (runs limit (loss_events loss) w) in
    let cut =
    cut_on limit others w (runs limit (loss_events loss) w) is_limit all (cut_off limit loss w is_limit h one silent) in
    let is : world limit (events ++ lost_events loss others)
    ≡ put_on_link ending (with_sender (finished_with TimedOut v.sender) (forgotten v)) =
    world-append limit events (lost_events loss others) ∙ lost_runs limit loss others w
    ∙ timed_is limit v cut.gone.awaits in
    subst (IsTimedOut w) (sym is) (timed_out_of limit w v cut)

pub overcomes_loss : (limit : ℕ) → IsLimit limit → OvercomesLoss limit
overcomes_loss limit is_limit events others loss one silent all =
    let after : IsTimedOut (world limit events) (world limit (events ++ lost_events loss others)) =
    timed_out limit events others loss is_limit one silent all in
    let few = ap length after.units_are in (
      after,
      λ leaving. emptied_carries_next limit (events ++ lost_events loss others) (leaving ∷ []) is_limit
          (ap (λ (s : SenderState). s.phase) after.sender_is)
          (omega arith),
    )
