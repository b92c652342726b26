-- Why sessions are safe on a line that answers late: a sender without a session does nothing on a reply. So until its
-- next start all is as if no reply came to what is on its way. At that start nothing is on its way that a reply could
-- give.
use Rattle.std.proofs.Common.{◌≡◌, ℕ, Bool, true, false, inl, inr, List, [], ◌∷◌, length, drop, Option, None, Some}
use Rattle.std.proofs.Common.{refl, sym, ap, ◌∙◌, subst, arith}
use Rattle.std.specs.Prelude.{not, ◌==◌, ◌||◌, if◌then◌else◌}
use Rattle.std.proofs.lemmas.Bool.{cond_both, and_parts, eqb-true}
use Rattle.std.proofs.lemmas.List.{nil_from_length}
use Rattle.lis_text.specs.Control.{ACK, ENQ, EOT}
use Rattle.lis_frame.specs.Limit.{IsLimit}
use Rattle.lis_frame.specs.Stream.{signals_after}
use Rattle.lis_link.specs.declared.sender.Phase.{Phase}
use Rattle.lis_link.specs.declared.sender.Phase.TheVariants.{Neutral, AwaitLine, AwaitReply}
use Rattle.lis_link.specs.declared.sender.Phase.TheVariants as Phases
use Rattle.lis_link.specs.declared.sender.EmitOf.{EmitOf}
use Rattle.lis_link.specs.declared.sender.EmitOf.TheVariants as Emits
use Rattle.lis_link.specs.declared.sender.StartFault.{StartFault}
use Rattle.lis_link.specs.declared.sender.Outcome.{Outcome}
use Rattle.lis_link.specs.Sender.{SenderStep, gives, reply_in, on_reply, timer_in, on_sender_timer, restart_in}
use Rattle.lis_link.specs.Sender.{sender_restarted, start_fault}
use Rattle.lis_link.specs.Receiver.{ReceiverState, receiver_restarted, on_receiver_timer, with_readiness, with_room}
use Rattle.lis_text.specs.declared.readiness.Readiness.TheVariants as Readinesses
use Rattle.lis_world.specs.declared.event.Event.{Event}
use Rattle.lis_world.specs.declared.event.Event.TheVariants.{Start, Deliver, DeliverNoRoom, Damage, Lose, Reply}
use Rattle.lis_world.specs.declared.event.Event.TheVariants.{DamageReply, LoseReply, SenderTimer, ReceiverTimer}
use Rattle.lis_world.specs.declared.event.Event.TheVariants.{RestartSender, RestartReceiver, Ready, Busy, Contending}
use Rattle.lis_world.specs.declared.event.LateEvent.{LateEvent}
use Rattle.lis_world.specs.declared.event.LateEvent.TheVariants.{Happens, Reconnect}
use Rattle.lis_world.specs.Unit.{Load, enquiry, ending, one_frame, load_bytes, Travelling}
use Rattle.lis_world.specs.World.{World, new_world, ComputerState, computer_state_of, hears, lowered, settled}
use Rattle.lis_world.specs.Steps.{with_sender, emitted, sender_steps, begins, delivered, room_at, is_noticed, damaged}
use Rattle.lis_world.specs.Steps.{replied, reply_damaged, forgotten, given_up, after_event}
use Rattle.lis_world.specs.Safe.{Safe}
use Rattle.lis_world.specs.Late.{reconnected, happens_late, after_late_event, late_world, is_empty}
use Rattle.lis_world.specs.inside.Playing.{runs_late}
use Rattle.lis_world.specs.Late.{is_ending, only_endings, is_quiet, reply_may_come, is_answered, SafeWhere}
use Rattle.lis_world.proofs.Invariant.{AllEndings, InPhase, Holds, kept_frames}
use Rattle.lis_world.proofs.Base.{base_of, holds_of, base_forgotten, with_sender_same}
use Rattle.lis_world.proofs.Timers.{all_dropped, sender_timer_phase, restart_phase}
use Rattle.lis_world.proofs.Starting.{can_start, begins_holds}
use Rattle.lis_world.proofs.Safety.{event_holds, new_holds, safe_from_holds}

-- a sender that has no session, and may have ended its last one before the reply to what it had sent
abbrev is_deaf : Phase → Option Outcome → Bool
is_deaf Neutral outcome = reply_may_come outcome
is_deaf AwaitLine outcome = false
is_deaf Phases.Busy outcome = false
is_deaf Phases.Contention outcome = false
is_deaf AwaitReply outcome = false

deaf_neutral : (p : Phase) (outcome : Option Outcome) → is_deaf p outcome ≡ true → p ≡ Neutral
deaf_neutral Neutral outcome is = refl
deaf_neutral AwaitLine outcome is = absurd (cc)
deaf_neutral Phases.Busy outcome is = absurd (cc)
deaf_neutral Phases.Contention outcome is = absurd (cc)
deaf_neutral AwaitReply outcome is = absurd (cc)

-- the world as such a sender hears it: no reply reaches what is on its way
abbrev hush : Bool → World → World
hush true w = forgotten w
hush false w = w

-- the invariant holds of the world as its sender hears it
abbrev pub HoldsHushed : ℕ → World → Type 0
HoldsHushed limit w = Holds limit (hush (is_deaf w.sender.phase w.sender.outcome) w)

-- its sender is deaf
abbrev IsDeaf : World → Type 0
IsDeaf w = is_deaf w.sender.phase w.sender.outcome ≡ true

pub record HoldsLate (limit : ℕ) (w : World) : Type 0 where
  pub unmuted : w.to_drop ≡ 0
  pub hushed : HoldsHushed limit w

forgotten_holds : (limit : ℕ) (w : World) → w.sender.phase ≡ Neutral → Holds limit w → Holds limit (forgotten w)
forgotten_holds limit w is h =
    holds_of limit (forgotten w) (base_forgotten limit w (base_of limit w h)) h.current
    (subst (λ p. InPhase p (forgotten w)) (sym is) (record { no_reply = refl; live_endings = all_dropped w.units }))

pub hushed_from : (limit : ℕ) (w : World) → Holds limit w → HoldsHushed limit w
hushed_from limit w h = go (is_deaf w.sender.phase w.sender.outcome) refl
  where
    go : (deaf : Bool) → is_deaf w.sender.phase w.sender.outcome ≡ deaf → Holds limit (hush deaf w)
    go true is = forgotten_holds limit w (deaf_neutral w.sender.phase w.sender.outcome is) h
    go false is = h

hushed_deaf : (limit : ℕ) (w : World) → IsDeaf w → Holds limit (forgotten w) → HoldsHushed limit w
hushed_deaf limit w is h = subst (λ deaf. Holds limit (hush deaf w)) (sym is) h

-- ---- an event that does the same on both links

-- while the sender is not deaf, both worlds are one
usual_holds :
    (limit : ℕ) (event : Event) (w : World) (deaf : Bool)
    → IsLimit limit
    → is_deaf w.sender.phase w.sender.outcome ≡ deaf
    → Holds limit (hush deaf w)
    → (IsDeaf w → Holds limit (forgotten w) → Holds limit (after_event limit event (forgotten w))
    → HoldsHushed limit (after_event limit event w))
    → HoldsHushed limit (after_event limit event w)
usual_holds limit event w true is_limit is h deaf = deaf is h (event_holds limit event (forgotten w) is_limit h)
usual_holds limit event w false is_limit is h deaf =
    hushed_from limit (after_event limit event w) (event_holds limit event w is_limit h)

usual :
    (limit : ℕ) (event : Event) (w : World)
    → IsLimit limit
    → HoldsLate limit w
    → (IsDeaf w → Holds limit (forgotten w) → Holds limit (after_event limit event (forgotten w))
    → HoldsHushed limit (after_event limit event w))
    → HoldsHushed limit (after_event limit event w)
usual limit event w is_limit h =
    usual_holds limit event w (is_deaf w.sender.phase w.sender.outcome) is_limit refl h.hushed

-- the sender is deaf: a unit leaves the link
deaf_settled : (limit : ℕ) (units : List Travelling) (computer_state : ComputerState) (w : World) → IsDeaf w
    → Holds limit (settled units computer_state (forgotten w)) → HoldsHushed limit (settled units computer_state w)
deaf_settled limit units computer_state w is h =
    hushed_deaf limit (settled units computer_state w) is
    (forgotten_holds limit (settled units computer_state (forgotten w)) (deaf_neutral w.sender.phase w.sender.outcome
    is) h)

deaf_delivered : (limit : ℕ) (units : List Travelling) (w : World) → IsDeaf w
    → Holds limit (delivered limit units (forgotten w)) → HoldsHushed limit (delivered limit units w)
deaf_delivered limit [] w is h = hushed_deaf limit w is h
deaf_delivered limit (u ∷ us) w is h =
    deaf_settled limit us (hears limit u.session (load_bytes u.load) (computer_state_of w)) w is h

deaf_no_room : (limit : ℕ) (units : List Travelling) (w : World) → IsDeaf w
    → Holds limit (room_at true (delivered limit units (room_at false (forgotten w))))
    → HoldsHushed limit (room_at true (delivered limit units (room_at false w)))
deaf_no_room limit [] w is h = hushed_deaf limit (room_at true w) is h
deaf_no_room limit (u ∷ us) w is h =
    let after : ComputerState = hears limit u.session (load_bytes u.load) (computer_state_of (room_at false w)) in
    deaf_settled limit us (record after { receiver = with_room true after.receiver }) w is h

deaf_damaged :
    (limit : ℕ) (bytes : List ℕ) (units : List Travelling) (w : World) → IsDeaf w
    → Holds limit (forgotten w)
    → Holds limit (damaged limit bytes units (forgotten w)) → HoldsHushed limit (damaged limit bytes units w)
deaf_damaged limit bytes [] w is before h = hushed_deaf limit w is h
deaf_damaged limit bytes (u ∷ us) w is before h = go (is_noticed u.load (signals_after limit w.receiver.past bytes)) h
  where
    computer_state : ComputerState
    computer_state = hears limit u.session bytes (computer_state_of w)

    go :
        (noticed : Bool)
        → Holds limit (if noticed then settled us computer_state (forgotten w) else forgotten w)
        → HoldsHushed limit (if noticed then settled us computer_state w else w)
    go true h = deaf_settled limit us computer_state w is h
    go false h = hushed_deaf limit w is h

-- a reply comes, and changes nothing
deaf_heard :
    (limit : ℕ) (b : ℕ) (bs : List ℕ) (w : World) → IsDeaf w
    → Holds limit (forgotten w)
    → HoldsHushed limit (sender_steps {limit = limit} (on_reply b w.sender) (record w { replies = bs }))
deaf_heard limit b bs w is h =
    subst (λ p. HoldsHushed limit (sender_steps {limit = limit} (reply_in p b w.sender) w1))
    (sym (deaf_neutral w.sender.phase w.sender.outcome is))
    (cond_both (b == ENQ) (gives {limit = limit} Emits.Nak w.sender) (gives {limit = limit} Emits.Nothing w.sender)
    (λ step. HoldsHushed limit (sender_steps {limit = limit} step w1))
    (λ enq. same)
    (λ other. same))
  where
    w1 : World
    w1 = record w { replies = bs }

    same : HoldsHushed limit (with_sender w.sender w1)
    same = hushed_deaf limit (with_sender w.sender w1) is
        (subst (Holds limit) (sym (with_sender_same limit (forgotten w) h.current)) h)

deaf_replied : (limit : ℕ) (replies : List ℕ) (w : World) → IsDeaf w
    → Holds limit (forgotten w) → HoldsHushed limit (replied limit replies w)
deaf_replied limit [] w is h = hushed_deaf limit w is h
deaf_replied limit (b ∷ bs) w is h = deaf_heard limit b bs w is h

deaf_reply_damaged : (limit : ℕ) (damage : ℕ) (replies : List ℕ) (w : World) → IsDeaf w
    → Holds limit (forgotten w) → HoldsHushed limit (reply_damaged limit damage replies w)
deaf_reply_damaged limit damage [] w is h = hushed_deaf limit w is h
deaf_reply_damaged limit damage (b ∷ bs) w is h =
    cond_both (damage == ACK || damage == EOT) w (sender_steps {limit = limit} (on_reply damage w.sender)
    (record w { replies = bs })) (HoldsHushed limit)
    (λ yes. hushed_deaf limit w is h)
    (λ no. deaf_heard limit damage bs w is h)

deaf_reply_lost : (limit : ℕ) (w : World) → IsDeaf w
    → Holds limit (forgotten w) → HoldsHushed limit (record w { replies = drop 1 w.replies })
deaf_reply_lost limit w is h = hushed_deaf limit (record w { replies = drop 1 w.replies }) is h

-- the receiver alone changes
deaf_receiver : (limit : ℕ) (r : ReceiverState) (w : World) → IsDeaf w
    → Holds limit (record (forgotten w) { receiver = r }) → HoldsHushed limit (record w { receiver = r })
deaf_receiver limit r w is h = hushed_deaf limit (record w { receiver = r }) is h

-- ---- the sender's timer and restart

-- the sender is deaf: nothing happens
deaf_same : (limit : ℕ) (w : World) → IsDeaf w → Holds limit (forgotten w) → HoldsHushed limit (with_sender w.sender w)
deaf_same limit w is h = hushed_deaf limit (with_sender w.sender w) is
    (subst (Holds limit) (sym (with_sender_same limit (forgotten w) h.current)) h)

deaf_timer : (limit : ℕ) (w : World) (p : Phase) → w.sender.phase ≡ p → IsDeaf w → Holds limit (forgotten w)
    → HoldsHushed limit (sender_steps {limit = limit} (timer_in p w.sender) w)
deaf_timer limit w p is deaf h =
    subst (λ q. HoldsHushed limit (sender_steps {limit = limit} (timer_in q w.sender) w))
    (sym (deaf_neutral w.sender.phase w.sender.outcome deaf) ∙ is) (deaf_same limit w deaf h)

deaf_restart : (limit : ℕ) (w : World) (p : Phase) → w.sender.phase ≡ p → IsDeaf w → Holds limit (forgotten w)
    → HoldsHushed limit (with_sender (restart_in p w.sender) w)
deaf_restart limit w p is deaf h =
    subst (λ q. HoldsHushed limit (with_sender (restart_in q w.sender) w))
    (sym (deaf_neutral w.sender.phase w.sender.outcome deaf) ∙ is) (deaf_same limit w deaf h)

-- it is not: what the other link drops stays on this one, and the sender is deaf from now on
other_timer : (limit : ℕ) (w : World) (p : Phase) → w.sender.phase ≡ p → Holds limit w → InPhase p w
    → HoldsHushed limit (sender_steps {limit = limit} (timer_in p w.sender) w)
other_timer limit w p is h phase = go p is (sender_timer_phase limit w p h (kept_frames limit w p h is) phase)
  where
    go : (p : Phase) → w.sender.phase ≡ p
        → Holds limit (sender_steps {limit = limit} (timer_in p w.sender) (given_up p w))
        → HoldsHushed limit (sender_steps {limit = limit} (timer_in p w.sender) w)
    go Neutral is after = hushed_from limit (with_sender w.sender w) after
    go AwaitLine is after =
        forgotten_holds limit (sender_steps {limit = limit} (timer_in AwaitLine w.sender) (forgotten w)) refl after
    go Phases.Busy is after = after
    go Phases.Contention is after = after
    go AwaitReply is after =
        forgotten_holds limit (sender_steps {limit = limit} (timer_in AwaitReply w.sender) (forgotten w)) refl after

other_restart : (limit : ℕ) (w : World) (p : Phase) → w.sender.phase ≡ p → Holds limit w → InPhase p w
    → HoldsHushed limit (with_sender (restart_in p w.sender) w)
other_restart limit w p is h phase = go p (restart_phase limit w p h is phase)
  where
    go : (p : Phase) → Holds limit (with_sender (restart_in p w.sender) (forgotten w))
        → HoldsHushed limit (with_sender (restart_in p w.sender) w)
    go Neutral after = hushed_from limit (with_sender w.sender w) (subst (Holds limit)
        (sym (with_sender_same limit w h.current)) h)
    go AwaitLine after = after
    go Phases.Busy after = after
    go Phases.Contention after = after
    go AwaitReply after = after

timer_late :
    (limit : ℕ) (w : World) (deaf : Bool)
    → is_deaf w.sender.phase w.sender.outcome ≡ deaf
    → Holds limit (hush deaf w)
    → HoldsHushed limit (sender_steps {limit = limit} (on_sender_timer w.sender) w)
timer_late limit w true is h = deaf_timer limit w w.sender.phase refl is h
timer_late limit w false is h = other_timer limit w w.sender.phase refl h h.phase

restart_late :
    (limit : ℕ) (w : World) (deaf : Bool)
    → is_deaf w.sender.phase w.sender.outcome ≡ deaf
    → Holds limit (hush deaf w)
    → HoldsHushed limit (with_sender (sender_restarted w.sender) w)
restart_late limit w true is h = deaf_restart limit w w.sender.phase refl is h
restart_late limit w false is h = other_restart limit w w.sender.phase refl h h.phase

-- ---- a session starts

-- nothing on the link causes a reply or is one
pub record IsQuiet (w : World) : Type 0 where
  pub no_reply : w.replies ≡ []
  pub endings : AllEndings w.units

-- then the other link has nothing to drop
quiet_holds :
    (limit : ℕ) (w : World)
    → w.to_drop ≡ 0
    → w.sender.phase ≡ Neutral
    → IsQuiet w
    → Holds limit (forgotten w)
    → Holds limit w
quiet_holds limit w unmuted is quiet h = record {
  sound = h.sound;
  to_drop_within = omega arith;
  line = h.line;
  front = h.front;
  current = h.current;
  phase = subst (λ p. InPhase p w) (sym is) (record {
    no_reply = quiet.no_reply;
    live_endings = subst (λ m. AllEndings (drop m w.units)) (sym unmuted) quiet.endings;
  });
}

pub from_quiet : (limit : ℕ) (w : World) → HoldsLate limit w → w.sender.phase ≡ Neutral → IsQuiet w → Holds limit w
from_quiet limit w h neutral quiet = go (is_deaf w.sender.phase w.sender.outcome) h.hushed
  where
    go : (deaf : Bool) → Holds limit (hush deaf w) → Holds limit w
    go true before = quiet_holds limit w h.unmuted neutral quiet before
    go false before = before

-- a rule by which a session starts only if it could on the other link
abbrev pub StartsSafely : ℕ → (World → Bool) → Type 0
StartsSafely limit may_start =
    (w : World) → HoldsLate limit w → w.sender.phase ≡ Neutral → may_start w ≡ true → Holds limit w

start_late :
    (limit : ℕ) (texts : List (List ℕ)) (w : World) (fault : Option StartFault)
    → HoldsLate limit w
    → (w.sender.phase ≡ Neutral → Holds limit w)
    → start_fault w.sender texts ≡ fault
    → HoldsHushed limit (begins limit fault texts w)
start_late limit texts w (Some fault) h now is = h.hushed
start_late limit texts w None h now is = hushed_from limit (begins limit None texts w)
    (begins_holds limit texts w None is (now (can_start w.sender texts is).neutral))

-- ---- the line is connected anew

-- the other link, emptied
abbrev cleared : World → World
cleared w = record (reconnected w) { to_drop = 0 }

phase_cleared : (w : World) (p : Phase) → InPhase p w → InPhase p (cleared w)
phase_cleared w Neutral h = record { no_reply = refl; live_endings = tt }
phase_cleared w AwaitLine h = record {
  unsent = h.unsent;
  none_acknowledged = h.none_acknowledged;
  traffic = inl (refl, tt);
}
phase_cleared w Phases.Busy h = record {
  unsent = h.unsent;
  none_acknowledged = h.none_acknowledged;
  no_reply = refl;
  no_unit = refl;
}
phase_cleared w Phases.Contention h = record {
  unsent = h.unsent;
  none_acknowledged = h.none_acknowledged;
  no_reply = refl;
  no_unit = refl;
}
phase_cleared w AwaitReply h = record {
  before = h.before;
  frame = h.frame;
  left = h.left;
  frames_are = h.frames_are;
  acknowledged_is = h.acknowledged_is;
  pending = record {
    is_session = h.pending.is_session;
    sent_is = h.pending.sent_is;
    accepted_is = h.pending.accepted_is;
    owner_is = λ e. absurd (cc);
  };
  unmuted = refl;
  traffic = inr (refl, inl refl);
}

cleared_holds : (limit : ℕ) (w : World) → Holds limit w → Holds limit (cleared w)
cleared_holds limit w h = record {
  sound = h.sound;
  to_drop_within = omega arith;
  line = λ e. absurd (cc);
  front = tt;
  current = h.current;
  phase = phase_cleared w w.sender.phase h.phase;
}

reconnected_holds : (limit : ℕ) (w : World) → w.to_drop ≡ 0 → Holds limit w → Holds limit (reconnected w)
reconnected_holds limit w unmuted h =
    subst (λ m. Holds limit (record (reconnected w) { to_drop = m })) (sym unmuted) (cleared_holds limit w h)

reconnect_late :
    (limit : ℕ) (w : World) (deaf : Bool)
    → w.to_drop ≡ 0
    → Holds limit (hush deaf w)
    → Holds limit (hush deaf (reconnected w))
reconnect_late limit w true unmuted h = cleared_holds limit (forgotten w) h
reconnect_late limit w false unmuted h = reconnected_holds limit w unmuted h

-- ---- nothing is ever muted

unmuted_emitted : {limit : ℕ} (emit : EmitOf limit) (w : World) → (emitted emit w).to_drop ≡ w.to_drop
unmuted_emitted Emits.Nothing w = refl
unmuted_emitted Emits.Enq w = refl
unmuted_emitted Emits.Eot w = refl
unmuted_emitted Emits.Nak w = refl
unmuted_emitted (Emits.Frame frame) w = refl

unmuted_stepped : {limit : ℕ} (step : SenderStep limit) (w : World) → w.to_drop ≡ 0 → (sender_steps step w).to_drop ≡ 0
unmuted_stepped step w unmuted = unmuted_emitted step.emit (with_sender step.after w) ∙ unmuted

pub unmuted_begun : (limit : ℕ) (fault : Option StartFault) (texts : List (List ℕ)) (w : World) → w.to_drop ≡ 0
    → (begins limit fault texts w).to_drop ≡ 0
unmuted_begun limit (Some fault) texts w unmuted = unmuted
unmuted_begun limit None texts w unmuted = unmuted

unmuted_delivered : (limit : ℕ) (units : List Travelling) (w : World) → w.to_drop ≡ 0
    → (delivered limit units w).to_drop ≡ 0
unmuted_delivered limit [] w unmuted = unmuted
unmuted_delivered limit (u ∷ us) w unmuted = ap lowered unmuted

unmuted_damaged : (limit : ℕ) (bytes : List ℕ) (units : List Travelling) (w : World) → w.to_drop ≡ 0
    → (damaged limit bytes units w).to_drop ≡ 0
unmuted_damaged limit bytes [] w unmuted = unmuted
unmuted_damaged limit bytes (u ∷ us) w unmuted =
    cond_both (is_noticed u.load (signals_after limit w.receiver.past bytes))
    (settled us (hears limit u.session bytes (computer_state_of w)) w) w (λ v. v.to_drop ≡ 0)
    (λ noticed. ap lowered unmuted)
    (λ other. unmuted)

unmuted_replied : (limit : ℕ) (replies : List ℕ) (w : World) → w.to_drop ≡ 0 → (replied limit replies w).to_drop ≡ 0
unmuted_replied limit [] w unmuted = unmuted
unmuted_replied limit (b ∷ bs) w unmuted =
    unmuted_stepped {limit = limit} (on_reply b w.sender) (record w { replies = bs }) unmuted

unmuted_reply_damaged : (limit : ℕ) (damage : ℕ) (replies : List ℕ) (w : World) → w.to_drop ≡ 0
    → (reply_damaged limit damage replies w).to_drop ≡ 0
unmuted_reply_damaged limit damage [] w unmuted = unmuted
unmuted_reply_damaged limit damage (b ∷ bs) w unmuted =
    cond_both (damage == ACK || damage == EOT) w (sender_steps {limit = limit} (on_reply damage w.sender)
    (record w { replies = bs })) (λ v. v.to_drop ≡ 0)
    (λ yes. unmuted)
    (λ no. unmuted_stepped {limit = limit} (on_reply damage w.sender) (record w { replies = bs }) unmuted)

unmuted_after :
    (may_start : World → Bool) (limit : ℕ) (event : Event) (w : World)
    → w.to_drop ≡ 0
    → (happens_late may_start limit event w).to_drop ≡ 0
unmuted_after may_start limit (Start texts) w unmuted =
    cond_both (may_start w) (after_event limit (Start texts) w) w (λ v. v.to_drop ≡ 0)
    (λ may. unmuted_begun limit (start_fault w.sender texts) texts w unmuted)
    (λ may_not. unmuted)
unmuted_after may_start limit Deliver w unmuted = unmuted_delivered limit w.units w unmuted
unmuted_after may_start limit DeliverNoRoom w unmuted = unmuted_delivered limit w.units (room_at false w) unmuted
unmuted_after may_start limit (Damage bytes) w unmuted = unmuted_damaged limit bytes w.units w unmuted
unmuted_after may_start limit Lose w unmuted = unmuted_damaged limit [] w.units w unmuted
unmuted_after may_start limit Reply w unmuted = unmuted_replied limit w.replies w unmuted
unmuted_after may_start limit (DamageReply damage) w unmuted = unmuted_reply_damaged limit damage w.replies w unmuted
unmuted_after may_start limit LoseReply w unmuted = unmuted
unmuted_after may_start limit SenderTimer w unmuted =
    unmuted_stepped {limit = limit} (on_sender_timer w.sender) w unmuted
unmuted_after may_start limit ReceiverTimer w unmuted = unmuted
unmuted_after may_start limit RestartSender w unmuted = unmuted
unmuted_after may_start limit RestartReceiver w unmuted = unmuted
unmuted_after may_start limit Ready w unmuted = unmuted
unmuted_after may_start limit Busy w unmuted = unmuted
unmuted_after may_start limit Contending w unmuted = unmuted

-- ---- the world

hushed_after :
    (may_start : World → Bool) (limit : ℕ) (event : Event) (w : World)
    → IsLimit limit
    → StartsSafely limit may_start
    → HoldsLate limit w
    → HoldsHushed limit (happens_late may_start limit event w)
hushed_after may_start limit (Start texts) w is_limit safely h =
    cond_both (may_start w) (after_event limit (Start texts) w) w (HoldsHushed limit)
    (λ may. start_late limit texts w (start_fault w.sender texts) h (λ neutral. safely w h neutral may) refl)
    (λ may_not. h.hushed)
hushed_after may_start limit Deliver w is_limit safely h =
    usual limit Deliver w is_limit h (λ is before. deaf_delivered limit w.units w is)
hushed_after may_start limit DeliverNoRoom w is_limit safely h =
    usual limit DeliverNoRoom w is_limit h
    (λ is before. deaf_no_room limit w.units w is)
hushed_after may_start limit (Damage bytes) w is_limit safely h =
    usual limit (Damage bytes) w is_limit h (deaf_damaged limit bytes w.units w)
hushed_after may_start limit Lose w is_limit safely h =
    usual limit Lose w is_limit h (λ is before. deaf_damaged limit [] w.units w is before)
hushed_after may_start limit Reply w is_limit safely h =
    usual limit Reply w is_limit h
    (λ is before after. deaf_replied limit w.replies w is before)
hushed_after may_start limit (DamageReply damage) w is_limit safely h =
    usual limit (DamageReply damage) w is_limit h
    (λ is before after. deaf_reply_damaged limit damage w.replies w is before)
hushed_after may_start limit LoseReply w is_limit safely h =
    usual limit LoseReply w is_limit h
    (λ is before after. deaf_reply_lost limit w is before)
hushed_after may_start limit SenderTimer w is_limit safely h =
    timer_late limit w (is_deaf w.sender.phase w.sender.outcome) refl h.hushed
hushed_after may_start limit ReceiverTimer w is_limit safely h =
    usual limit ReceiverTimer w is_limit h
    (λ is before. deaf_receiver limit (on_receiver_timer w.receiver).after w is)
hushed_after may_start limit RestartSender w is_limit safely h =
    restart_late limit w (is_deaf w.sender.phase w.sender.outcome) refl h.hushed
hushed_after may_start limit RestartReceiver w is_limit safely h =
    usual limit RestartReceiver w is_limit h
    (λ is before. deaf_receiver limit (receiver_restarted w.receiver) w is)
hushed_after may_start limit Ready w is_limit safely h =
    usual limit Ready w is_limit h
    (λ is before. deaf_receiver limit (with_readiness Readinesses.Ready w.receiver) w is)
hushed_after may_start limit Busy w is_limit safely h =
    usual limit Busy w is_limit h
    (λ is before. deaf_receiver limit (with_readiness Readinesses.Busy w.receiver) w is)
hushed_after may_start limit Contending w is_limit safely h =
    usual limit Contending w is_limit h
    (λ is before. deaf_receiver limit (with_readiness Readinesses.Contending w.receiver) w is)

pub late_event_holds :
    (may_start : World → Bool) (limit : ℕ) (event : LateEvent) (w : World)
    → IsLimit limit
    → StartsSafely limit may_start
    → HoldsLate limit w
    → HoldsLate limit (after_late_event may_start limit event w)
late_event_holds may_start limit (Happens event) w is_limit safely h = record {
  unmuted = unmuted_after may_start limit event w h.unmuted;
  hushed = hushed_after may_start limit event w is_limit safely h;
}
late_event_holds may_start limit Reconnect w is_limit safely h =
    record {
      unmuted = h.unmuted;
      hushed = reconnect_late limit w (is_deaf w.sender.phase w.sender.outcome) h.unmuted h.hushed;
    }

pub runs_late_hold :
    (may_start : World → Bool) (limit : ℕ) (events : List LateEvent) (w : World)
    → IsLimit limit
    → StartsSafely limit may_start
    → HoldsLate limit w
    → HoldsLate limit (runs_late may_start limit events w)
runs_late_hold may_start limit [] w is_limit safely h = h
runs_late_hold may_start limit (event ∷ events) w is_limit safely h =
    runs_late_hold may_start limit events (after_late_event may_start limit event w) is_limit safely
    (late_event_holds may_start limit event w is_limit safely h)

safe_from_hushed : (limit : ℕ) (w : World) (deaf : Bool) → Holds limit (hush deaf w) → Safe limit w
safe_from_hushed limit w true h = safe_from_holds limit (forgotten w) h
safe_from_hushed limit w false h = safe_from_holds limit w h

pub safe_from_late : (limit : ℕ) (w : World) → HoldsLate limit w → Safe limit w
safe_from_late limit w h = safe_from_hushed limit w (is_deaf w.sender.phase w.sender.outcome) h.hushed

pub new_late : (limit : ℕ) → HoldsLate limit new_world
new_late limit = record { unmuted = refl; hushed = hushed_from limit new_world (new_holds limit) }

pub safe_where : (may_start : World → Bool) (limit : ℕ) → IsLimit limit → StartsSafely limit may_start
    → SafeWhere may_start limit
safe_where may_start limit is_limit safely events =
    safe_from_late limit (late_world may_start limit events)
    (runs_late_hold may_start limit events new_world is_limit safely (new_late limit))

-- ---- the rules

only_endings_all : (units : List Travelling) → only_endings units ≡ true → AllEndings units
only_endings_all [] only = tt
only_endings_all (u ∷ us) only =
    let parts = and_parts (is_ending u.load) (only_endings us) only in
    (go u.load parts.0, only_endings_all us parts.1)
  where
    go : (load : Load) → is_ending load ≡ true → load ≡ ending
    go enquiry is = absurd (cc)
    go ending is = refl
    go (one_frame frame) is = absurd (cc)

none_in : {A : Type 0} (xs : List A) → (length xs == 0) ≡ true → xs ≡ []
none_in xs none = nil_from_length xs (eqb-true (length xs) 0 none)

is_quiet_true : (w : World) → is_quiet w ≡ true → IsQuiet w
is_quiet_true w may =
    let parts = and_parts (only_endings w.units) (length w.replies == 0) may in
    record { no_reply = none_in w.replies parts.1; endings = only_endings_all w.units parts.0 }

is_empty_true : (w : World) → is_empty w ≡ true → IsQuiet w
is_empty_true w may =
    let parts = and_parts (length w.units == 0) (length w.replies == 0) may in
    record {
      no_reply = none_in w.replies parts.1;
      endings = subst AllEndings (sym (none_in w.units parts.0)) tt;
    }

pub empty_starts : (limit : ℕ) → StartsSafely limit is_empty
empty_starts limit w h neutral may = from_quiet limit w h neutral (is_empty_true w may)

pub quiet_starts : (limit : ℕ) → StartsSafely limit is_quiet
quiet_starts limit w h neutral may = from_quiet limit w h neutral (is_quiet_true w may)

-- a sender to which no reply may come is not deaf
pub heard_holds : (limit : ℕ) (w : World) → HoldsLate limit w → w.sender.phase ≡ Neutral
    → reply_may_come w.sender.outcome ≡ false → Holds limit w
heard_holds limit w h neutral answered =
    let hears : is_deaf w.sender.phase w.sender.outcome ≡ false =
    subst (λ p. is_deaf p w.sender.outcome ≡ false) (sym neutral) answered in
    subst (λ deaf. Holds limit (hush deaf w)) hears h.hushed

pub answered_starts : (limit : ℕ) → StartsSafely limit is_answered
answered_starts limit w h neutral may = go (reply_may_come w.sender.outcome) refl may
  where
    go : (early : Bool) → reply_may_come w.sender.outcome ≡ early → (not early || is_quiet w) ≡ true → Holds limit w
    go true is may = from_quiet limit w h neutral (is_quiet_true w may)
    go false is may = heard_holds limit w h neutral is
