-- Timers and restarts of both ends, and the receiver's readiness.
use Rattle.std.proofs.Common.{◌≡◌, ℕ, ◌<◌, inl, inr, Bool, true, false, List, [], ◌∷◌, ◌++◌, length, drop, Some}
use Rattle.std.proofs.Common.{refl, sym, ap, ◌∙◌, subst, arith}
use Rattle.std.proofs.lemmas.List.{drop_all}
use Rattle.lis_frame.specs.Frame.{FrameContent}
use Rattle.lis_frame.specs.Pieces.{session_frames}
use Rattle.lis_link.specs.declared.sender.Phase.{Phase}
use Rattle.lis_link.specs.declared.sender.Phase.TheVariants.{Neutral, AwaitLine, Busy, Contention, AwaitReply}
use Rattle.lis_link.specs.declared.sender.Outcome.{Outcome}
use Rattle.lis_link.specs.declared.sender.Outcome.TheVariants.{Done, TimedOut, Restarted}
use Rattle.lis_link.specs.Sender.{SenderState, finished_with, timer_in, restart_in}
use Rattle.lis_link.specs.Receiver.{ReceiverState, timer_by, on_receiver_timer}
use Rattle.lis_world.specs.Unit.{Load, enquiry, ending, one_frame, Travelling}
use Rattle.lis_world.specs.Session.{Session, session_at, changed, follows}
use Rattle.lis_world.specs.World.{World}
use Rattle.lis_world.specs.Steps.{put_on_link, with_sender, sender_steps, forgotten, given_up}
use Rattle.lis_world.proofs.Invariant.{RequestTraffic}
use Rattle.lis_world.proofs.Invariant.{Pending, Unsent, Leads, Front, AllEndings, Requests, IsWaiting}
use Rattle.lis_world.proofs.Invariant.{KeepsFrames, InPhase, Holds}
use Rattle.lis_world.proofs.Base.{base_of, holds_of, CanFollow, base_forgotten, base_placed, base_followed}
use Rattle.lis_world.proofs.Base.{current_followed, unsent_same, are_same_followed, with_sender_same}
use Rattle.lis_world.proofs.Sending.{zero_to_drop, ended_holds, ended_with_ending}
use Rattle.lis_world.proofs.Replies.{can_follow, can_follow_as}

pub all_dropped : (us : List Travelling) → AllEndings (drop (length us) us)
all_dropped us = subst AllEndings (sym (drop_all (length us) us (omega arith))) tt

-- a session that ends for another reason than that it is done
can_stop :
    (limit : ℕ) (w : World) (outcome : Outcome)
    → Holds limit w
    → (Some outcome ≡ Some Done → ⊥)
    → CanFollow limit (finished_with outcome w.sender) (session_at w.current w.sessions)
can_stop limit w outcome h other =
    let can = can_follow limit w h in
    record {
      frames_are = tt;
      acknowledged_of_accepted = can.acknowledged_of_accepted;
      done_acknowledged = λ done. absurd (other done);
    }

timed_out : (limit : ℕ) (w : World) → Holds limit w → w.current < length w.sessions
    → Holds limit (sender_steps {limit = limit} (timer_in AwaitLine w.sender) (forgotten w))
timed_out limit w h within =
    ended_with_ending limit (finished_with TimedOut w.sender) (forgotten w)
    (base_forgotten limit w (base_of limit w h)) within (can_stop limit w TimedOut h (λ e. cc)) refl refl
    (all_dropped w.units)

-- the sender asks for the line once more
asks_again :
    (limit : ℕ) (w : World)
    → Holds limit w
    → w.sender.frames ≡ session_frames limit (session_at w.current w.sessions).texts
    → IsWaiting w
    → Holds limit (sender_steps {limit = limit} (timer_in Busy w.sender) w)
asks_again limit w h kept waiting =
    let sender : SenderState = record w.sender { phase = AwaitLine } in
    let now = can_follow_as limit w sender h refl refl kept in
    let w1 : World = with_sender sender w in
    let unsent : Unsent w1.sessions w1.current =
    unsent_same w.sessions (changed w.current (follows sender) w.sessions) w.current
    (are_same_followed w.current sender w.sessions) waiting.unsent in
    let request : Travelling = record { session = w.current; load = enquiry } in
    let unmuted : w.to_drop ≡ 0 = zero_to_drop w.to_drop w.units h.to_drop_within waiting.no_unit in
    let live : drop w.to_drop (w.units ++ request ∷ []) ≡ request ∷ [] =
    ap (λ m. drop m (w.units ++ request ∷ [])) unmuted ∙ ap (λ us. us ++ request ∷ []) waiting.no_unit in
    holds_of limit (put_on_link enquiry w1) (base_placed limit enquiry w1 unsent
    (base_followed limit sender w now (base_of limit w h)))
    (current_followed limit sender w waiting.unsent.0 now)
    (record {
      unsent = unsent;
      none_acknowledged = waiting.none_acknowledged;
      traffic = inl (waiting.no_reply, subst (Requests w.current) (sym live) ((refl, refl), λ e. tt));
    })

pub sender_timer_phase :
    (limit : ℕ) (w : World) (p : Phase)
    → Holds limit w
    → KeepsFrames p w.sender.frames (session_frames limit (session_at w.current w.sessions).texts)
    → InPhase p w
    → Holds limit (sender_steps {limit = limit} (timer_in p w.sender) (given_up p w))
sender_timer_phase limit w Neutral h kept resting = subst (Holds limit) (sym (with_sender_same limit w h.current)) h
sender_timer_phase limit w AwaitLine h kept requesting = timed_out limit w h requesting.unsent.0
sender_timer_phase limit w Busy h kept waiting = asks_again limit w h kept waiting
sender_timer_phase limit w Contention h kept waiting = asks_again limit w h kept waiting
sender_timer_phase limit w AwaitReply h kept awaiting = timed_out limit w h awaiting.pending.is_session

pub sender_timer_holds :
    (limit : ℕ) (w : World) → Holds limit w → Holds limit
    (sender_steps {limit = limit} (timer_in w.sender.phase w.sender) (given_up w.sender.phase w))
sender_timer_holds limit w h = sender_timer_phase limit w w.sender.phase h h.current.frames_are h.phase

restarted_in :
    (limit : ℕ) (w : World)
    → Holds limit w
    → w.current < length w.sessions
    → Holds limit (with_sender (finished_with Restarted w.sender) (forgotten w))
restarted_in limit w h within =
    ended_holds limit (finished_with Restarted w.sender) (forgotten w)
    (base_forgotten limit w (base_of limit w h)) within (can_stop limit w Restarted h (λ e. cc)) refl refl
    (all_dropped w.units)

pub restart_phase :
    (limit : ℕ) (w : World) (p : Phase)
    → Holds limit w
    → w.sender.phase ≡ p
    → InPhase p w
    → Holds limit (with_sender (restart_in p w.sender) (forgotten w))
restart_phase limit w Neutral h is resting =
    subst (Holds limit) (sym (with_sender_same limit (forgotten w) h.current))
    (holds_of limit (forgotten w) (base_forgotten limit w (base_of limit w h)) h.current
    (subst (λ p. InPhase p (forgotten w)) (sym is) (record { no_reply = refl; live_endings = all_dropped w.units })))
restart_phase limit w AwaitLine h is requesting = restarted_in limit w h requesting.unsent.0
restart_phase limit w Busy h is waiting = restarted_in limit w h waiting.unsent.0
restart_phase limit w Contention h is waiting = restarted_in limit w h waiting.unsent.0
restart_phase limit w AwaitReply h is awaiting = restarted_in limit w h awaiting.pending.is_session

pub restart_holds : (limit : ℕ) (w : World) → Holds limit w
    → Holds limit (with_sender (restart_in w.sender.phase w.sender) (forgotten w))
restart_holds limit w h = restart_phase limit w w.sender.phase h refl h.phase

-- a receiver whose line is open only where it was, with the same frames
pub record IsNoMoreOpen (r r' : ReceiverState) : Type 0 where
  pub was_open : r'.is_open ≡ true → r.is_open ≡ true
  pub accepted_same : r'.accepted ≡ r.accepted

pending_closer :
    (ss : List Session) (is_open is_open' : Bool) (owner s : ℕ) (before : List FrameContent) (f : FrameContent)
    → (is_open' ≡ true → is_open ≡ true)
    → Pending ss is_open owner s before f
    → Pending ss is_open' owner s before f
pending_closer ss is_open is_open' owner s before f was h =
    record {
      is_session = h.is_session;
      sent_is = h.sent_is;
      accepted_is = h.accepted_is;
      owner_is = λ e. h.owner_is (was e);
    }

leads_closer :
    (ss : List Session) (is_open is_open' : Bool) (owner s : ℕ) (load : Load)
    → (is_open' ≡ true → is_open ≡ true)
    → Leads ss is_open owner s load
    → Leads ss is_open' owner s load
leads_closer ss is_open is_open' owner s enquiry was h = h
leads_closer ss is_open is_open' owner s ending was h = tt
leads_closer ss is_open is_open' owner s (one_frame f) was h =
    (h.0, pending_closer ss is_open is_open' owner s h.0 f was h.1)

front_closer :
    (ss : List Session) (is_open is_open' : Bool) (owner : ℕ) (us : List Travelling)
    → (is_open' ≡ true → is_open ≡ true)
    → Front ss is_open owner us
    → Front ss is_open' owner us
front_closer ss is_open is_open' owner [] was h = tt
front_closer ss is_open is_open' owner (u ∷ us) was h =
    (leads_closer ss is_open is_open' owner u.session u.load was h.0, h.1)

phase_closer : (w : World) (r' : ReceiverState) (p : Phase) → IsNoMoreOpen w.receiver r' → InPhase p w
    → InPhase p (record w { receiver = r' })
phase_closer w r' Neutral closer h = record { no_reply = h.no_reply; live_endings = h.live_endings }
phase_closer w r' AwaitLine closer h = record {
  unsent = h.unsent;
  none_acknowledged = h.none_acknowledged;
  traffic = go h.traffic;
}
  where
    go : RequestTraffic w → RequestTraffic (record w { receiver = r' })
    go (inl none) = inl none
    go (inr one) = inr (one.0, (one.1.0, one.1.1, λ e. one.1.2 (closer.was_open e)))
phase_closer w r' Busy closer h = record {
  unsent = h.unsent;
  none_acknowledged = h.none_acknowledged;
  no_reply = h.no_reply;
  no_unit = h.no_unit;
}
phase_closer w r' Contention closer h =
    record { unsent = h.unsent; none_acknowledged = h.none_acknowledged; no_reply = h.no_reply; no_unit = h.no_unit }
phase_closer w r' AwaitReply closer h = record {
  before = h.before;
  frame = h.frame;
  left = h.left;
  frames_are = h.frames_are;
  acknowledged_is = h.acknowledged_is;
  pending = pending_closer w.sessions w.receiver.is_open r'.is_open w.opened w.current h.before h.frame
      closer.was_open h.pending;
  unmuted = h.unmuted;
  traffic = h.traffic;
}

pub no_more_open_holds : (limit : ℕ) (w : World) (r' : ReceiverState) → IsNoMoreOpen w.receiver r' → Holds limit w
    → Holds limit (record w { receiver = r' })
no_more_open_holds limit w r' closer h = record {
  sound = h.sound;
  to_drop_within = h.to_drop_within;
  line = λ e.
      let owned = h.line (closer.was_open e) in
      (owned.0, closer.accepted_same ∙ owned.1);
  front = front_closer w.sessions w.receiver.is_open r'.is_open w.opened w.units closer.was_open h.front;
  current = h.current;
  phase = phase_closer w r' w.sender.phase closer h.phase;
}

pub after_receiver_timer : (r : ReceiverState) → IsNoMoreOpen r (on_receiver_timer r).after
after_receiver_timer r = go r.is_open refl
  where
    go : (is_open : Bool) → r.is_open ≡ is_open → IsNoMoreOpen r (timer_by is_open r).after
    go true e = record { was_open = λ e'. e; accepted_same = refl }
    go false e = record { was_open = λ e'. e'; accepted_same = refl }
