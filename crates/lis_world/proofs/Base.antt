-- What holds of the world whatever the sender's phase is, and how steps of the sender's side keep it.
use Rattle.std.proofs.Common.{◌≡◌, ℕ, ◌<◌, ◌≤◌, ◌⊎◌, inl, inr, Bool, List, [], ◌∷◌, ◌++◌, length, set, Some, refl, sym}
use Rattle.std.proofs.Common.{ap, ◌∙◌, subst, arith}
use Rattle.std.proofs.lemmas.List.{length_push, set-get_or}
use Rattle.lis_frame.specs.Frame.{FrameContent}
use Rattle.lis_frame.specs.Pieces.{session_frames}
use Rattle.lis_link.specs.declared.sender.Outcome.TheVariants.{Done}
use Rattle.lis_link.specs.Sender.{SenderState}
use Rattle.lis_world.specs.Unit.{Load, enquiry, ending, one_frame, Travelling}
use Rattle.lis_world.specs.Session.{Session, new_session, session_at, changed, follows}
use Rattle.lis_world.specs.World.{World}
use Rattle.lis_world.specs.Steps.{put_on_link, with_sender, forgotten}
use Rattle.lis_world.proofs.SessionLemmas.{length-changed, at-changed_same, at-changed, kept-changed}
use Rattle.lis_world.proofs.Invariant.{IsSound, Line, Pending, Unsent, Waits, Following, Leads, Front, KeepsFrames}
use Rattle.lis_world.proofs.Invariant.{IsCurrent, InPhase, Holds}
use Rattle.lis_world.proofs.Leaving.{leads_from_waits}

pub record Base (limit : ℕ) (w : World) : Type 0 where
  pub sound : (k : ℕ) → IsSound limit (session_at k w.sessions)
  pub to_drop_within : w.to_drop ≤ length w.units
  pub line : Line w.sessions w.receiver.is_open w.receiver.accepted w.opened
  pub front : Front w.sessions w.receiver.is_open w.opened w.units

pub base_of : (limit : ℕ) (w : World) → Holds limit w → Base limit w
base_of limit w h = record { sound = h.sound; to_drop_within = h.to_drop_within; line = h.line; front = h.front }

pub holds_of :
    (limit : ℕ) (w : World)
    → Base limit w
    → IsCurrent limit w.sender (session_at w.current w.sessions)
    → InPhase w.sender.phase w
    → Holds limit w
holds_of limit w base current phase =
    record {
      sound = base.sound;
      to_drop_within = base.to_drop_within;
      line = base.line;
      front = base.front;
      current = current;
      phase = phase;
    }

-- each session that there was has sent and accepted the same
pub record AreSame (ss ss' : List Session) : Type 0 where
  pub longer : length ss ≤ length ss'
  pub sent_same : (k : ℕ) → k < length ss → (session_at k ss').sent ≡ (session_at k ss).sent
  pub accepted_same : (k : ℕ) → k < length ss → (session_at k ss').accepted ≡ (session_at k ss).accepted

pub unsent_same : (ss ss' : List Session) (s : ℕ) → AreSame ss ss' → Unsent ss s → Unsent ss' s
unsent_same ss ss' s same h =
    let longer = same.longer in
    let within = h.0 in
    (omega arith, same.sent_same s h.0 ∙ h.1)

pub pending_same :
    (ss ss' : List Session) (is_open : Bool) (owner s : ℕ) (before : List FrameContent) (f : FrameContent)
    → AreSame ss ss'
    → Pending ss is_open owner s before f
    → Pending ss' is_open owner s before f
pending_same ss ss' is_open owner s before f same h = record {
  is_session =
      let longer = same.longer in
      let within = h.is_session in
      omega arith;
  sent_is = same.sent_same s h.is_session ∙ h.sent_is;
  accepted_is = go h.accepted_is;
  owner_is = h.owner_is;
}
  where
    go :
        ((session_at s ss).accepted ≡ before) ⊎ ((session_at s ss).accepted ≡ before ++ f ∷ [])
        → ((session_at s ss').accepted ≡ before) ⊎ ((session_at s ss').accepted ≡ before ++ f ∷ [])
    go (inl e) = inl (same.accepted_same s h.is_session ∙ e)
    go (inr e) = inr (same.accepted_same s h.is_session ∙ e)

waits_same : (ss ss' : List Session) (s : ℕ) (load : Load) → AreSame ss ss' → Waits ss s load → Waits ss' s load
waits_same ss ss' s enquiry same h = unsent_same ss ss' s same h
waits_same ss ss' s ending same h = tt
waits_same ss ss' s (one_frame f) same h = h

following_same : (ss ss' : List Session) (us : List Travelling) → AreSame ss ss' → Following ss us → Following ss' us
following_same ss ss' [] same h = tt
following_same ss ss' (u ∷ us) same h = (waits_same ss ss' u.session u.load same h.0, following_same ss ss' us same h.1)

leads_same :
    (ss ss' : List Session) (is_open : Bool) (owner s : ℕ) (load : Load)
    → AreSame ss ss'
    → Leads ss is_open owner s load
    → Leads ss' is_open owner s load
leads_same ss ss' is_open owner s enquiry same h = unsent_same ss ss' s same h
leads_same ss ss' is_open owner s ending same h = tt
leads_same ss ss' is_open owner s (one_frame f) same h = (h.0, pending_same ss ss' is_open owner s h.0 f same h.1)

pub front_same :
    (ss ss' : List Session) (is_open : Bool) (owner : ℕ) (us : List Travelling)
    → AreSame ss ss'
    → Front ss is_open owner us
    → Front ss' is_open owner us
front_same ss ss' is_open owner [] same h = tt
front_same ss ss' is_open owner (u ∷ us) same h =
    (leads_same ss ss' is_open owner u.session u.load same h.0, following_same ss ss' us same h.1)

pub line_same :
    (ss ss' : List Session) (is_open : Bool) (accepted : List FrameContent) (owner : ℕ)
    → AreSame ss ss'
    → Line ss is_open accepted owner
    → Line ss' is_open accepted owner
line_same ss ss' is_open accepted owner same h e =
    let longer = same.longer in
    let within = (h e).0 in
    (omega arith, (h e).1 ∙ sym (same.accepted_same owner (h e).0))

-- one more unit after those that are there
following_more : (ss : List Session) (us : List Travelling) (u : Travelling) → Following ss us
    → Waits ss u.session u.load
    → Following ss (us ++ u ∷ [])
following_more ss [] u h waits = (waits, tt)
following_more ss (v ∷ us) u h waits = (h.0, following_more ss us u h.1 waits)

pub front_more :
    (ss : List Session) (is_open : Bool) (owner : ℕ) (us : List Travelling) (u : Travelling)
    → Front ss is_open owner us
    → Waits ss u.session u.load
    → Front ss is_open owner (us ++ u ∷ [])
front_more ss is_open owner [] u h waits = (leads_from_waits ss is_open owner u.session u.load waits, tt)
front_more ss is_open owner (v ∷ us) u h waits = (h.0, following_more ss us u h.1 waits)

pub base_placed : (limit : ℕ) (load : Load) (w : World) → Waits w.sessions w.current load → Base limit w
    → Base limit (put_on_link load w)
base_placed limit load w waits base = record {
  sound = base.sound;
  to_drop_within =
      let within = base.to_drop_within in
      let more = length_push w.units (record { session = w.current; load = load }) in
      omega arith;
  line = base.line;
  front = front_more w.sessions w.receiver.is_open w.opened w.units (record { session = w.current; load = load })
      base.front waits;
}

pub base_forgotten : (limit : ℕ) (w : World) → Base limit w → Base limit (forgotten w)
base_forgotten limit w base = record {
  sound = base.sound;
  to_drop_within = omega arith;
  line = base.line;
  front = base.front;
}

pub base_replies : (limit : ℕ) (replies : List ℕ) (w : World) → Base limit w
    → Base limit (record w { replies = replies })
base_replies limit replies w base = record {
  sound = base.sound;
  to_drop_within = base.to_drop_within;
  line = base.line;
  front = base.front;
}

-- a session that follows its sender
pub are_same_followed : (c : ℕ) (sender : SenderState) (ss : List Session) → AreSame ss (changed c (follows sender) ss)
are_same_followed c sender ss = record {
  longer =
      let same = length-changed c (follows sender) ss in
      omega arith;
  sent_same = λ k within. kept-changed (λ (x : Session). x.sent) c (follows sender) ss (λ x. refl) k;
  accepted_same = λ k within. kept-changed (λ (x : Session). x.accepted) c (follows sender) ss (λ x. refl) k;
}

-- what the sender's new state has to keep of its session
pub record CanFollow (limit : ℕ) (sender : SenderState) (x : Session) : Type 0 where
  pub frames_are : KeepsFrames sender.phase sender.frames (session_frames limit x.texts)
  pub acknowledged_of_accepted : sender.acknowledged ≤ length x.accepted
  pub done_acknowledged : sender.outcome ≡ Some Done → length (session_frames limit x.texts) ≤ sender.acknowledged

pub sound_followed : (limit : ℕ) (sender : SenderState) (x : Session) → CanFollow limit sender x → IsSound limit x
    → IsSound limit (follows sender x)
sound_followed limit sender x can h = record {
  sendable = h.sendable;
  accepted_of_sent = h.accepted_of_sent;
  sent_of_frames = h.sent_of_frames;
  acknowledged_of_accepted = can.acknowledged_of_accepted;
  delivered_whole = h.delivered_whole;
  done_acknowledged = can.done_acknowledged;
}

pub base_followed :
    (limit : ℕ) (sender : SenderState) (w : World)
    → CanFollow limit sender (session_at w.current w.sessions)
    → Base limit w
    → Base limit (with_sender sender w)
base_followed limit sender w can base =
    let same = are_same_followed w.current sender w.sessions in
    let ss' = changed w.current (follows sender) w.sessions in
    record {
      sound = at-changed (λ k x. IsSound limit x) w.current (follows sender) w.sessions
          (sound_followed limit sender (session_at w.current w.sessions) can (base.sound w.current)) base.sound;
      to_drop_within = base.to_drop_within;
      line = line_same w.sessions ss' w.receiver.is_open w.receiver.accepted w.opened same base.line;
      front = front_same w.sessions ss' w.receiver.is_open w.opened w.units same base.front;
    }

pub current_followed :
    (limit : ℕ) (sender : SenderState) (w : World)
    → w.current < length w.sessions
    → CanFollow limit sender (session_at w.current w.sessions)
    → IsCurrent limit sender (session_at w.current (changed w.current (follows sender) w.sessions))
current_followed limit sender w within can =
    subst (IsCurrent limit sender) (sym (at-changed_same w.current (follows sender) w.sessions within))
    (record { frames_are = can.frames_are; acknowledged_is = refl; outcome_is = refl })

-- a sender that stays as it is changes nothing
pub with_sender_same : (limit : ℕ) (w : World) → IsCurrent limit w.sender (session_at w.current w.sessions)
    → with_sender w.sender w ≡ w
with_sender_same limit w current =
    let x : Session = session_at w.current w.sessions in
    let counted : follows w.sender x ≡ record x { outcome = w.sender.outcome } =
    ap (λ n. record x { acknowledged = n; outcome = w.sender.outcome }) current.acknowledged_is in
    let same : follows w.sender x ≡ x = counted ∙ ap (λ o. record x { outcome = o }) current.outcome_is in
    ap (λ ss. record w { sessions = ss })
    (ap (λ y. set w.sessions w.current y) same ∙ set-get_or w.sessions w.current (new_session []))
