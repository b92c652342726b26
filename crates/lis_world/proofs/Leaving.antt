-- A unit leaves the link: what was on its way still is, and its reply is the only one, or none.
use Rattle.std.proofs.Common.{◌≡◌, ℕ, zero, suc, ◌<◌, ◌≤◌, ◌⊎◌, inl, inr, Bool, List, [], ◌∷◌, ◌++◌, length, drop, refl}
use Rattle.std.proofs.Common.{sym, ap, ◌∙◌, subst, arith}
use Rattle.lis_frame.specs.Pieces.{session_frames}
use Rattle.lis_link.specs.declared.sender.Phase.{Phase}
use Rattle.lis_link.specs.declared.sender.Phase.TheVariants.{Neutral, AwaitLine, Busy, Contention, AwaitReply}
use Rattle.lis_link.specs.Sender.{SenderState}
use Rattle.lis_world.specs.Unit.{Load, enquiry, ending, one_frame, Travelling}
use Rattle.lis_world.specs.Session.{Session, session_at}
use Rattle.lis_world.specs.World.{World, ComputerState, computer_state_of, replies_with, lowered, settled}
use Rattle.lis_world.proofs.Invariant.{RequestTraffic}
use Rattle.lis_world.proofs.Invariant.{Unsent, Waits, Following, Leads, Front, KeepsFrames, IsCurrent, AllEndings}
use Rattle.lis_world.proofs.Invariant.{RequestsBy}
use Rattle.lis_world.proofs.Invariant.{Requests, RequestAnswer, FrameAnswer, IsAwaiting, InPhase, Holds, IsKeptSession}
use Rattle.lis_world.proofs.Invariant.{AreKept}
use Rattle.lis_world.proofs.Invariant.{IsLeft}

pub unsent_kept : (ss ss' : List Session) (s : ℕ) → AreKept ss ss' → Unsent ss s → Unsent ss' s
unsent_kept ss ss' s kept unsent =
    (subst (λ n. s < n) (sym kept.length_same) unsent.0, (kept.each_kept s).sent_same ∙ unsent.1)

pub waits_kept : (ss ss' : List Session) (s : ℕ) (load : Load) → AreKept ss ss' → Waits ss s load → Waits ss' s load
waits_kept ss ss' s enquiry kept h = unsent_kept ss ss' s kept h
waits_kept ss ss' s ending kept h = tt
waits_kept ss ss' s (one_frame f) kept h = h

pub following_kept : (ss ss' : List Session) (us : List Travelling) → AreKept ss ss' → Following ss us
    → Following ss' us
following_kept ss ss' [] kept h = tt
following_kept ss ss' (u ∷ us) kept h = (waits_kept ss ss' u.session u.load kept h.0, following_kept ss ss' us kept h.1)

-- a unit that is no frame may be in front
pub leads_from_waits : (ss : List Session) (is_open : Bool) (owner s : ℕ) (load : Load) → Waits ss s load
    → Leads ss is_open owner s load
leads_from_waits ss is_open owner s enquiry h = h
leads_from_waits ss is_open owner s ending h = tt
leads_from_waits ss is_open owner s (one_frame f) h = absurd h

pub front_from_after : (ss : List Session) (is_open : Bool) (owner : ℕ) (us : List Travelling) → Following ss us
    → Front ss is_open owner us
front_from_after ss is_open owner [] h = tt
front_from_after ss is_open owner (u ∷ us) h = (leads_from_waits ss is_open owner u.session u.load h.0, h.1)

lowered_within : (m n : ℕ) → m ≤ suc n → lowered m ≤ n
lowered_within zero n h = omega arith
lowered_within (suc m) n h = omega arith

pub current_kept : (limit : ℕ) (sender : SenderState) (x y : Session) → IsKeptSession x y → IsCurrent limit sender x
    → IsCurrent limit sender y
current_kept limit sender x y kept h = record {
  frames_are =
      subst (λ texts. KeepsFrames sender.phase sender.frames (session_frames limit texts)) (sym kept.texts_same)
      h.frames_are;
  acknowledged_is = h.acknowledged_is ∙ sym kept.acknowledged_same;
  outcome_is = h.outcome_is ∙ sym kept.outcome_same;
}

-- the replies after a unit whose reply counts
pub heard_replies : (m : ℕ) (caused replies : List ℕ) → m ≡ 0 → replies ≡ [] → replies_with m caused replies ≡ caused
heard_replies zero caused replies zero_is none = ap (λ xs. xs ++ caused) none
heard_replies (suc m) caused replies zero_is none = absurd (omega arith)

resting_left :
    (to_drop : ℕ) (u : Travelling) (us : List Travelling) (caused replies : List ℕ)
    → (u.load ≡ ending → caused ≡ [])
    → replies ≡ []
    → AllEndings (drop to_drop (u ∷ us))
    → (replies_with to_drop caused replies ≡ []) × AllEndings (drop (lowered to_drop) us)
resting_left zero u us caused replies quiet none h = (ap (λ xs. xs ++ caused) none ∙ quiet h.0, h.1)
resting_left (suc m) u us caused replies quiet none h = (none, h)

requests_left :
    (c s : ℕ) (load : Load) (us : List Travelling) (caused : List ℕ) (is_open : Bool) (owner : ℕ)
    → RequestsBy c s load us
    → (load ≡ ending → Requests c us)
    → (load ≡ ending → caused ≡ [])
    → (load ≡ enquiry → (caused ≡ []) ⊎ RequestAnswer caused is_open owner s)
    → ((caused ≡ []) × Requests c us) ⊎ ((us ≡ []) × RequestAnswer caused is_open owner c)
requests_left c s ending us caused is_open owner by later quiet answer = inl (quiet refl, later refl)
requests_left c s (one_frame f) us caused is_open owner by later quiet answer = absurd by
requests_left c s enquiry us caused is_open owner by later quiet answer = go (answer refl)
  where
    go : (caused ≡ []) ⊎ RequestAnswer caused is_open owner s
        → ((caused ≡ []) × Requests c us) ⊎ ((us ≡ []) × RequestAnswer caused is_open owner c)
    go (inl none) = inl (none, subst (Requests c) (sym by.1) tt)
    go (inr one) = inr (by.1, subst (λ k. RequestAnswer caused is_open owner k) by.0 one)

requesting_left :
    (c : ℕ) (to_drop : ℕ) (u : Travelling) (us : List Travelling) (caused replies : List ℕ) (is_open : Bool) (owner : ℕ)
    → (u.load ≡ ending → caused ≡ [])
    → (u.load ≡ enquiry → (caused ≡ []) ⊎ RequestAnswer caused is_open owner u.session)
    → replies ≡ []
    → Requests c (drop to_drop (u ∷ us))
    → ((replies_with to_drop caused replies ≡ []) × Requests c (drop (lowered to_drop) us))
    ⊎ ((us ≡ []) × RequestAnswer (replies_with to_drop caused replies) is_open owner c)
requesting_left c zero u us caused replies is_open owner quiet answer none h =
    subst (λ xs. ((xs ≡ []) × Requests c us) ⊎ ((us ≡ []) × RequestAnswer xs is_open owner c))
    (sym (ap (λ xs. xs ++ caused) none))
    (requests_left c u.session u.load us caused is_open owner h.0 h.1 quiet answer)
requesting_left c (suc m) u us caused replies is_open owner quiet answer none h = inl (none, h)

phase_left :
    (limit : ℕ) (w : World) (u : Travelling) (us : List Travelling) (d' : ComputerState)
    → w.units ≡ u ∷ us
    → IsLeft limit u.session u.load (computer_state_of w) d'
    → (p : Phase)
    → InPhase p w
    → InPhase p (settled us d' w)
phase_left limit w u us d' units_are left Neutral h =
    let both = resting_left w.to_drop u us d'.replies w.replies left.after_ending h.no_reply
    (subst (λ xs. AllEndings (drop w.to_drop xs)) units_are h.live_endings) in
    record { no_reply = both.0; live_endings = both.1 }
phase_left limit w u us d' units_are left AwaitLine h = record {
  unsent = unsent_kept w.sessions d'.sessions w.current left.kept h.unsent;
  none_acknowledged = h.none_acknowledged;
  traffic = go h.traffic;
}
  where
    go : RequestTraffic w
        → ((replies_with w.to_drop d'.replies w.replies ≡ []) × Requests w.current (drop (lowered w.to_drop) us))
        ⊎ ((us ≡ []) × RequestAnswer (replies_with w.to_drop d'.replies w.replies) d'.receiver.is_open d'.opened
        w.current)
    go (inl requests) =
        requesting_left w.current w.to_drop u us d'.replies w.replies d'.receiver.is_open d'.opened left.after_ending
        left.after_enquiry requests.0
        (subst (λ xs. Requests w.current (drop w.to_drop xs)) units_are requests.1)
    go (inr answered) = let none : w.units ≡ [] = answered.0 in cc
phase_left limit w u us d' units_are left Busy h = let none : w.units ≡ [] = h.no_unit in cc
phase_left limit w u us d' units_are left Contention h = let none : w.units ≡ [] = h.no_unit in cc
phase_left limit w u us d' units_are left AwaitReply h = go h.traffic
  where
    front : Travelling
    front = record { session = w.current; load = one_frame h.frame }

    arrived : u ≡ front → w.replies ≡ [] → us ≡ [] → IsAwaiting (settled us d' w)
    arrived same none alone =
        let at_front = subst (λ v. IsLeft limit v.session v.load (computer_state_of w) d') same left in
        let both = at_front.after_frame h.before h.frame refl h.pending in
        record {
          before = h.before;
          frame = h.frame;
          left = h.left;
          frames_are = h.frames_are;
          acknowledged_is = h.acknowledged_is;
          pending = both.0;
          unmuted = subst (λ m. lowered m ≡ 0) (sym h.unmuted) refl;
          traffic = inr (
            alone,
            subst (λ xs. FrameAnswer xs d'.sessions w.current h.before h.frame)
                (sym (heard_replies w.to_drop d'.replies w.replies h.unmuted none)) both.1,
          );
        }

    go :
        ((w.units ≡ front ∷ []) × (w.replies ≡ []))
        ⊎ ((w.units ≡ []) × FrameAnswer w.replies w.sessions w.current h.before h.frame)
        → IsAwaiting (settled us d' w)
    go (inl one) =
        let e : u ∷ us ≡ front ∷ [] = sym units_are ∙ one.0 in
        let same : u ≡ front = cc in
        let alone : us ≡ [] = cc in
        arrived same one.1 alone
    go (inr none) = let none_is : w.units ≡ [] = none.0 in cc

pub settled_holds :
    (limit : ℕ) (w : World) (u : Travelling) (us : List Travelling) (d' : ComputerState)
    → Holds limit w
    → w.units ≡ u ∷ us
    → IsLeft limit u.session u.load (computer_state_of w) d'
    → Holds limit (settled us d' w)
settled_holds limit w u us d' h units_are left =
    let front_is = subst (Front w.sessions w.receiver.is_open w.opened) units_are h.front in
    let within : w.to_drop ≤ suc (length us) = subst (λ xs. w.to_drop ≤ length xs) units_are h.to_drop_within in
    record {
      sound = left.sound;
      to_drop_within = lowered_within w.to_drop (length us) within;
      line = left.line;
      front = front_from_after d'.sessions d'.receiver.is_open d'.opened us
          (following_kept w.sessions d'.sessions us left.kept front_is.1);
      current =
          current_kept limit w.sender (session_at w.current w.sessions) (session_at w.current d'.sessions)
          (left.kept.each_kept w.current) h.current;
      phase = phase_left limit w u us d' units_are left w.sender.phase h.phase;
    }
