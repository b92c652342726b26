-- Steps of the sender: a session ends, a frame is sent, a wait begins.
use Rattle.std.proofs.Common.{◌≡◌, ℕ, ◌+◌, ◌<◌, ◌≤◌, ◌⊎◌, inl, inr, true, List, [], ◌∷◌, ◌++◌, length, drop, refl, sym}
use Rattle.std.proofs.Common.{ap, ◌∙◌, subst, arith}
use Rattle.std.specs.Prelude.{nat_lt}
use Rattle.std.proofs.lemmas.Bool.{cond-true, cond-false, lt-ltb, le-ltb}
use Rattle.std.proofs.lemmas.List.{length_push, append_assoc, append-nil, drop-append-le}
use Rattle.lis_frame.specs.Frame.{FrameContent}
use Rattle.lis_frame.specs.Pieces.{session_frames}
use Rattle.lis_link.specs.declared.sender.Phase.{Phase}
use Rattle.lis_link.specs.declared.sender.Phase.TheVariants.{Neutral, AwaitReply}
use Rattle.lis_link.specs.Sender.{SenderState}
use Rattle.lis_world.specs.Unit.{ending, one_frame, Travelling}
use Rattle.lis_world.specs.Session.{Session, session_at, changed, follows, sends_frame}
use Rattle.lis_world.specs.World.{World}
use Rattle.lis_world.specs.Safe.{IsPrefix}
use Rattle.lis_world.specs.Steps.{put_on_link, with_sender}
use Rattle.lis_world.proofs.SessionLemmas.{length-changed, at-changed_same, at-changed, kept-changed}
use Rattle.lis_world.proofs.Invariant.{IsSound, Pending, Front, KeepsFrames, IsCurrent, AllEndings, InPhase, Holds}
use Rattle.lis_world.proofs.Base.{Base, holds_of, CanFollow, base_placed, base_followed, current_followed}
use Rattle.lis_world.proofs.Base.{sound_followed}

pub in_phase : (p q : Phase) (w : World) → q ≡ p → InPhase p w → InPhase q w
in_phase p q w e h = subst (λ x. InPhase x w) (sym e) h

-- endings, and one more
pub endings_more : (us : List Travelling) (u : Travelling) → AllEndings us → u.load ≡ ending → AllEndings (us ++ u ∷ [])
endings_more [] u h e = (e, tt)
endings_more (v ∷ us) u h e = (h.0, endings_more us u h.1 e)

pub zero_to_drop : (to_drop : ℕ) (us : List Travelling) → to_drop ≤ length us → us ≡ [] → to_drop ≡ 0
zero_to_drop to_drop us within none =
    let empty : length us ≡ 0 = ap length none in
    omega arith

-- a session that is finished, its replies heard and nothing but ends of sessions on their way
module _ (limit : ℕ) (sender : SenderState) (w : World) (base : Base limit w) (within : w.current < length w.sessions)
    (can : CanFollow limit sender (session_at w.current w.sessions)) (neutral : sender.phase ≡ Neutral)
    (none : w.replies ≡ []) (endings : AllEndings (drop w.to_drop w.units)) where
  pub ended_holds : Holds limit (with_sender sender w)
  ended_holds =
      holds_of limit (with_sender sender w) (base_followed limit sender w can base)
      (current_followed limit sender w within can)
      (in_phase Neutral sender.phase (with_sender sender w) neutral
      (record { no_reply = none; live_endings = endings }))

  -- and EOT says so
  pub ended_with_ending : Holds limit (put_on_link ending (with_sender sender w))
  ended_with_ending =
      let last : Travelling = record { session = w.current; load = ending } in
      let live : AllEndings (drop w.to_drop (w.units ++ last ∷ [])) =
      subst AllEndings (sym (drop-append-le w.to_drop w.units (last ∷ []) base.to_drop_within))
      (endings_more (drop w.to_drop w.units) last endings refl) in
      holds_of limit (put_on_link ending (with_sender sender w))
      (base_placed limit ending (with_sender sender w) tt (base_followed limit sender w can base))
      (current_followed limit sender w within can)
      (in_phase Neutral sender.phase (put_on_link ending (with_sender sender w)) neutral
      (record { no_reply = none; live_endings = live }))

-- a frame goes on the link, for the first time or again
abbrev pub frame_sent : FrameContent → SenderState → World → World
frame_sent f sender w =
    put_on_link (one_frame f) (record (with_sender sender w)
    { sessions = changed w.current (sends_frame f) (changed w.current (follows sender) w.sessions) })

pub record CanSend (limit : ℕ) (sender : SenderState) (w : World) (before : List FrameContent) (f : FrameContent)
    (left : List FrameContent) : Type 0 where
  pub can : CanFollow limit sender (session_at w.current w.sessions)
  pub within : w.current < length w.sessions
  pub awaits : sender.phase ≡ AwaitReply
  pub frames_are : sender.frames ≡ before ++ f ∷ left
  pub acknowledged_is : sender.acknowledged ≡ length before
  pub accepted_is : ((session_at w.current w.sessions).accepted ≡ before) ⊎
      ((session_at w.current w.sessions).accepted ≡ before ++ f ∷ [])
  pub sent_is : ((session_at w.current w.sessions).sent ≡ before) ⊎
      ((session_at w.current w.sessions).sent ≡ before ++ f ∷ [])
  pub owner_is : w.receiver.is_open ≡ true → w.opened ≡ w.current
  pub no_unit : w.units ≡ []
  pub no_reply : w.replies ≡ []

-- the session's list of sent frames, then
sent_then :
    (f : FrameContent) (before : List FrameContent) (x : Session)
    → x.acknowledged ≡ length before
    → (x.sent ≡ before) ⊎ (x.sent ≡ before ++ f ∷ [])
    → (sends_frame f x).sent ≡ before ++ f ∷ []
sent_then f before x count (inl e) =
    let long : length x.sent ≤ x.acknowledged = subst (λ n. length x.sent ≤ n) (sym count)
    (subst (λ xs. length xs ≤ length before) (sym e) (omega arith)) in
    cond-false (nat_lt x.acknowledged (length x.sent)) x.sent (x.sent ++ f ∷ [])
    (le-ltb x.acknowledged (length x.sent) long)
    ∙ ap (λ xs. xs ++ f ∷ []) e
sent_then f before x count (inr e) =
    let more : length x.sent ≡ length before + 1 = ap length e ∙ length_push before f in
    cond-true (nat_lt x.acknowledged (length x.sent)) x.sent (x.sent ++ f ∷ [])
    (lt-ltb x.acknowledged (length x.sent) (omega arith)) ∙ e

prefix_then :
    (accepted before : List FrameContent) (f : FrameContent)
    → (accepted ≡ before) ⊎ (accepted ≡ before ++ f ∷ [])
    → IsPrefix accepted (before ++ f ∷ [])
prefix_then accepted before f (inl e) = record { rest = f ∷ []; joined = ap (λ xs. xs ++ f ∷ []) e }
prefix_then accepted before f (inr e) = record { rest = []; joined = append-nil accepted ∙ e }

sound_sent :
    (limit : ℕ) (f : FrameContent) (before left : List FrameContent) (x : Session)
    → IsSound limit x
    → session_frames limit x.texts ≡ before ++ f ∷ left
    → (sends_frame f x).sent ≡ before ++ f ∷ []
    → (x.accepted ≡ before) ⊎ (x.accepted ≡ before ++ f ∷ [])
    → IsSound limit (sends_frame f x)
sound_sent limit f before left x h frames sent accepted = record {
  sendable = h.sendable;
  accepted_of_sent = subst (IsPrefix x.accepted) (sym sent) (prefix_then x.accepted before f accepted);
  sent_of_frames = record {
    rest = left;
    joined = ap (λ xs. xs ++ left) sent ∙ append_assoc before (f
        ∷ []) left ∙ sym frames;
  };
  acknowledged_of_accepted = h.acknowledged_of_accepted;
  delivered_whole = h.delivered_whole;
  done_acknowledged = h.done_acknowledged;
}

pub frame_sent_holds :
    (limit : ℕ) (sender : SenderState) (w : World) (before : List FrameContent) (f : FrameContent)
    (left : List FrameContent)
    → Base limit w
    → CanSend limit sender w before f left
    → Holds limit (frame_sent f sender w)
frame_sent_holds limit sender w before f left base can_send =
    let c : ℕ = w.current in
    let ss : List Session = w.sessions in
    let ss1 : List Session = changed c (follows sender) ss in
    let ss2 : List Session = changed c (sends_frame f) ss1 in
    let x : Session = session_at c ss in
    let y : Session = follows sender x in
    let base1 = base_followed limit sender w can_send.can base in
    let kept : sender.frames ≡ session_frames limit x.texts =
    subst (λ p. KeepsFrames p sender.frames (session_frames limit x.texts)) can_send.awaits can_send.can.frames_are in
    let within1 : c < length ss1 = subst (λ n. c < n) (sym (length-changed c (follows sender) ss)) can_send.within in
    let within2 : c < length ss2 = subst (λ n. c < n) (sym (length-changed c (sends_frame f) ss1)) within1 in
    let at1 : session_at c ss1 ≡ y = at-changed_same c (follows sender) ss can_send.within in
    let at2 : session_at c ss2 ≡ sends_frame f y =
    at-changed_same c (sends_frame f) ss1 within1 ∙ ap (sends_frame f) at1 in
    let sent2 : (sends_frame f y).sent ≡ before ++ f ∷ [] =
    sent_then f before y can_send.acknowledged_is can_send.sent_is in
    let sound2 : IsSound limit (sends_frame f y) =
    sound_sent limit f before left y (sound_followed limit sender x can_send.can (base.sound c))
    (sym kept ∙ can_send.frames_are) sent2 can_send.accepted_is in
    let accepted2 : (k : ℕ) → (session_at k ss2).accepted ≡ (session_at k ss).accepted = λ k.
    kept-changed (λ (z : Session). z.accepted) c (sends_frame f) ss1 (λ z. refl) k
    ∙ kept-changed (λ (z : Session). z.accepted) c (follows sender) ss (λ z. refl) k in
    let is_pending : Pending ss2 w.receiver.is_open w.opened c before f = record {
      is_session = within2;
      sent_is = ap (λ (z : Session). z.sent) at2 ∙ sent2;
      accepted_is = subst (λ a. (a ≡ before) ⊎ (a ≡ before ++ f ∷ [])) (sym (accepted2 c)) can_send.accepted_is;
      owner_is = can_send.owner_is;
    } in
    let alone : w.units ++ record { session = c; load = one_frame f } ∷ []
    ≡ record { session = c; load = one_frame f } ∷ [] =
    ap (λ us. us ++ record { session = c; load = one_frame f } ∷ []) can_send.no_unit in
    let unmuted : w.to_drop ≡ 0 = zero_to_drop w.to_drop w.units base.to_drop_within can_send.no_unit in
    record {
      sound = at-changed (λ k z. IsSound limit z) c (sends_frame f) ss1
          (subst (λ z. IsSound limit (sends_frame f z)) (sym at1) sound2) base1.sound;
      to_drop_within = subst (λ m. m ≤ length (w.units ++ record { session = c; load = one_frame f } ∷ []))
          (sym unmuted) (omega arith);
      line = λ e.
          let owned = base1.line e in (
            subst (λ n. w.opened < n) (sym (length-changed c (sends_frame f) ss1)) owned.0,
            owned.1 ∙ sym (kept-changed (λ (z : Session). z.accepted) c (sends_frame f) ss1 (λ z. refl) w.opened),
          );
      front = subst (Front ss2 w.receiver.is_open w.opened) (sym alone) ((before, is_pending), tt);
      current = subst (IsCurrent limit sender) (sym at2)
          (record { frames_are = can_send.can.frames_are; acknowledged_is = refl; outcome_is = refl });
      phase = in_phase AwaitReply sender.phase (frame_sent f sender w) can_send.awaits (record {
        before = before;
        frame = f;
        left = left;
        frames_are = can_send.frames_are;
        acknowledged_is = can_send.acknowledged_is;
        pending = is_pending;
        unmuted = unmuted;
        traffic = inl (alone, can_send.no_reply);
      });
    }
