-- A reply reaches the sender, in time; or another byte does, or none.
use Rattle.std.proofs.Common.{◌≡◌, ℕ, ◌+◌, ◌≤◌, ◌⊎◌, inl, inr, true, false, List, [], ◌∷◌, ◌++◌, length, drop, refl}
use Rattle.std.proofs.Common.{sym, ap, ◌∙◌, subst, arith}
use Rattle.std.specs.Prelude.{nat_lt, ◌==◌, ◌||◌}
use Rattle.std.proofs.lemmas.Bool.{cond_both, or_cases, or_parts, eqb-true, eqb-false}
use Rattle.std.proofs.lemmas.List.{length_push, append_assoc, drop_all, drop_at}
use Rattle.lis_text.specs.Control.{ACK, ENQ, EOT}
use Rattle.lis_frame.specs.Frame.{FrameContent}
use Rattle.lis_frame.specs.Pieces.{session_frames}
use Rattle.lis_link.specs.declared.sender.Phase.{Phase}
use Rattle.lis_link.specs.declared.sender.Phase.TheVariants.{Neutral, AwaitLine, Busy, Contention, AwaitReply}
use Rattle.lis_link.specs.declared.sender.Outcome.TheVariants.{Done, SixTries}
use Rattle.lis_link.specs.declared.sender.EmitOf.TheVariants.{Nothing}
use Rattle.lis_link.specs.declared.sender.EmitOf.TheVariants as Emits
use Rattle.lis_link.specs.Sender.{SenderState, finished_with, gives, ends, sends_first, sends_again, on_accepted}
use Rattle.lis_link.specs.Sender.{reply_in}
use Rattle.lis_link.specs.Sender.{on_reply, most_tries}
use Rattle.lis_world.specs.Unit.{Travelling}
use Rattle.lis_world.specs.Session.{session_at, changed, follows}
use Rattle.lis_world.specs.World.{World}
use Rattle.lis_world.specs.Steps.{with_sender, sender_steps, replied, reply_damaged}
use Rattle.lis_world.proofs.Invariant.{RequestTraffic, FrameTraffic}
use Rattle.lis_world.proofs.Invariant.{Unsent, AllEndings, Requests, IsYes, FrameAnswer, IsRequesting, IsWaiting}
use Rattle.lis_world.proofs.Invariant.{IsAwaiting, KeepsFrames, InPhase, Holds, kept_frames}
use Rattle.lis_world.proofs.Arrival.{accepted_of_unsent}
use Rattle.lis_world.proofs.Base.{base_of, holds_of, CanFollow, base_replies, base_followed, current_followed}
use Rattle.lis_world.proofs.Base.{unsent_same, are_same_followed}
use Rattle.lis_world.proofs.Sending.{ended_with_ending, frame_sent_holds}

-- a reply, however it got there
abbrev Replied : ℕ → Phase → ℕ → List ℕ → World → Type 0
Replied limit p b bs w = Holds limit (sender_steps {limit = limit} (reply_in p b w.sender) (record w { replies = bs }))

-- the count that the sender keeps of its session is the session's
pub can_follow :
    (limit : ℕ) (w : World)
    → Holds limit w
    → CanFollow limit w.sender (session_at w.current w.sessions)
can_follow limit w h = record {
  frames_are = h.current.frames_are;
  acknowledged_of_accepted =
      subst (λ n. n ≤ length (session_at w.current w.sessions).accepted) (sym h.current.acknowledged_is)
      (h.sound w.current).acknowledged_of_accepted;
  done_acknowledged = λ done.
      subst (λ n. length (session_frames limit (session_at w.current w.sessions).texts) ≤ n)
      (sym h.current.acknowledged_is)
      ((h.sound w.current).done_acknowledged (sym h.current.outcome_is ∙ done));
}

-- and that of any state of the sender which counts the same
pub can_follow_as :
    (limit : ℕ) (w : World) (sender : SenderState)
    → Holds limit w
    → sender.acknowledged ≡ w.sender.acknowledged
    → sender.outcome ≡ w.sender.outcome
    → KeepsFrames sender.phase sender.frames (session_frames limit (session_at w.current w.sessions).texts)
    → CanFollow limit sender (session_at w.current w.sessions)
can_follow_as limit w sender h count outcome kept =
    let can = can_follow limit w h in
    record {
      frames_are = kept;
      acknowledged_of_accepted =
          subst (λ n. n ≤ length (session_at w.current w.sessions).accepted) (sym count) can.acknowledged_of_accepted;
      done_acknowledged = λ done.
          subst (λ n. length (session_frames limit (session_at w.current w.sessions).texts) ≤ n) (sym count)
          (can.done_acknowledged (sym outcome ∙ done));
    }

live_none : (to_drop : ℕ) (us : List Travelling) → us ≡ [] → AllEndings (drop to_drop us)
live_none to_drop us none =
    subst AllEndings (sym (drop_all to_drop us (subst (λ xs. length xs ≤ to_drop) (sym none) (omega arith)))) tt

-- ENQ was answered: by ACK
line_given :
    (limit : ℕ) (w : World) (bs : List ℕ)
    → Holds limit w
    → (unsent : Unsent w.sessions w.current)
    → w.sender.acknowledged ≡ 0
    → w.units ≡ []
    → bs ≡ []
    → (w.receiver.is_open ≡ true → w.opened ≡ w.current)
    → w.sender.frames ≡ session_frames limit (session_at w.current w.sessions).texts
    → (frames : List FrameContent)
    → w.sender.frames ≡ frames
    → Holds limit (sender_steps {limit = limit} (sends_first frames w.sender) (record w { replies = bs }))
line_given limit w bs h unsent zero_is no_unit no_reply owner kept [] frames_are =
    let can = can_follow limit w h in
    ended_with_ending limit (finished_with Done w.sender) (record w { replies = bs })
    (base_replies limit bs w (base_of limit w h)) unsent.0
    (record {
      frames_are = tt;
      acknowledged_of_accepted = can.acknowledged_of_accepted;
      done_acknowledged = λ done.
          let none : session_frames limit (session_at w.current w.sessions).texts ≡ [] = sym kept ∙ frames_are in
          subst (λ xs. length xs ≤ w.sender.acknowledged) (sym none) (omega arith);
    })
    refl no_reply (live_none w.to_drop w.units no_unit)
line_given limit w bs h unsent zero_is no_unit no_reply owner kept (f ∷ left) frames_are =
    let sender : SenderState = record w.sender { phase = AwaitReply; tries = 1 } in
    frame_sent_holds limit sender (record w { replies = bs }) [] f left (base_replies limit bs w (base_of limit w h))
    (record {
      can = can_follow_as limit w sender h refl refl kept;
      within = unsent.0;
      awaits = refl;
      frames_are = frames_are;
      acknowledged_is = zero_is;
      accepted_is = inl (accepted_of_unsent limit (session_at w.current w.sessions) (h.sound w.current) unsent.1);
      sent_is = inl unsent.1;
      owner_is = owner;
      no_unit = no_unit;
      no_reply = no_reply;
    })

-- by anything else
line_refused :
    (limit : ℕ) (w : World) (bs : List ℕ) (p : Phase)
    → Holds limit w
    → (unsent : Unsent w.sessions w.current)
    → w.sender.acknowledged ≡ 0
    → w.units ≡ []
    → bs ≡ []
    → KeepsFrames p w.sender.frames (session_frames limit (session_at w.current w.sessions).texts)
    → ((v : World) → IsWaiting v → InPhase p v)
    → Holds limit (sender_steps {limit = limit} (gives Nothing (record w.sender { phase = p }))
    (record w { replies = bs }))
line_refused limit w bs p h unsent zero_is no_unit no_reply kept waits =
    let sender : SenderState = record w.sender { phase = p } in
    let now = can_follow_as limit w sender h refl refl kept in
    let w1 : World = record w { replies = bs } in
    holds_of limit (with_sender sender w1) (base_followed limit sender w1 now
    (base_replies limit bs w (base_of limit w h)))
    (current_followed limit sender w1 unsent.0 now)
    (waits (with_sender sender w1) (record {
      unsent = unsent_same w.sessions (changed w.current (follows sender) w.sessions) w.current
          (are_same_followed w.current sender w.sessions) unsent;
      none_acknowledged = zero_is;
      no_reply = no_reply;
      no_unit = no_unit;
    }))

request_answered :
    (limit : ℕ) (b : ℕ) (bs : List ℕ) (w : World)
    → Holds limit w
    → w.replies ≡ b ∷ bs
    → w.sender.frames ≡ session_frames limit (session_at w.current w.sessions).texts
    → IsRequesting w
    → Replied limit AwaitLine b bs w
request_answered limit b bs w h are kept requesting = go requesting.traffic
  where
    go : RequestTraffic w → Replied limit AwaitLine b bs w
    go (inl none) =
        let e : b ∷ bs ≡ [] = sym are ∙ none.0 in
        absurd (cc)
    go (inr one) =
        let e : b ∷ bs ≡ one.1.0 ∷ [] = sym are ∙ one.1.1 in
        let no_reply : bs ≡ [] = cc in
        cond_both (b == ACK) (sends_first w.sender.frames w.sender) _
        (λ step. Holds limit (sender_steps {limit = limit} step (record w { replies = bs })))
        (λ ack. line_given limit w bs h requesting.unsent requesting.none_acknowledged one.0 no_reply one.1.2 kept
        w.sender.frames refl)
        (λ other. cond_both (b == ENQ) (gives Nothing (record w.sender { phase = Contention }))
        (gives Nothing (record w.sender { phase = Busy }))
        (λ step. Holds limit (sender_steps {limit = limit} step (record w { replies = bs })))
        (λ enq. line_refused limit w bs Contention h requesting.unsent requesting.none_acknowledged one.0 no_reply kept
        (λ v waiting. waiting))
        (λ nak. line_refused limit w bs Busy h requesting.unsent requesting.none_acknowledged one.0 no_reply kept
        (λ v waiting. waiting)))

-- a frame was acknowledged
next_sent :
    (limit : ℕ) (w : World) (bs : List ℕ)
    → Holds limit w
    → (awaiting : IsAwaiting w)
    → w.sender.frames ≡ session_frames limit (session_at w.current w.sessions).texts
    → w.units ≡ []
    → bs ≡ []
    → (session_at w.current w.sessions).accepted ≡ awaiting.before ++ awaiting.frame ∷ []
    → (left : List FrameContent)
    → awaiting.left ≡ left
    → Holds limit (sender_steps {limit = limit} (sends_first left
    (record w.sender { acknowledged = w.sender.acknowledged + 1 })) (record w { replies = bs }))
next_sent limit w bs h awaiting kept no_unit no_reply accepted [] none =
    let can = can_follow limit w h in
    let before = awaiting.before in
    let f = awaiting.frame in
    let counted = awaiting.acknowledged_is in
    let frames : session_frames limit (session_at w.current w.sessions).texts ≡ before ++ f ∷ [] =
    sym kept ∙ awaiting.frames_are ∙ ap (λ xs. before ++ f ∷ xs) none in
    let more = length_push before f in
    ended_with_ending limit (finished_with Done (record w.sender { acknowledged = w.sender.acknowledged + 1 }))
    (record w { replies = bs })
    (base_replies limit bs w (base_of limit w h)) awaiting.pending.is_session
    (record {
      frames_are = tt;
      acknowledged_of_accepted =
          subst (λ xs. w.sender.acknowledged + 1 ≤ length xs) (sym accepted) (omega arith);
      done_acknowledged = λ done.
          subst (λ xs. length xs ≤ w.sender.acknowledged + 1) (sym frames) (omega arith);
    })
    refl no_reply (live_none w.to_drop w.units no_unit)
next_sent limit w bs h awaiting kept no_unit no_reply accepted (g ∷ left) some =
    let can = can_follow limit w h in
    let before = awaiting.before in
    let f = awaiting.frame in
    let counted = awaiting.acknowledged_is in
    let more = length_push before f in
    let frames : w.sender.frames ≡ (before ++ f ∷ []) ++ g ∷ left =
    awaiting.frames_are ∙ ap (λ xs. before ++ f ∷ xs) some ∙ sym (append_assoc before (f ∷ []) (g ∷ left)) in
    frame_sent_holds limit (record w.sender {
      acknowledged = w.sender.acknowledged + 1;
      phase = AwaitReply;
      tries = 1;
    }) (record w { replies = bs })
    (before ++ f ∷ []) g left
    (base_replies limit bs w (base_of limit w h))
    (record {
      can = record {
        frames_are = kept;
        acknowledged_of_accepted =
            subst (λ xs. w.sender.acknowledged + 1 ≤ length xs) (sym accepted) (omega arith);
        done_acknowledged = λ done.
            let enough = can.done_acknowledged done in
            omega arith;
      };
      within = awaiting.pending.is_session;
      awaits = refl;
      frames_are = frames;
      acknowledged_is = omega arith;
      accepted_is = inl accepted;
      sent_is = inl awaiting.pending.sent_is;
      owner_is = awaiting.pending.owner_is;
      no_unit = no_unit;
      no_reply = no_reply;
    })

-- a frame was not
same_sent :
    (limit : ℕ) (w : World) (bs : List ℕ)
    → Holds limit w
    → (awaiting : IsAwaiting w)
    → w.sender.phase ≡ AwaitReply
    → w.units ≡ []
    → bs ≡ []
    → Holds limit (sender_steps {limit = limit} (sends_again (awaiting.frame ∷ awaiting.left) w.sender)
    (record w { replies = bs }))
same_sent limit w bs h awaiting awaits no_unit no_reply =
    let can = can_follow limit w h in
    let again : SenderState = record w.sender { tries = w.sender.tries + 1 } in
    let given_up : SenderState = finished_with SixTries w.sender in
    cond_both (nat_lt w.sender.tries most_tries) (gives {limit = limit} (Emits.Frame awaiting.frame) again)
    (ends {limit = limit} SixTries w.sender)
    (λ step. Holds limit (sender_steps {limit = limit} step (record w { replies = bs })))
    (λ few. frame_sent_holds limit again (record w { replies = bs }) awaiting.before awaiting.frame awaiting.left
    (base_replies limit bs w (base_of limit w h))
    (record {
      can = can_follow_as limit w again h refl refl can.frames_are;
      within = awaiting.pending.is_session;
      awaits = awaits;
      frames_are = awaiting.frames_are;
      acknowledged_is = awaiting.acknowledged_is;
      accepted_is = awaiting.pending.accepted_is;
      sent_is = inr awaiting.pending.sent_is;
      owner_is = awaiting.pending.owner_is;
      no_unit = no_unit;
      no_reply = no_reply;
    }))
    (λ many. ended_with_ending limit given_up (record w { replies = bs })
    (base_replies limit bs w (base_of limit w h)) awaiting.pending.is_session
    (record {
      frames_are = tt;
      acknowledged_of_accepted = can.acknowledged_of_accepted;
      done_acknowledged = λ done. cc;
    })
    refl no_reply (live_none w.to_drop w.units no_unit))

frame_answered :
    (limit : ℕ) (b : ℕ) (bs : List ℕ) (w : World)
    → Holds limit w
    → w.replies ≡ b ∷ bs
    → w.sender.phase ≡ AwaitReply
    → IsAwaiting w
    → Replied limit AwaitReply b bs w
frame_answered limit b bs w h are awaits awaiting = go awaiting.traffic
  where
    before : List FrameContent
    before = awaiting.before

    f : FrameContent
    f = awaiting.frame

    left_then : drop (w.sender.acknowledged + 1) w.sender.frames ≡ awaiting.left
    left_then =
        let frames : w.sender.frames ≡ (before ++ f ∷ []) ++ awaiting.left =
        awaiting.frames_are ∙ sym (append_assoc before (f ∷ []) awaiting.left) in
        let counted = awaiting.acknowledged_is in
        let more = length_push before f in
        ap (drop (w.sender.acknowledged + 1)) frames
        ∙ drop_at (before ++ f ∷ []) awaiting.left (w.sender.acknowledged + 1) (omega arith)

    same_then : drop w.sender.acknowledged w.sender.frames ≡ f ∷ awaiting.left
    same_then = ap (drop w.sender.acknowledged) awaiting.frames_are
        ∙ drop_at before (f ∷ awaiting.left) w.sender.acknowledged (sym awaiting.acknowledged_is)

    one_answer :
        w.units ≡ []
        → bs ≡ []
        → (IsYes b → (session_at w.current w.sessions).accepted ≡ before ++ f ∷ [])
        → Replied limit AwaitReply b bs w
    one_answer no_unit no_reply accepted =
        cond_both (b == ACK || b == EOT) (on_accepted {limit = limit} w.sender)
        (sends_again {limit = limit} (drop w.sender.acknowledged w.sender.frames) w.sender)
        (λ step. Holds limit (sender_steps {limit = limit} step (record w { replies = bs })))
        (λ yes.
        subst (λ xs. Holds limit (sender_steps {limit = limit}
        (sends_first xs (record w.sender { acknowledged = w.sender.acknowledged + 1 })) (record w { replies = bs })))
        (sym left_then)
        (next_sent limit w bs h awaiting (kept_frames limit w AwaitReply h awaits) no_unit no_reply
        (accepted (is_yes (or_cases (b == ACK) (b == EOT) yes))) awaiting.left refl))
        (λ no.
        subst (λ xs. Holds limit (sender_steps {limit = limit} (sends_again xs w.sender) (record w { replies = bs })))
        (sym same_then)
        (same_sent limit w bs h awaiting awaits no_unit no_reply))
      where
        is_yes : ((b == ACK) ≡ true) ⊎ ((b == EOT) ≡ true) → IsYes b
        is_yes (inl e) = inl (eqb-true b ACK e)
        is_yes (inr e) = inr (eqb-true b EOT e)

    answered :
        w.units ≡ []
        → FrameAnswer w.replies w.sessions w.current before f
        → Replied limit AwaitReply b bs w
    answered no_unit (inl none) =
        let e : b ∷ bs ≡ [] = sym are ∙ none in
        absurd (cc)
    answered no_unit (inr one) =
        let e : b ∷ bs ≡ one.0 ∷ [] = sym are ∙ one.1 in
        let no_reply : bs ≡ [] = cc in
        let same : one.0 ≡ b = cc in
        one_answer no_unit no_reply (subst (λ n. IsYes n
        → (session_at w.current w.sessions).accepted ≡ before ++ f ∷ []) same one.2)

    go : FrameTraffic w before f
        → Replied limit AwaitReply b bs w
    go (inl none) =
        let e : b ∷ bs ≡ [] = sym are ∙ none.1 in
        absurd (cc)
    go (inr one) = answered one.0 one.1

reply_phase :
    (limit : ℕ) (b : ℕ) (bs : List ℕ) (w : World) (p : Phase)
    → Holds limit w
    → w.replies ≡ b ∷ bs
    → w.sender.phase ≡ p
    → InPhase p w
    → Replied limit p b bs w
reply_phase limit b bs w Neutral h are is resting =
    let e : b ∷ bs ≡ [] = sym are ∙ resting.no_reply in
    absurd (cc)
reply_phase limit b bs w AwaitLine h are is requesting =
    request_answered limit b bs w h are (kept_frames limit w AwaitLine h is) requesting
reply_phase limit b bs w Busy h are is waiting =
    let e : b ∷ bs ≡ [] = sym are ∙ waiting.no_reply in
    absurd (cc)
reply_phase limit b bs w Contention h are is waiting =
    let e : b ∷ bs ≡ [] = sym are ∙ waiting.no_reply in
    absurd (cc)
reply_phase limit b bs w AwaitReply h are is awaiting = frame_answered limit b bs w h are is awaiting

pub replied_holds : (limit : ℕ) (replies : List ℕ) (w : World) → w.replies ≡ replies → Holds limit w
    → Holds limit (replied limit replies w)
replied_holds limit [] w are h = h
replied_holds limit (b ∷ bs) w are h = reply_phase limit b bs w w.sender.phase h are refl h.phase

-- a frame awaits its reply, whatever replies there are
awaiting_with :
    (w : World) (bs : List ℕ) (awaiting : IsAwaiting w)
    → FrameTraffic (record w { replies = bs }) awaiting.before awaiting.frame
    → IsAwaiting (record w { replies = bs })
awaiting_with w bs awaiting traffic = record {
  before = awaiting.before;
  frame = awaiting.frame;
  left = awaiting.left;
  frames_are = awaiting.frames_are;
  acknowledged_is = awaiting.acknowledged_is;
  pending = awaiting.pending;
  unmuted = awaiting.unmuted;
  traffic = traffic;
}

-- another byte in the place of the reply
changed_reply :
    (limit : ℕ) (b d : ℕ) (bs : List ℕ) (w : World) (p : Phase)
    → w.replies ≡ b ∷ bs
    → (IsYes d → ⊥)
    → InPhase p w
    → InPhase p (record w { replies = d ∷ bs })
changed_reply limit b d bs w Neutral are refused resting =
    let e : b ∷ bs ≡ [] = sym are ∙ resting.no_reply in
    absurd (cc)
changed_reply limit b d bs w AwaitLine are refused requesting =
    record {
      unsent = requesting.unsent;
      none_acknowledged = requesting.none_acknowledged;
      traffic = go
          requesting.traffic;
    }
  where
    go : RequestTraffic w → RequestTraffic (record w { replies = d ∷ bs })
    go (inl none) =
        let e : b ∷ bs ≡ [] = sym are ∙ none.0 in
        absurd (cc)
    go (inr one) =
        let e : b ∷ bs ≡ one.1.0 ∷ [] = sym are ∙ one.1.1 in
        let last : bs ≡ [] = cc in
        inr (one.0, (d, ap (λ xs. d ∷ xs) last, one.1.2))
changed_reply limit b d bs w Busy are refused waiting =
    let e : b ∷ bs ≡ [] = sym are ∙ waiting.no_reply in
    absurd (cc)
changed_reply limit b d bs w Contention are refused waiting =
    let e : b ∷ bs ≡ [] = sym are ∙ waiting.no_reply in
    absurd (cc)
changed_reply limit b d bs w AwaitReply are refused awaiting =
    awaiting_with w (d ∷ bs) awaiting (go awaiting.traffic)
  where
    answered :
        FrameAnswer w.replies w.sessions w.current awaiting.before awaiting.frame
        → FrameAnswer (d ∷ bs) w.sessions w.current awaiting.before awaiting.frame
    answered (inl none) =
        let e : b ∷ bs ≡ [] = sym are ∙ none in
        absurd (cc)
    answered (inr one) =
        let e : b ∷ bs ≡ one.0 ∷ [] = sym are ∙ one.1 in
        let last : bs ≡ [] = cc in
        inr (d, ap (λ xs. d ∷ xs) last, λ yes. absurd (refused yes))

    go : FrameTraffic w awaiting.before awaiting.frame
        → FrameTraffic (record w { replies = d ∷ bs }) awaiting.before awaiting.frame
    go (inl none) =
        let e : b ∷ bs ≡ [] = sym are ∙ none.1 in
        absurd (cc)
    go (inr one) = inr (one.0, answered one.1)

is_no : (d : ℕ) → (d == ACK || d == EOT) ≡ false → IsYes d → ⊥
is_no d e (inl same) = eqb-false d ACK (or_parts (d == ACK) (d == EOT) e).0 same
is_no d e (inr same) = eqb-false d EOT (or_parts (d == ACK) (d == EOT) e).1 same

pub reply_damaged_holds :
    (limit : ℕ) (d : ℕ) (replies : List ℕ) (w : World) → w.replies ≡ replies → Holds limit w
    → Holds limit (reply_damaged limit d replies w)
reply_damaged_holds limit d [] w are h = h
reply_damaged_holds limit d (b ∷ bs) w are h =
    cond_both (d == ACK || d == EOT) w (sender_steps {limit = limit} (on_reply d w.sender)
    (record w { replies = bs })) (Holds limit)
    (λ yes. h)
    (λ no.
    let w1 : World = record w { replies = d ∷ bs } in
    let base1 = base_replies limit (d ∷ bs) w (base_of limit w h) in
    replied_holds limit (d ∷ bs) w1 refl
    (holds_of limit w1 base1 h.current (changed_reply limit b d bs w w.sender.phase are (is_no d no) h.phase)))

-- no reply
without_reply :
    (limit : ℕ) (b : ℕ) (bs : List ℕ) (w : World) (p : Phase)
    → w.replies ≡ b ∷ bs
    → InPhase p w
    → InPhase p (record w { replies = bs })
without_reply limit b bs w Neutral are resting =
    let e : b ∷ bs ≡ [] = sym are ∙ resting.no_reply in
    absurd (cc)
without_reply limit b bs w AwaitLine are requesting =
    record {
      unsent = requesting.unsent;
      none_acknowledged = requesting.none_acknowledged;
      traffic = inl (go requesting.traffic);
    }
  where
    go : RequestTraffic w → (bs ≡ []) × Requests w.current (drop w.to_drop w.units)
    go (inl none) =
        let e : b ∷ bs ≡ [] = sym are ∙ none.0 in
        absurd (cc)
    go (inr one) =
        let e : b ∷ bs ≡ one.1.0 ∷ [] = sym are ∙ one.1.1 in
        let last : bs ≡ [] = cc in (
          last,
          subst (Requests w.current) (sym (drop_all w.to_drop w.units
              (subst (λ xs. length xs ≤ w.to_drop) (sym one.0) (omega arith)))) tt,
        )
without_reply limit b bs w Busy are waiting =
    let e : b ∷ bs ≡ [] = sym are ∙ waiting.no_reply in
    absurd (cc)
without_reply limit b bs w Contention are waiting =
    let e : b ∷ bs ≡ [] = sym are ∙ waiting.no_reply in
    absurd (cc)
without_reply limit b bs w AwaitReply are awaiting =
    awaiting_with w bs awaiting (inr (go awaiting.traffic))
  where
    answered : FrameAnswer w.replies w.sessions w.current awaiting.before awaiting.frame → bs ≡ []
    answered (inl none) =
        let e : b ∷ bs ≡ [] = sym are ∙ none in
        absurd (cc)
    answered (inr one) =
        let e : b ∷ bs ≡ one.0 ∷ [] = sym are ∙ one.1 in
        cc

    go : FrameTraffic w awaiting.before awaiting.frame
        → (w.units ≡ []) × FrameAnswer bs w.sessions w.current awaiting.before awaiting.frame
    go (inl none) =
        let e : b ∷ bs ≡ [] = sym are ∙ none.1 in
        absurd (cc)
    go (inr one) = (one.0, inl (answered one.1))

pub reply_lost_holds : (limit : ℕ) (replies : List ℕ) (w : World) → w.replies ≡ replies → Holds limit w
    → Holds limit (record w { replies = drop 1 replies })
reply_lost_holds limit [] w are h = subst (λ bs. Holds limit (record w { replies = bs })) are h
reply_lost_holds limit (b ∷ bs) w are h =
    holds_of limit (record w { replies = bs }) (base_replies limit bs w (base_of limit w h)) h.current
    (without_reply limit b bs w w.sender.phase are h.phase)
