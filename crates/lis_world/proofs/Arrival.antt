-- What the arrival of a unit does, by its load, and of damage in its place.
use Rattle.std.proofs.Common.{◌≡◌, ℕ, ◌+◌, ◌%◌, ◌<◌, ◌⊎◌, inl, inr, Bool, true, false, not, List, [], ◌∷◌, ◌++◌, Option}
use Rattle.std.proofs.Common.{None, Some, length, refl, sym, ap, ◌∙◌, subst, arith}
use Rattle.std.specs.Prelude.{if◌then◌else◌, nat_lt, ◌==◌, ◌&&◌}
use Rattle.std.specs.Option.{option_to_list}
use Rattle.std.proofs.lemmas.Bool.{cond_both, lt-ltb, eq-eqb, ne_eqb, and_from, and_right}
use Rattle.std.proofs.lemmas.List.{append-nil, length_push}
use Rattle.lis_text.specs.Control.{ACK, NAK, ENQ}
use Rattle.lis_frame.specs.declared.frame.FrameFault.{FrameFault}
use Rattle.lis_frame.specs.declared.scanner.SignalOf.TheVariants.{Enq, Eot, Good, Bad}
use Rattle.lis_frame.specs.Frame.{FrameContent}
use Rattle.lis_text.specs.declared.readiness.Readiness.{Readiness}
use Rattle.lis_text.specs.declared.readiness.Readiness.TheVariants.{Ready, Busy, Contending}
use Rattle.lis_link.specs.declared.receiver.Note.{Note}
use Rattle.lis_link.specs.declared.receiver.Note.TheVariants.{Accepted, Duplicate, NoRoom, TooLong, TooMany}
use Rattle.lis_text.specs.LinkText.{longest_text}
use Rattle.lis_link.specs.Joining.{completed, groups, rest}
use Rattle.lis_link.specs.Receiver.{ReceiverState, answered_request, classified, on_classified, heard_by, held_text}
use Rattle.lis_link.specs.Receiver.{most_frames}
use Rattle.lis_link.proofs.JoiningLaws.{groups-append}
use Rattle.lis_world.specs.Unit.{Load, enquiry, ending, one_frame}
use Rattle.lis_world.specs.Session.{Session, session_at, changed, takes, with_more}
use Rattle.lis_world.specs.World.{ComputerState, booked}
use Rattle.lis_world.proofs.SessionLemmas.{length-changed, at-changed_same, at-changed, kept-changed}
use Rattle.lis_world.proofs.Invariant.{IsSound, Line, Pending, Unsent, IsYes, AreKept, IsLeft}
use Rattle.lis_world.proofs.Hearing.{at_past, hears_signal}

-- the computer's side before a unit comes
pub record IsSide (limit : ℕ) (d : ComputerState) : Type 0 where
  pub sound : (k : ℕ) → IsSound limit (session_at k d.sessions)
  pub line : Line d.sessions d.receiver.is_open d.receiver.accepted d.opened
  pub no_reply : d.replies ≡ []

pub kept_refl : (ss : List Session) → AreKept ss ss
kept_refl ss = record {
  length_same = refl;
  each_kept = λ k. record { texts_same = refl; sent_same = refl; acknowledged_same = refl; outcome_same = refl };
}

-- nothing was heard
pub left_unheard : (limit s : ℕ) (load : Load) (past : List ℕ) (d : ComputerState) → IsSide limit d
    → IsLeft limit s load d (at_past past d)
left_unheard limit s load past d side = record {
  sound = side.sound;
  line = side.line;
  kept = kept_refl d.sessions;
  after_ending = λ e. side.no_reply;
  after_enquiry = λ e. inl side.no_reply;
  after_frame = λ before f e pending. (pending, inl side.no_reply);
}

one_reply : (b : ℕ) (replies : List ℕ) → replies ≡ [] → replies ++ b ∷ [] ≡ b ∷ []
one_reply b replies none = ap (λ xs. xs ++ b ∷ []) none

no_is_no_yes : IsYes NAK → ⊥
no_is_no_yes (inl e) = absurd (omega arith)
no_is_no_yes (inr e) = absurd (omega arith)

-- one reply, and nothing else, in the place of a frame; the frame was accepted where it says yes
left_answered :
    (limit s byte : ℕ) (f : FrameContent) (past : List ℕ) (d : ComputerState)
    → IsSide limit d
    → ((before : List FrameContent) (g : FrameContent) → Pending d.sessions d.receiver.is_open d.opened s before g
    → IsYes byte → (session_at s d.sessions).accepted ≡ before ++ g ∷ [])
    → IsLeft limit s (one_frame f) d (at_past past (record d { replies = d.replies ++ byte ∷ [] }))
left_answered limit s byte f past d side accepted = record {
  sound = side.sound;
  line = side.line;
  kept = kept_refl d.sessions;
  after_ending = λ e. cc;
  after_enquiry = λ e. cc;
  after_frame = λ before g e pending.
      (pending, inr (byte, one_reply byte d.replies side.no_reply, accepted before g pending));
}

left_refused :
    (limit s : ℕ) (f : FrameContent) (past : List ℕ) (d : ComputerState)
    → IsSide limit d
    → IsLeft limit s (one_frame f) d (at_past past (record d { replies = d.replies ++ NAK ∷ [] }))
left_refused limit s f past d side =
    left_answered limit s NAK f past d side (λ before g pending yes. absurd (no_is_no_yes yes))

pub left_bad :
    (limit s : ℕ) (f : FrameContent) (fault : FrameFault) (past : List ℕ) (d : ComputerState)
    → IsSide limit d
    → IsLeft limit s (one_frame f) d (at_past past (hears_signal {limit = limit} s (Bad fault) d))
left_bad limit s f fault past d side = go d.receiver.is_open
  where
    go : (is_open : Bool) → IsLeft limit s (one_frame f) d
        (at_past past (booked s (heard_by {limit = limit} is_open (Bad fault) d.receiver) d))
    go true = left_refused limit s f past d side
    go false = left_unheard limit s (one_frame f) past d side

pub left_ending :
    (limit s : ℕ) (past : List ℕ) (d : ComputerState)
    → IsSide limit d
    → IsLeft limit s ending d (at_past past (hears_signal {limit = limit} s Eot d))
left_ending limit s past d side = go d.receiver.is_open
  where
    go : (is_open : Bool) → IsLeft limit s ending d
        (at_past past (booked s (heard_by {limit = limit} is_open Eot d.receiver) d))
    go true = record {
      sound = side.sound;
      line = λ e. cc;
      kept = kept_refl d.sessions;
      after_ending = λ e. side.no_reply;
      after_enquiry = λ e. cc;
      after_frame = λ before f e pending. cc;
    }
    go false = left_unheard limit s ending past d side

nothing_before : {A : Type 0} (xs ys : List A) → xs ++ ys ≡ [] → xs ≡ []
nothing_before [] ys e = refl
nothing_before (x ∷ xs) ys e = cc

pub accepted_of_unsent : (limit : ℕ) (x : Session) → IsSound limit x → x.sent ≡ [] → x.accepted ≡ []
accepted_of_unsent limit x sound none =
    nothing_before x.accepted sound.accepted_of_sent.rest (sound.accepted_of_sent.joined ∙ none)

-- ENQ is answered while the line stays closed
left_closed :
    (limit s byte : ℕ) (past : List ℕ) (d : ComputerState) (after : ReceiverState)
    → IsSide limit d
    → after.is_open ≡ false
    → IsLeft limit s enquiry d (at_past past (record d { receiver = after; replies = d.replies ++ byte ∷ [] }))
left_closed limit s byte past d after side closed = record {
  sound = side.sound;
  line = λ e. cc;
  kept = kept_refl d.sessions;
  after_ending = λ e. cc;
  after_enquiry = λ e. inr (byte, one_reply byte d.replies side.no_reply, λ is_open. cc);
  after_frame = λ before f e pending. cc;
}

left_request :
    (limit s : ℕ) (past : List ℕ) (d : ComputerState)
    → IsSide limit d
    → Unsent d.sessions s
    → (readiness : Readiness)
    → IsLeft limit s enquiry d (at_past past (booked s (answered_request readiness d.receiver) d))
left_request limit s past d side unsent Ready = record {
  sound = side.sound;
  line = λ e. (unsent.0, sym (accepted_of_unsent limit (session_at s d.sessions) (side.sound s) unsent.1));
  kept = kept_refl d.sessions;
  after_ending = λ e. cc;
  after_enquiry = λ e. inr (ACK, one_reply ACK d.replies side.no_reply, λ is_open. refl);
  after_frame = λ before f e pending. cc;
}
left_request limit s past d side unsent Busy =
    left_closed limit s NAK past d (record d.receiver { is_open = false }) side refl
left_request limit s past d side unsent Contending =
    left_closed limit s ENQ past d (record d.receiver { is_open = false; readiness = Ready }) side refl

pub left_enquiry :
    (limit s : ℕ) (past : List ℕ) (d : ComputerState)
    → IsSide limit d
    → Unsent d.sessions s
    → IsLeft limit s enquiry d (at_past past (hears_signal {limit = limit} s Enq d))
left_enquiry limit s past d side unsent = go d.receiver.is_open
  where
    go : (is_open : Bool) → IsLeft limit s enquiry d
        (at_past past (booked s (heard_by {limit = limit} is_open Enq d.receiver) d))
    go true = left_request limit s past d side unsent d.receiver.readiness
    go false = left_request limit s past d side unsent d.receiver.readiness

-- a frame that comes again is acknowledged
left_duplicate :
    (limit s number : ℕ) (f : FrameContent) (past : List ℕ) (d : ComputerState) (before : List FrameContent)
    → IsSide limit d
    → Pending d.sessions d.receiver.is_open d.opened s before f
    → (session_at s d.sessions).accepted ≡ before ++ f ∷ []
    → IsLeft limit s (one_frame f) d (at_past past (booked s (on_classified d.receiver f (Duplicate number)) d))
left_duplicate limit s number f past d before side is_pending accepted =
    left_answered limit s ACK f past d side (λ before' g pending yes.
    accepted ∙ sym is_pending.sent_is ∙ pending.sent_is)

groups_push_by : (xs : List (List ℕ)) (o : Option (List ℕ)) → xs ++ (option_to_list o ++ []) ≡ with_more xs o
groups_push_by xs None = append-nil xs
groups_push_by xs (Some x) = refl

groups_push : (held : List ℕ) (xs : List FrameContent) (f : FrameContent)
    → groups held (xs ++ f ∷ []) ≡ with_more (groups held xs) (completed (rest held xs) f)
groups_push held xs f = groups-append held xs (f ∷ []) ∙ groups_push_by (groups held xs) (completed (rest held xs) f)

-- the session of an accepted frame
sound_taken :
    (limit number : ℕ) (r : ReceiverState) (x : Session) (before : List FrameContent) (f : FrameContent)
    → r.accepted ≡ x.accepted
    → x.accepted ≡ before
    → x.sent ≡ before ++ f ∷ []
    → IsSound limit x
    → IsSound limit (takes (on_classified r f (Accepted number)) x)
sound_taken limit number r x before f same accepted sent h = record {
  sendable = h.sendable;
  accepted_of_sent = record {
    rest = [];
    joined = append-nil (x.accepted ++ f ∷ []) ∙ ap (λ xs. xs ++ f
        ∷ []) accepted ∙ sym sent;
  };
  sent_of_frames = h.sent_of_frames;
  acknowledged_of_accepted =
      let more = length_push x.accepted f in
      let enough = h.acknowledged_of_accepted in
      omega arith;
  delivered_whole =
      let held : rest [] r.accepted ≡ rest [] x.accepted = ap (rest []) same in
      rw (held, h.delivered_whole) (sym (groups_push [] x.accepted f));
  done_acknowledged = h.done_acknowledged;
}

left_accepted :
    (limit s number : ℕ) (f : FrameContent) (past : List ℕ) (d : ComputerState) (before : List FrameContent)
    → IsSide limit d
    → Pending d.sessions d.receiver.is_open d.opened s before f
    → d.receiver.is_open ≡ true
    → (session_at s d.sessions).accepted ≡ before
    → IsLeft limit s (one_frame f) d (at_past past (booked s (on_classified d.receiver f (Accepted number)) d))
left_accepted limit s number f past d before side is_pending is_open accepted = record {
  sound = at-changed (λ k x. IsSound limit x) d.opened taken d.sessions here side.sound;
  line = λ e. (
    subst (λ n. d.opened < n) (sym (length-changed d.opened taken d.sessions)) owned.0,
    ap (λ xs. xs ++ f ∷ []) owned.1
        ∙ sym (ap (λ (x : Session). x.accepted) (at-changed_same d.opened taken d.sessions owned.0)),
  );
  kept = record {
    length_same = length-changed d.opened taken d.sessions;
    each_kept = λ k. record {
      texts_same = kept-changed (λ (x : Session). x.texts) d.opened taken d.sessions (λ x. refl) k;
      sent_same = kept-changed (λ (x : Session). x.sent) d.opened taken d.sessions (λ x. refl) k;
      acknowledged_same = kept-changed (λ (x : Session). x.acknowledged) d.opened taken d.sessions (λ x. refl) k;
      outcome_same = kept-changed (λ (x : Session). x.outcome) d.opened taken d.sessions (λ x. refl) k;
    };
  };
  after_ending = λ e. cc;
  after_enquiry = λ e. cc;
  after_frame = λ before' g e pending.
      let same_sent : before ++ f ∷ [] ≡ before' ++ g ∷ [] = sym is_pending.sent_is ∙ pending.sent_is in (
        record {
          is_session = subst (λ n. s < n) (sym (length-changed d.opened taken d.sessions)) pending.is_session;
          sent_is = kept-changed (λ (x : Session). x.sent) d.opened taken d.sessions (λ x. refl) s ∙ pending.sent_is;
          accepted_is = inr (now ∙ same_sent);
          owner_is = pending.owner_is;
        },
        inr (ACK, one_reply ACK d.replies side.no_reply, λ yes. now ∙ same_sent),
      );
}
  where
    taken : Session → Session
    taken = takes (on_classified d.receiver f (Accepted number))

    owned : (d.opened < length d.sessions) × (d.receiver.accepted ≡ (session_at d.opened d.sessions).accepted)
    owned = side.line is_open

    owner : d.opened ≡ s
    owner = is_pending.owner_is is_open

    here : IsSound limit (taken (session_at d.opened d.sessions))
    here =
        sound_taken limit number d.receiver (session_at d.opened d.sessions) before f owned.1
        (subst (λ k. (session_at k d.sessions).accepted ≡ before) (sym owner) accepted)
        (subst (λ k. (session_at k d.sessions).sent ≡ before ++ f ∷ []) (sym owner) is_pending.sent_is)
        (side.sound d.opened)

    now : (session_at s (changed d.opened taken d.sessions)).accepted ≡ before ++ f ∷ []
    now =
        subst (λ k. (session_at k (changed d.opened taken d.sessions)).accepted ≡ before ++ f ∷ []) owner
        (ap (λ (x : Session). x.accepted) (at-changed_same d.opened taken d.sessions owned.0)
        ∙ ap (λ xs. xs ++ f ∷ []) (subst (λ k. (session_at k d.sessions).accepted ≡ before) (sym owner) accepted))

-- what is found of a frame after those that are accepted
pub classified_new :
    (r : ReceiverState) (f : FrameContent) (before : List FrameContent)
    → f.number ≡ (length before + 1) % 8
    → r.accepted ≡ before
    → classified r f
    ≡ (if not r.room then NoRoom
    else if length r.accepted == most_frames then TooMany
    else if nat_lt longest_text (length (held_text r) + length f.text) then TooLong
    else Accepted f.number)
classified_new r f before number_is accepted =
    let count : length r.accepted ≡ length before = ap length accepted in
    let differs : f.number ≡ length r.accepted % 8 → ⊥ = λ e. omega arith in
    let not_again : (nat_lt 0 (length r.accepted) && f.number == length r.accepted % 8) ≡ false =
    and_right (nat_lt 0 (length r.accepted)) (f.number == length r.accepted % 8)
    (ne_eqb f.number (length r.accepted % 8) differs) in
    let next : (f.number == (length r.accepted + 1) % 8) ≡ true =
    eq-eqb f.number ((length r.accepted + 1) % 8) (omega arith) in
    rw (not_again, next) refl

-- and of the last one that is accepted
pub classified_again :
    (r : ReceiverState) (f : FrameContent) (before : List FrameContent)
    → f.number ≡ (length before + 1) % 8
    → r.accepted ≡ before ++ f ∷ []
    → classified r f ≡ Duplicate f.number
classified_again r f before number_is accepted =
    let count : length r.accepted ≡ length before + 1 = ap length accepted ∙ length_push before f in
    let is_again : (nat_lt 0 (length r.accepted) && f.number == length r.accepted % 8) ≡ true =
    and_from (nat_lt 0 (length r.accepted)) (f.number == length r.accepted % 8)
    (lt-ltb 0 (length r.accepted) (omega arith))
    (eq-eqb f.number (length r.accepted % 8) (omega arith)) in
    rw is_again refl

-- a frame to a receiver whose line is open
left_classified :
    (limit s : ℕ) (f : FrameContent) (past : List ℕ) (d : ComputerState) (before : List FrameContent)
    → IsSide limit d
    → Pending d.sessions d.receiver.is_open d.opened s before f
    → f.number ≡ (length before + 1) % 8
    → d.receiver.is_open ≡ true
    → IsLeft limit s (one_frame f) d (at_past past (booked s (on_classified d.receiver f (classified d.receiver f)) d))
left_classified limit s f past d before side is_pending number_is is_open = go is_pending.accepted_is
  where
    Fits : Note → Type 0
    Fits note = IsLeft limit s (one_frame f) d (at_past past (booked s (on_classified d.receiver f note) d))

    held : d.receiver.accepted ≡ (session_at s d.sessions).accepted
    held = subst (λ k. d.receiver.accepted ≡ (session_at k d.sessions).accepted) (is_pending.owner_is is_open)
        (side.line is_open).1

    go : ((session_at s d.sessions).accepted ≡ before) ⊎ ((session_at s d.sessions).accepted ≡ before ++ f ∷ [])
        → Fits (classified d.receiver f)
    go (inl accepted) =
        subst Fits (sym (classified_new d.receiver f before number_is (held ∙ accepted)))
        (cond_both (not d.receiver.room) NoRoom _ Fits (λ e. left_refused limit s f past d side)
        (λ e. cond_both (length d.receiver.accepted == most_frames) TooMany _ Fits
        (λ e'. left_refused limit s f past d side)
        (λ e'. cond_both (nat_lt longest_text (length (held_text d.receiver) + length f.text)) TooLong
        (Accepted f.number) Fits
        (λ e''. left_refused limit s f past d side)
        (λ e''. left_accepted limit s f.number f past d before side is_pending is_open accepted))))
    go (inr accepted) =
        subst Fits (sym (classified_again d.receiver f before number_is (held ∙ accepted)))
        (left_duplicate limit s f.number f past d before side is_pending accepted)

pub left_frame :
    (limit s : ℕ) (f : FrameContent) (past : List ℕ) (d : ComputerState) (before : List FrameContent)
    → IsSide limit d
    → Pending d.sessions d.receiver.is_open d.opened s before f
    → f.number ≡ (length before + 1) % 8
    → IsLeft limit s (one_frame f) d (at_past past (hears_signal {limit = limit} s (Good f) d))
left_frame limit s f past d before side is_pending number_is = go d.receiver.is_open refl
  where
    go :
        (is_open : Bool)
        → d.receiver.is_open ≡ is_open
        → IsLeft limit s (one_frame f) d (at_past past
        (booked s (heard_by {limit = limit} is_open (Good f) d.receiver) d))
    go true e = left_classified limit s f past d before side is_pending number_is e
    go false e = left_unheard limit s (one_frame f) past d side
