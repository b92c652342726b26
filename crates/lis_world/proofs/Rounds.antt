-- A session is carried through its rounds.
use Rattle.std.proofs.Common.{◌≡◌, ℕ, suc, ◌+◌, ◌-◌, ◌%◌, ◌<◌, ◌≤◌, ◌⊎◌, inl, inr, Bool, true, false, List, [], ◌∷◌}
use Rattle.std.proofs.Common.{◌++◌, length, drop, Some, refl, sym, ap, ◌∙◌, subst, arith}
use Rattle.std.specs.Prelude.{nat_lt, ◌==◌, ◌||◌}
use Rattle.std.proofs.lemmas.Bool.{cond-true, cond-false, lt-ltb, le-ltb, ne_eqb, or_from}
use Rattle.std.proofs.lemmas.List.{drop_at, length-append}
use Rattle.lis_text.specs.Control.{ACK, NAK, EOT, STX, LF}
use Rattle.lis_frame.specs.declared.scanner.SignalOf.{SignalOf}
use Rattle.lis_frame.specs.declared.scanner.SignalOf.TheVariants.{Good, Bad}
use Rattle.lis_frame.specs.Limit.{IsLimit}
use Rattle.lis_frame.specs.Frame.{FrameContent, IsContent}
use Rattle.lis_frame.specs.Pieces.{session_frames}
use Rattle.lis_frame.specs.Stream.{signals_after, stream_with}
use Rattle.lis_link.specs.declared.sender.Phase.TheVariants.{Neutral, AwaitReply}
use Rattle.lis_link.specs.declared.sender.Outcome.TheVariants.{Done, SixTries}
use Rattle.lis_link.specs.declared.sender.EmitOf.TheVariants as Emits
use Rattle.lis_link.specs.declared.receiver.Note.{Note}
use Rattle.lis_link.specs.declared.receiver.Note.TheVariants.{Accepted, Duplicate, NoRoom}
use Rattle.lis_text.specs.LinkText.{longest_text}
use Rattle.lis_link.specs.Joining.{rest}
use Rattle.lis_link.specs.Sender.{SenderState, finished_with, gives, ends, sends_first, sends_again, on_accepted}
use Rattle.lis_link.specs.Sender.{reply_in}
use Rattle.lis_link.specs.Sender.{on_reply, most_tries}
use Rattle.lis_link.specs.Receiver.{classified, on_classified, heard_by, held_text, most_frames, with_room}
use Rattle.lis_world.specs.declared.event.Event.TheVariants.{Deliver, DeliverNoRoom, Damage, Reply, DamageReply}
use Rattle.lis_frame.specs.Frame.{frame_bytes}
use Rattle.lis_world.specs.Unit.{Load, ending, one_frame, Travelling}
use Rattle.lis_world.specs.Session.{Session, session_at, changed, follows, sends_frame, takes}
use Rattle.lis_world.specs.World.{World, ComputerState, computer_state_of, booked, hears, settled}
use Rattle.lis_world.specs.Steps.{sender_steps, delivered, damaged, is_noticed, room_at, replied}
use Rattle.lis_world.specs.Steps.{reply_damaged, after_event}
use Rattle.lis_world.specs.inside.Playing.{runs}
use Rattle.lis_world.specs.Progress.{Round, undisturbed, without_room, bad_frame, bad_reply, round_events, IsBadBody}
use Rattle.lis_world.specs.Progress.{IsNoticed}
use Rattle.lis_world.proofs.SessionLemmas.{length-changed, kept-changed}
use Rattle.lis_world.proofs.Invariant.{IsYes, FrameAnswer, IsAwaiting, InPhase, Holds, kept_frames}
use Rattle.lis_world.proofs.Leaving.{heard_replies}
use Rattle.lis_world.proofs.Hearing.{at_past, hears_signal, hears_signals, hears-heard}
use Rattle.lis_world.proofs.Arrival.{classified_new, classified_again}
use Rattle.lis_world.proofs.Delivery.{next_frame}
use Rattle.lis_frame.proofs.StreamLaws.{signals-frame_bytes}
use Rattle.lis_world.proofs.BadHeard.{signals-bad_body}
use Rattle.lis_world.proofs.Fitting.{fits-session_frames}
use Rattle.lis_world.proofs.Sending.{zero_to_drop}
use Rattle.lis_world.proofs.Safety.{event_holds}

-- what stays the same through a session
pub record IsTracked (limit c : ℕ) (frames : List FrameContent) (w : World) : Type 0 where
  pub holds : Holds limit w
  pub current_is : w.current ≡ c
  pub length_is : length w.sessions ≡ suc c
  pub frames_are : session_frames limit (session_at w.current w.sessions).texts ≡ frames

-- a frame is on the link, sent for the t-th time, and k frames are not acknowledged
pub record IsSent (limit c : ℕ) (frames : List FrameContent) (k t : ℕ) (w : World) : Type 0 where
  pub tracked : IsTracked limit c frames w
  pub awaits : w.sender.phase ≡ AwaitReply
  pub tries_is : w.sender.tries ≡ t
  pub frame : FrameContent
  pub unit_is : w.units ≡ record { session = w.current; load = one_frame frame } ∷ []
  pub no_reply : w.replies ≡ []
  pub is_open : w.receiver.is_open ≡ true
  pub room : w.receiver.room ≡ true
  pub remaining : w.sender.acknowledged + k ≡ length frames

-- its reply is
record IsAnswered (limit c : ℕ) (frames : List FrameContent) (k t b : ℕ) (w : World) : Type 0 where
  tracked : IsTracked limit c frames w
  awaits : w.sender.phase ≡ AwaitReply
  tries_is : w.sender.tries ≡ t
  no_unit : w.units ≡ []
  reply_is : w.replies ≡ b ∷ []
  is_open : w.receiver.is_open ≡ true
  room : w.receiver.room ≡ true
  remaining : w.sender.acknowledged + k ≡ length frames

-- EOT is on the link, or was heard
abbrev pub EndTraffic : World → Type 0
EndTraffic w = ((s : ℕ) × (w.units ≡ record { session = s; load = ending } ∷ []))
    ⊎ ((w.units ≡ []) × (w.receiver.is_open ≡ false))

-- each frame was acknowledged, and EOT is on the link or was heard
pub record IsFinished (limit c : ℕ) (frames : List FrameContent) (w : World) : Type 0 where
  pub tracked : IsTracked limit c frames w
  pub neutral : w.sender.phase ≡ Neutral
  pub outcome_is : w.sender.outcome ≡ Some Done
  pub unmuted : w.to_drop ≡ 0
  pub no_reply : w.replies ≡ []
  pub traffic : EndTraffic w

abbrev pub GoesOn : ℕ → ℕ → List FrameContent → ℕ → World → Type 0
GoesOn limit c frames k w = IsFinished limit c frames w ⊎ IsSent limit c frames k 1 w

-- the sender of a frame that awaits its reply keeps the session's frames
pub sender_frames :
    (limit c : ℕ) (frames : List FrameContent) (w : World)
    → IsTracked limit c frames w
    → w.sender.phase ≡ AwaitReply
    → w.sender.frames ≡ frames
sender_frames limit c frames w tracked awaits = kept_frames limit w AwaitReply tracked.holds awaits ∙ tracked.frames_are

-- what keeps the texts of a session keeps its frames
texts-changed :
    (limit c : ℕ) (f : Session → Session) (ss : List Session) → ((x : Session) → (f x).texts ≡ x.texts)
    → session_frames limit (session_at c (changed c f ss)).texts ≡ session_frames limit (session_at c ss).texts
texts-changed limit c f ss kept =
    ap (session_frames limit) (kept-changed (λ (x : Session). x.texts) c f ss kept c)

-- and their number
pub length-followed : (c : ℕ) (sender : SenderState) (ss : List Session) (n : ℕ) → length ss ≡ n
    → length (changed c (follows sender) ss) ≡ n
length-followed c sender ss n e = length-changed c (follows sender) ss ∙ e

pub awaiting_of : (limit : ℕ) (w : World) → Holds limit w → w.sender.phase ≡ AwaitReply → IsAwaiting w
awaiting_of limit w h awaits = subst (λ p. InPhase p w) awaits h.phase

-- frames are sent on, or none is left
pub sent_on :
    (limit c : ℕ) (frames : List FrameContent) (k : ℕ) (sender : SenderState) (w w2 : World)
    → w.current ≡ c
    → length w.sessions ≡ suc c
    → w.to_drop ≤ length w.units
    → Holds limit w2
    → w.units ≡ []
    → w.replies ≡ []
    → w.receiver.is_open ≡ true
    → w.receiver.room ≡ true
    → session_frames limit (session_at w.current w.sessions).texts ≡ frames
    → sender.acknowledged + k ≡ length frames
    → (left : List FrameContent)
    → w2 ≡ sender_steps {limit = limit} (sends_first left sender) w
    → GoesOn limit c frames k w2
sent_on limit c frames k sender w w2 current_is length_is to_drop_within holds no_unit no_reply is_open room frames_are
    remaining [] e =
    inl (subst (IsFinished limit c frames) (sym e) (record {
      tracked = record {
        holds = subst (Holds limit) e holds;
        current_is = current_is;
        length_is = length-followed w.current (finished_with Done sender) w.sessions (suc c) length_is;
        frames_are = texts-changed limit w.current (follows (finished_with Done sender)) w.sessions (λ x. refl)
            ∙ frames_are;
      };
      neutral = refl;
      outcome_is = refl;
      unmuted = zero_to_drop w.to_drop w.units to_drop_within no_unit;
      no_reply = no_reply;
      traffic = inl (w.current, ap (λ us. us ++ record { session = w.current; load = ending } ∷ []) no_unit);
    }))
sent_on limit c frames k sender w w2 current_is length_is to_drop_within holds no_unit no_reply is_open room frames_are
    remaining (f ∷ left) e =
    let next : SenderState = record sender { phase = AwaitReply; tries = 1 } in
    inr (subst (IsSent limit c frames k 1) (sym e) (record {
      tracked = record {
        holds = subst (Holds limit) e holds;
        current_is = current_is;
        length_is =
            length-changed w.current (sends_frame f) (changed w.current (follows next) w.sessions)
            ∙ length-followed w.current next w.sessions (suc c) length_is;
        frames_are =
            texts-changed limit w.current (sends_frame f) (changed w.current (follows next) w.sessions) (λ x. refl)
            ∙ texts-changed limit w.current (follows next) w.sessions (λ x. refl) ∙ frames_are;
      };
      awaits = refl;
      tries_is = refl;
      frame = f;
      unit_is = ap (λ us. us ++ record { session = w.current; load = one_frame f } ∷ []) no_unit;
      no_reply = no_reply;
      is_open = is_open;
      room = room;
      remaining = remaining;
    }))

-- ACK came: the next frame, if one is left
after_yes :
    (limit c : ℕ) (frames : List FrameContent) (k t : ℕ) (w : World)
    → IsLimit limit
    → IsAnswered limit c frames k t ACK w
    → GoesOn limit c frames (k - 1) (after_event limit Reply w)
after_yes limit c frames k t w is_limit answered =
    let h = answered.tracked.holds in
    let awaiting = awaiting_of limit w h answered.awaits in
    let sender : SenderState = record w.sender { acknowledged = w.sender.acknowledged + 1 } in
    let w1 : World = record w { replies = [] } in
    let e : after_event limit Reply w ≡ sender_steps {limit = limit}
    (sends_first (drop (w.sender.acknowledged + 1) w.sender.frames) sender) w1 =
    ap (λ rs. replied limit rs w) answered.reply_is
    ∙ ap (λ p. sender_steps {limit = limit} (reply_in p ACK w.sender) w1) answered.awaits in
    let remaining = answered.remaining in
    let some : length frames ≡ w.sender.acknowledged + suc (length awaiting.left) =
    ap length (sym (sender_frames limit c frames w answered.tracked answered.awaits) ∙ awaiting.frames_are)
    ∙ length-append awaiting.before (awaiting.frame ∷ awaiting.left)
    ∙ ap (λ n. n + suc (length awaiting.left)) (sym awaiting.acknowledged_is) in
    sent_on limit c frames (k - 1) sender w1 (after_event limit Reply w)
    answered.tracked.current_is answered.tracked.length_is h.to_drop_within
    (event_holds limit Reply w is_limit h)
    answered.no_unit refl answered.is_open answered.room answered.tracked.frames_are (omega arith)
    (drop (w.sender.acknowledged + 1) w.sender.frames) e

-- a byte that is no acknowledgement came: the same frame again
after_no :
    (limit c : ℕ) (frames : List FrameContent) (k t b r : ℕ) (w w2 : World)
    → IsAnswered limit c frames k t b w
    → (IsYes r → ⊥)
    → t < most_tries
    → Holds limit w2
    → w2 ≡ sender_steps {limit = limit} (on_reply r w.sender) (record w { replies = [] })
    → IsSent limit c frames k (t + 1) w2
after_no limit c frames k t b r w w2 answered refused few holds e =
    let awaiting = awaiting_of limit w answered.tracked.holds answered.awaits in
    let f : FrameContent = awaiting.frame in
    let again : SenderState = record w.sender { tries = w.sender.tries + 1 } in
    let w1 : World = record w { replies = [] } in
    let no_yes : (r == ACK || r == EOT) ≡ false =
    or_from (r == ACK) (r == EOT) (ne_eqb r ACK (λ e'. refused (inl e'))) (ne_eqb r EOT (λ e'. refused (inr e'))) in
    let same_then : drop w.sender.acknowledged w.sender.frames ≡ f ∷ awaiting.left =
    ap (drop w.sender.acknowledged) awaiting.frames_are
    ∙ drop_at awaiting.before (f ∷ awaiting.left) w.sender.acknowledged (sym awaiting.acknowledged_is) in
    let tries_is = answered.tries_is in
    let few_tries : nat_lt w.sender.tries most_tries ≡ true = lt-ltb w.sender.tries most_tries (omega arith) in
    let step_is : on_reply {limit = limit} r w.sender ≡ gives (Emits.Frame f) again =
    ap (λ p. reply_in {limit = limit} p r w.sender) answered.awaits
    ∙ cond-false (r == ACK || r == EOT) (on_accepted {limit = limit} w.sender)
    (sends_again {limit = limit} (drop w.sender.acknowledged w.sender.frames) w.sender) no_yes
    ∙ ap (λ xs. sends_again {limit = limit} xs w.sender) same_then
    ∙ cond-true (nat_lt w.sender.tries most_tries) (gives {limit = limit} (Emits.Frame f) again)
    (ends {limit = limit} SixTries w.sender) few_tries in
    let e2 : w2 ≡ sender_steps {limit = limit} (gives (Emits.Frame f) again) w1 =
    e ∙ ap (λ step. sender_steps step w1) step_is in
    subst (IsSent limit c frames k (t + 1)) (sym e2) (record {
      tracked = record {
        holds = subst (Holds limit) e2 holds;
        current_is = answered.tracked.current_is;
        length_is =
            length-changed w.current (sends_frame f) (changed w.current (follows again) w.sessions)
            ∙ length-followed w.current again w.sessions (suc c) answered.tracked.length_is;
        frames_are =
            texts-changed limit w.current (sends_frame f) (changed w.current (follows again) w.sessions) (λ x. refl)
            ∙ texts-changed limit w.current (follows again) w.sessions (λ x. refl) ∙ answered.tracked.frames_are;
      };
      awaits = answered.awaits;
      tries_is = ap (λ n. n + 1) tries_is;
      frame = f;
      unit_is = ap (λ us. us ++ record { session = w.current; load = one_frame f } ∷ []) answered.no_unit;
      no_reply = refl;
      is_open = answered.is_open;
      room = answered.room;
      remaining = answered.remaining;
    })

-- what the computer's side answers to a unit
record IsReplied (room : Bool) (n b : ℕ) (d : ComputerState) : Type 0 where
  reply_is : d.replies ≡ b ∷ []
  is_open : d.receiver.is_open ≡ true
  room_is : d.receiver.room ≡ room
  length_is : length d.sessions ≡ n

pub by_signals :
    (P : ComputerState → Type 0) (limit s : ℕ) (bytes : List ℕ) (d : ComputerState) (signals : List (SignalOf limit))
    → signals_after limit d.receiver.past bytes ≡ signals
    → P (at_past (stream_with d.receiver.past bytes) (hears_signals s signals d))
    → P (hears limit s bytes d)
by_signals P limit s bytes d signals are h =
    subst P (sym (hears-heard limit s bytes d))
    (subst (λ xs. P (at_past (stream_with d.receiver.past bytes) (hears_signals {limit = limit} s xs d))) (sym are) h)

-- a frame that is due, or came before, to a receiver whose line is open
record IsDue (limit s : ℕ) (room : Bool) (before : List FrameContent) (f : FrameContent) (d : ComputerState) : Type 0
  where
    no_reply : d.replies ≡ []
    is_open : d.receiver.is_open ≡ true
    room_is : d.receiver.room ≡ room
    number_is : f.number ≡ (length before + 1) % 8
    accepted_is : (d.receiver.accepted ≡ before) ⊎ (d.receiver.accepted ≡ before ++ f ∷ [])
    countable : length before < most_frames
    fits : length (rest [] before) + length f.text ≤ longest_text

replied_after :
    (limit s : ℕ) (room : Bool) (before : List FrameContent) (f : FrameContent) (d : ComputerState) (past : List ℕ)
    (note : Note) (b : ℕ)
    → IsDue limit s room before f d
    → classified d.receiver f ≡ note
    → IsReplied room (length d.sessions) b (at_past past (booked s (on_classified d.receiver f note) d))
    → IsReplied room (length d.sessions) b (at_past past (hears_signal {limit = limit} s (Good f) d))
replied_after limit s room before f d past note b due found h =
    subst (λ o. IsReplied room (length d.sessions) b
    (at_past past (booked s (heard_by {limit = limit} o (Good f) d.receiver) d))) (sym due.is_open)
    (subst (λ n. IsReplied room (length d.sessions) b (at_past past (booked s (on_classified d.receiver f n) d)))
    (sym found) h)

one_more_reply : (b : ℕ) (replies : List ℕ) → replies ≡ [] → replies ++ b ∷ [] ≡ b ∷ []
one_more_reply b replies none = ap (λ xs. xs ++ b ∷ []) none

replied_with_room :
    (limit s : ℕ) (before : List FrameContent) (f : FrameContent) (d : ComputerState) (past : List ℕ)
    → IsDue limit s true before f d
    → IsReplied true (length d.sessions) ACK (at_past past (hears_signal {limit = limit} s (Good f) d))
replied_with_room limit s before f d past due = go due.accepted_is
  where
    go :
        (d.receiver.accepted ≡ before) ⊎ (d.receiver.accepted ≡ before ++ f ∷ [])
        → IsReplied true (length d.sessions) ACK (at_past past (hears_signal {limit = limit} s (Good f) d))
    go (inl accepted) =
        let countable = due.countable in
        let fits = due.fits in
        let count : length d.receiver.accepted ≡ length before = ap length accepted in
        let held : length (held_text d.receiver) ≡ length (rest [] before) = ap (λ xs. length (rest [] xs)) accepted in
        let counted : (length d.receiver.accepted == most_frames) ≡ false =
        ne_eqb (length d.receiver.accepted) most_frames (λ e. omega arith) in
        let short : nat_lt longest_text (length (held_text d.receiver) + length f.text) ≡ false =
        le-ltb longest_text (length (held_text d.receiver) + length f.text) (omega arith) in
        let found : classified d.receiver f ≡ Accepted f.number =
        classified_new d.receiver f before due.number_is accepted ∙ rw (due.room_is, counted, short) refl in
        replied_after limit s true before f d past (Accepted f.number) ACK due found (record {
          reply_is = one_more_reply ACK d.replies due.no_reply;
          is_open = due.is_open;
          room_is = due.room_is;
          length_is = length-changed d.opened (takes (on_classified d.receiver f (Accepted f.number))) d.sessions;
        })
    go (inr accepted) =
        replied_after limit s true before f d past (Duplicate f.number) ACK due
        (classified_again d.receiver f before due.number_is accepted) (record {
          reply_is = one_more_reply ACK d.replies due.no_reply;
          is_open = due.is_open;
          room_is = due.room_is;
          length_is = refl;
        })

-- without room it is rejected, or acknowledged again
abbrev IsAckOrNak : ℕ → Type 0
IsAckOrNak b = (b ≡ ACK) ⊎ (b ≡ NAK)

replied_without_room :
    (limit s : ℕ) (before : List FrameContent) (f : FrameContent) (d : ComputerState) (past : List ℕ)
    → IsDue limit s false before f d
    → (b : ℕ) × IsAckOrNak b × IsReplied false (length d.sessions) b
    (at_past past (hears_signal {limit = limit} s (Good f) d))
replied_without_room limit s before f d past due = go due.accepted_is
  where
    go :
        (d.receiver.accepted ≡ before) ⊎ (d.receiver.accepted ≡ before ++ f ∷ [])
        → (b : ℕ) × IsAckOrNak b × IsReplied false (length d.sessions) b
        (at_past past (hears_signal {limit = limit} s (Good f) d))
    go (inl accepted) =
        let found : classified d.receiver f ≡ NoRoom =
        classified_new d.receiver f before due.number_is accepted ∙ rw due.room_is refl in (
          NAK,
          inr refl,
          replied_after limit s false before f d past NoRoom NAK due found (record {
            reply_is = one_more_reply NAK d.replies due.no_reply;
            is_open = due.is_open;
            room_is = due.room_is;
            length_is = refl;
          }),
        )
    go (inr accepted) = (
      ACK,
      inl refl,
      replied_after limit s false before f d past (Duplicate f.number) ACK due
          (classified_again d.receiver f before due.number_is accepted) (record {
            reply_is = one_more_reply ACK d.replies due.no_reply;
            is_open = due.is_open;
            room_is = due.room_is;
            length_is = refl;
          }),
    )

-- the frame on the link is due
record IsDueIn (limit : ℕ) (w : World) (f : FrameContent) : Type 0 where
  before : List FrameContent
  content : IsContent limit f
  number_is : f.number ≡ (length before + 1) % 8
  accepted_is : (w.receiver.accepted ≡ before) ⊎ (w.receiver.accepted ≡ before ++ f ∷ [])
  countable : length before < most_frames
  fits : length (rest [] before) + length f.text ≤ longest_text

front_load : List Travelling → Load
front_load [] = ending
front_load (u ∷ us) = u.load

same_load : (c : ℕ) (f g : FrameContent) (us : List Travelling)
    → us ≡ record { session = c; load = one_frame f } ∷ [] → us ≡ record { session = c; load = one_frame g } ∷ []
    → f ≡ g
unfolding front_load
same_load c f g us first second =
    let loads : one_frame f ≡ one_frame g = sym (ap front_load first) ∙ ap front_load second in
    cc

none_is_one : (us : List Travelling) (u : Travelling) → us ≡ [] → us ≡ u ∷ [] → ⊥
none_is_one us u none one = cc

due_in :
    (limit c : ℕ) (frames : List FrameContent) (k t : ℕ) (w : World)
    → IsLimit limit
    → length frames < 4294967295
    → (sent : IsSent limit c frames k t w)
    → IsDueIn limit w sent.frame
due_in limit c frames k t w is_limit few sent =
    let h = sent.tracked.holds in
    let awaiting = awaiting_of limit w h sent.awaits in
    let g : FrameContent = awaiting.frame in
    let before : List FrameContent = awaiting.before in
    let x : Session = session_at w.current w.sessions in
    let texts_frames : session_frames limit x.texts ≡ before ++ g ∷ awaiting.left =
    sym (kept_frames limit w AwaitReply h sent.awaits) ∙ awaiting.frames_are in
    let next = next_frame limit x before g is_limit (h.sound w.current) awaiting.pending.sent_is in
    let owner : w.opened ≡ w.current = awaiting.pending.owner_is sent.is_open in
    let held : w.receiver.accepted ≡ x.accepted =
    (h.line sent.is_open).1 ∙ ap (λ s. (session_at s w.sessions).accepted) owner in
    let count : length frames ≡ length before + suc (length awaiting.left) =
    ap length (sym (sender_frames limit c frames w sent.tracked sent.awaits) ∙ awaiting.frames_are)
    ∙ length-append before (g ∷ awaiting.left) in
    let here : IsDueIn limit w g = record {
      before = before;
      content = next.content;
      number_is = next.number_is;
      accepted_is = subst (λ xs. (xs ≡ before) ⊎ (xs ≡ before ++ g ∷ [])) (sym held) awaiting.pending.accepted_is;
      countable = omega arith;
      fits = fits-session_frames limit x.texts before g awaiting.left (h.sound w.current).sendable texts_frames;
    } in
    subst (IsDueIn limit w) (same_frame awaiting.traffic) here
  where
    same_frame :
        ((w.units ≡ record {
          session = w.current;
          load = one_frame (awaiting_of limit w sent.tracked.holds
              sent.awaits).frame;
        } ∷ []) × (w.replies ≡ []))
        ⊎ ((w.units ≡ []) × FrameAnswer w.replies w.sessions w.current
        (awaiting_of limit w sent.tracked.holds sent.awaits).before
        (awaiting_of limit w sent.tracked.holds sent.awaits).frame)
        → (awaiting_of limit w sent.tracked.holds sent.awaits).frame ≡ sent.frame
    same_frame (inl one) =
        same_load w.current (awaiting_of limit w sent.tracked.holds sent.awaits).frame sent.frame w.units one.0
        sent.unit_is
    same_frame (inr none) =
        absurd (none_is_one _ _ none.0 sent.unit_is)

-- the unit has left, and its reply is on the link
answered_after :
    (limit c : ℕ) (frames : List FrameContent) (k t b : ℕ) (w w2 : World) (d : ComputerState)
    → IsSent limit c frames k t w
    → Holds limit w2
    → IsReplied true (length w.sessions) b d
    → w2 ≡ settled [] d w
    → IsAnswered limit c frames k t b w2
answered_after limit c frames k t b w w2 d sent holds is_replied e =
    let awaiting = awaiting_of limit w sent.tracked.holds sent.awaits in
    let holds3 : Holds limit (settled [] d w) = subst (Holds limit) e holds in
    subst (IsAnswered limit c frames k t b) (sym e) (record {
      tracked = record {
        holds = holds3;
        current_is = sent.tracked.current_is;
        length_is = is_replied.length_is ∙ sent.tracked.length_is;
        frames_are =
            sym (kept_frames limit (settled [] d w) AwaitReply holds3 sent.awaits)
            ∙ sender_frames limit c frames w sent.tracked sent.awaits;
      };
      awaits = sent.awaits;
      tries_is = sent.tries_is;
      no_unit = refl;
      reply_is = heard_replies w.to_drop d.replies w.replies awaiting.unmuted sent.no_reply ∙ is_replied.reply_is;
      is_open = is_replied.is_open;
      room = is_replied.room_is;
      remaining = sent.remaining;
    })

delivered_answered :
    (limit c : ℕ) (frames : List FrameContent) (k t : ℕ) (w : World)
    → IsLimit limit
    → length frames < 4294967295
    → IsSent limit c frames k t w
    → IsAnswered limit c frames k t ACK (after_event limit Deliver w)
delivered_answered limit c frames k t w is_limit few sent =
    let f = sent.frame in
    let due = due_in limit c frames k t w is_limit few sent in
    let d : ComputerState = computer_state_of w in
    let after : ComputerState = hears limit w.current (frame_bytes f) d in
    let is_due : IsDue limit w.current true due.before f d = record {
      no_reply = refl;
      is_open = sent.is_open;
      room_is = sent.room;
      number_is = due.number_is;
      accepted_is = due.accepted_is;
      countable = due.countable;
      fits = due.fits;
    } in
    let heard : IsReplied true (length w.sessions) ACK after =
    by_signals (IsReplied true (length w.sessions) ACK) limit w.current (frame_bytes f) d (Good f ∷ [])
    (signals-frame_bytes limit w.receiver.past f due.content)
    (replied_with_room limit w.current due.before f d (stream_with w.receiver.past (frame_bytes f)) is_due) in
    answered_after limit c frames k t ACK w (after_event limit Deliver w) after sent
    (event_holds limit Deliver w is_limit sent.tracked.holds) heard
    (ap (λ us. delivered limit us w) sent.unit_is)

delivered_no_room_answered :
    (limit c : ℕ) (frames : List FrameContent) (k t : ℕ) (w : World)
    → IsLimit limit
    → length frames < 4294967295
    → IsSent limit c frames k t w
    → (b : ℕ) × IsAckOrNak b × IsAnswered limit c frames k t b (after_event limit DeliverNoRoom w)
delivered_no_room_answered limit c frames k t w is_limit few sent =
    let f = sent.frame in
    let due = due_in limit c frames k t w is_limit few sent in
    let d : ComputerState = computer_state_of (room_at false w) in
    let after : ComputerState = hears limit w.current (frame_bytes f) d in
    let again : ComputerState = record after { receiver = with_room true after.receiver } in
    let is_due : IsDue limit w.current false due.before f d = record {
      no_reply = refl;
      is_open = sent.is_open;
      room_is = refl;
      number_is = due.number_is;
      accepted_is = due.accepted_is;
      countable = due.countable;
      fits = due.fits;
    } in
    let found = replied_without_room limit w.current due.before f d (stream_with w.receiver.past (frame_bytes f))
    is_due in
    let heard : IsReplied false (length w.sessions) found.0 after =
    by_signals (IsReplied false (length w.sessions) found.0) limit w.current (frame_bytes f) d (Good f ∷ [])
    (signals-frame_bytes limit w.receiver.past f due.content) found.2 in (
      found.0,
      found.1,
      answered_after limit c frames k t found.0 w (after_event limit DeliverNoRoom w) again sent
          (event_holds limit DeliverNoRoom w is_limit sent.tracked.holds)
          (record { reply_is = heard.reply_is; is_open = heard.is_open; room_is = refl; length_is = heard.length_is })
          (ap (λ us. room_at true (delivered limit us (room_at false w))) sent.unit_is),
    )

damaged_answered :
    (limit c : ℕ) (frames : List FrameContent) (k t : ℕ) (body : List ℕ) (w : World)
    → IsLimit limit
    → IsBadBody limit body
    → IsSent limit c frames k t w
    → IsAnswered limit c frames k t NAK (after_event limit (Damage (STX ∷ (body ++ LF ∷ []))) w)
damaged_answered limit c frames k t body w is_limit bad sent =
    let bytes : List ℕ = STX ∷ (body ++ LF ∷ []) in
    let d : ComputerState = computer_state_of w in
    let after : ComputerState = hears limit w.current bytes d in
    let signals_are : signals_after limit w.receiver.past bytes ≡ Bad bad.fault ∷ [] =
    signals-bad_body limit w.receiver.past body bad.fault bad.no_mark bad.is_bad in
    let past : List ℕ = stream_with w.receiver.past bytes in
    let heard : IsReplied true (length w.sessions) NAK after =
    by_signals (IsReplied true (length w.sessions) NAK) limit w.current bytes d (Bad bad.fault ∷ []) signals_are
    (subst (λ o. IsReplied true (length w.sessions) NAK
    (at_past past (booked w.current (heard_by {limit = limit} o (Bad bad.fault) d.receiver) d)))
    (sym sent.is_open)
    (record { reply_is = refl; is_open = sent.is_open; room_is = sent.room; length_is = refl })) in
    let noticed : is_noticed (one_frame sent.frame) (signals_after limit w.receiver.past bytes) ≡ true =
    ap (is_noticed (one_frame sent.frame)) signals_are in
    answered_after limit c frames k t NAK w (after_event limit (Damage bytes) w) after sent
    (event_holds limit (Damage bytes) w is_limit sent.tracked.holds) heard
    (ap (λ us. damaged limit bytes us w) sent.unit_is
    ∙ cond-true (is_noticed (one_frame sent.frame) (signals_after limit w.receiver.past bytes)) (settled [] after w)
    w noticed)

-- a round
abbrev pub GoesOnOrAgain : ℕ → ℕ → List FrameContent → ℕ → ℕ → World → Type 0
GoesOnOrAgain limit c frames k t w = GoesOn limit c frames (k - 1) w ⊎ IsSent limit c frames k (t + 1) w

nak_is_no_yes : IsYes NAK → ⊥
nak_is_no_yes (inl e) = absurd (omega arith)
nak_is_no_yes (inr e) = absurd (omega arith)

replied_is :
    (limit b : ℕ) (w : World)
    → w.replies ≡ b ∷ []
    → after_event limit Reply w ≡ sender_steps {limit = limit} (on_reply b w.sender) (record w { replies = [] })
replied_is limit b w are = ap (λ rs. replied limit rs w) are

answered_round :
    (limit c : ℕ) (frames : List FrameContent) (k t b : ℕ) (w : World)
    → IsLimit limit
    → t < most_tries
    → IsAckOrNak b
    → IsAnswered limit c frames k t b w
    → GoesOnOrAgain limit c frames k t (after_event limit Reply w)
answered_round limit c frames k t b w is_limit few (inl e) answered =
    inl (after_yes limit c frames k t w is_limit (subst (λ x. IsAnswered limit c frames k t x w) e answered))
answered_round limit c frames k t b w is_limit few (inr e) answered =
    inr (after_no limit c frames k t b b w (after_event limit Reply w) answered
    (subst (λ x. IsYes x → ⊥) (sym e) nak_is_no_yes) few
    (event_holds limit Reply w is_limit answered.tracked.holds) (replied_is limit b w answered.reply_is))

pub undisturbed_round :
    (limit c : ℕ) (frames : List FrameContent) (k t : ℕ) (w : World)
    → IsLimit limit
    → length frames < 4294967295
    → IsSent limit c frames k t w
    → GoesOn limit c frames (k - 1) (runs limit (round_events undisturbed) w)
undisturbed_round limit c frames k t w is_limit few sent =
    after_yes limit c frames k t (after_event limit Deliver w) is_limit
    (delivered_answered limit c frames k t w is_limit few sent)

pub disturbed_round :
    (limit c : ℕ) (frames : List FrameContent) (k t : ℕ) (round : Round) (w : World)
    → IsLimit limit
    → length frames < 4294967295
    → t < most_tries
    → IsNoticed limit round
    → IsSent limit c frames k t w
    → GoesOnOrAgain limit c frames k t (runs limit (round_events round) w)
disturbed_round limit c frames k t undisturbed w is_limit few tries noticed sent =
    inl (undisturbed_round limit c frames k t w is_limit few sent)
disturbed_round limit c frames k t without_room w is_limit few tries noticed sent =
    let found = delivered_no_room_answered limit c frames k t w is_limit few sent in
    answered_round limit c frames k t found.0 (after_event limit DeliverNoRoom w) is_limit tries found.1 found.2
disturbed_round limit c frames k t (bad_frame body) w is_limit few tries noticed sent =
    answered_round limit c frames k t NAK (after_event limit (Damage (STX ∷ (body ++ LF ∷ []))) w) is_limit tries
    (inr refl)
    (damaged_answered limit c frames k t body w is_limit noticed sent)
disturbed_round limit c frames k t (bad_reply r) w is_limit few tries noticed sent =
    let w1 : World = after_event limit Deliver w in
    let answered = delivered_answered limit c frames k t w is_limit few sent in
    let no_yes : (r == ACK || r == EOT) ≡ false = or_from (r == ACK) (r == EOT) (ne_eqb r ACK noticed.0)
    (ne_eqb r EOT noticed.1) in
    let refused : IsYes r → ⊥ = elim [ inl e ↦ noticed.0 e | inr e ↦ noticed.1 e ] in
    inr (after_no limit c frames k t ACK r w1 (after_event limit (DamageReply r) w1) answered refused tries
    (event_holds limit (DamageReply r) w1 is_limit answered.tracked.holds)
    (ap (λ rs. reply_damaged limit r rs w1) answered.reply_is
    ∙ cond-false (r == ACK || r == EOT) w1 (sender_steps {limit = limit} (on_reply r w1.sender)
    (record w1 { replies = [] })) no_yes))
