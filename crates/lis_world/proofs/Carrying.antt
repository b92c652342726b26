-- A session with enough rounds is done, and an undisturbed one too.
use Rattle.std.proofs.Common.{◌≡◌, ℕ, zero, suc, ◌+◌, ◌-◌, ◌<◌, ◌≤◌, inl, inr, Bool, true, false, List, [], ◌∷◌}
use Rattle.std.proofs.Common.{◌++◌, length, get_or, None, Some, refl, sym, ap, ◌∙◌, subst, arith}
use Rattle.std.specs.Prelude.{All, replicate}
use Rattle.std.specs.List.{flat_map}
use Rattle.std.proofs.lemmas.Bool.{cond-false}
use Rattle.std.proofs.lemmas.List.{length-append, length_push}
use Rattle.std.proofs.lemmas.List.Elements.{All-head, All-tail, All-replicate}
use Rattle.lis_text.specs.Control.{ACK, ENQ, EOT, STX, LF}
use Rattle.lis_frame.specs.declared.scanner.SignalOf.TheVariants.{Enq, Eot}
use Rattle.lis_frame.specs.Limit.{IsLimit}
use Rattle.lis_frame.specs.Frame.{FrameContent}
use Rattle.lis_frame.specs.Pieces.{session_frames}
use Rattle.lis_frame.specs.Stream.{signal_after, signals_after, stream_with}
use Rattle.lis_link.specs.declared.sender.Outcome.TheVariants.{Done}
use Rattle.lis_link.specs.declared.sender.Phase.TheVariants.{AwaitLine}
use Rattle.lis_text.specs.declared.readiness.Readiness.TheVariants as Readinesses
use Rattle.lis_link.specs.Joining.{groups}
use Rattle.lis_link.specs.Sender.{sends_first, started, most_tries}
use Rattle.lis_link.specs.Receiver.{answered_request, heard_by, with_room}
use Rattle.lis_link.proofs.JoiningLaws.{groups-session_frames}
use Rattle.lis_world.specs.declared.event.Event.{Event}
use Rattle.lis_world.specs.declared.event.Event.TheVariants.{Start, Deliver, DeliverNoRoom, Damage, Reply, DamageReply}
use Rattle.lis_world.specs.Unit.{enquiry, ending, Travelling, load_bytes}
use Rattle.lis_world.specs.Session.{Session, new_session, session_at}
use Rattle.lis_world.specs.World.{World, new_world, ComputerState, computer_state_of, booked, hears, lowered, settled}
use Rattle.lis_world.specs.Steps.{begins, delivered, damaged, is_noticed, room_at, replied}
use Rattle.lis_world.specs.Steps.{reply_damaged, sender_steps, after_event, world}
use Rattle.lis_world.specs.inside.Playing.{runs}
use Rattle.lis_world.specs.Safe.{IsPrefix}
use Rattle.lis_world.specs.Progress.{Round, undisturbed, without_room, bad_frame, bad_reply, round_events}
use Rattle.lis_world.specs.Progress.{IsBadBody, IsNoticed, good_rounds, FewInARow, IsCalm}
use Rattle.lis_world.specs.Progress.{session_events, done_session, IsCarried, AreSendable, AreEnough}
use Rattle.lis_world.specs.Progress.{quiet_events, CarriesThrough, RunsQuietly}
use Rattle.lis_world.proofs.Invariant.{IsSound, InPhase, Holds, kept_frames}
use Rattle.lis_world.proofs.Room.{room_runs}
use Rattle.lis_world.proofs.Leaving.{heard_replies}
use Rattle.lis_world.proofs.Hearing.{at_past}
use Rattle.lis_world.proofs.BadHeard.{signals-bad_body}
use Rattle.lis_link.proofs.Counting.{few-session_frames}
use Rattle.lis_world.proofs.Starting.{can_start}
use Rattle.lis_world.proofs.Sending.{zero_to_drop}
use Rattle.lis_world.proofs.Safety.{event_holds, runs_hold, new_holds, whole_prefix, prefix_trans}
use Rattle.lis_world.proofs.Safety.{delivers_all_from_sound}
use Rattle.lis_world.proofs.Rounds.{EndTraffic}
use Rattle.lis_world.proofs.Rounds.{IsSent, IsFinished, GoesOn, GoesOnOrAgain, by_signals, awaiting_of, sender_frames}
use Rattle.lis_world.proofs.Rounds.{sent_on, undisturbed_round, disturbed_round}

-- EOT closes the line
record IsClosed (ss : List Session) (d : ComputerState) : Type 0 where
  no_reply : d.replies ≡ []
  is_closed : d.receiver.is_open ≡ false
  sessions_are : d.sessions ≡ ss

ending_heard : (limit s : ℕ) (d : ComputerState) → d.replies ≡ [] → IsClosed d.sessions (hears limit s (EOT ∷ []) d)
unfolding signal_after
ending_heard limit s d none =
    by_signals (IsClosed d.sessions) limit s (EOT ∷ []) d (Eot ∷ []) refl (go d.receiver.is_open refl)
  where
    go :
        (is_open : Bool)
        → d.receiver.is_open ≡ is_open
        → IsClosed d.sessions (at_past (stream_with d.receiver.past (EOT ∷ []))
        (booked s (heard_by {limit = limit} is_open Eot d.receiver) d))
    go true e = record { no_reply = none; is_closed = refl; sessions_are = refl }
    go false e = record { no_reply = none; is_closed = e; sessions_are = refl }

-- a session that is over stays so
record IsSessionFinished (limit c : ℕ) (frames : List FrameContent) (w : World) : Type 0 where
  finished : IsFinished limit c frames w
  closed : w.receiver.is_open ≡ false

closed_after :
    (limit c : ℕ) (frames : List FrameContent) (w w2 : World) (d : ComputerState)
    → IsFinished limit c frames w
    → Holds limit w2
    → IsClosed w.sessions d
    → w2 ≡ settled [] d w
    → IsSessionFinished limit c frames w2
closed_after limit c frames w w2 d finished holds closed e =
    subst (IsSessionFinished limit c frames) (sym e) (record {
      finished = record {
        tracked = record {
          holds = subst (Holds limit) e holds;
          current_is = finished.tracked.current_is;
          length_is = ap length closed.sessions_are ∙ finished.tracked.length_is;
          frames_are =
              ap (λ ss. session_frames limit (session_at w.current ss).texts) closed.sessions_are
              ∙ finished.tracked.frames_are;
        };
        neutral = finished.neutral;
        outcome_is = finished.outcome_is;
        unmuted = subst (λ m. lowered m ≡ 0) (sym finished.unmuted) refl;
        no_reply = heard_replies w.to_drop d.replies w.replies finished.unmuted finished.no_reply ∙ closed.no_reply;
        traffic = inr (refl, closed.is_closed);
      };
      closed = closed.is_closed;
    })

finished_delivered : (limit c : ℕ) (frames : List FrameContent) (w : World) → IsLimit limit
    → IsFinished limit c frames w → IsSessionFinished limit c frames (after_event limit Deliver w)
finished_delivered limit c frames w is_limit finished = go finished.traffic
  where
    go : EndTraffic w → IsSessionFinished limit c frames (after_event limit Deliver w)
    go (inl one) =
        closed_after limit c frames w (after_event limit Deliver w) (hears limit one.0 (EOT ∷ []) (computer_state_of w))
        finished
        (event_holds limit Deliver w is_limit finished.tracked.holds) (ending_heard limit one.0 (computer_state_of w)
        refl)
        (ap (λ us. delivered limit us w) one.1)
    go (inr none) =
        subst (IsSessionFinished limit c frames) (sym (ap (λ us. delivered limit us w) none.0))
        (record { finished = finished; closed = none.1 })

finished_no_room :
    (limit c : ℕ) (frames : List FrameContent) (w : World) → IsLimit limit → IsFinished limit c frames w
    → IsFinished limit c frames (after_event limit DeliverNoRoom w)
finished_no_room limit c frames w is_limit finished = go finished.traffic
  where
    no_room : List Travelling → World
    no_room units = room_at true (delivered limit units (room_at false w))

    go : EndTraffic w → IsFinished limit c frames (after_event limit DeliverNoRoom w)
    go (inl one) =
        let d : ComputerState = computer_state_of (room_at false w) in
        let after : ComputerState = hears limit one.0 (EOT ∷ []) d in
        let closed = ending_heard limit one.0 d refl in
        (closed_after limit c frames w (after_event limit DeliverNoRoom w)
        (record after { receiver = with_room true after.receiver }) finished
        (event_holds limit DeliverNoRoom w is_limit finished.tracked.holds)
        (record { no_reply = closed.no_reply; is_closed = closed.is_closed; sessions_are = closed.sessions_are })
        (ap no_room one.1)).finished
    go (inr none) = subst (IsFinished limit c frames) (sym (ap no_room none.0)) (record {
      tracked = record {
        holds = subst (Holds limit) (ap no_room none.0) (event_holds limit DeliverNoRoom w is_limit
            finished.tracked.holds);
        current_is = finished.tracked.current_is;
        length_is = finished.tracked.length_is;
        frames_are = finished.tracked.frames_are;
      };
      neutral = finished.neutral;
      outcome_is = finished.outcome_is;
      unmuted = finished.unmuted;
      no_reply = finished.no_reply;
      traffic = finished.traffic;
    })

-- damage that is heard as a bad frame is not allowed for EOT
finished_damaged :
    (limit c : ℕ) (frames : List FrameContent) (body : List ℕ) (w : World)
    → IsBadBody limit body
    → IsFinished limit c frames w
    → IsFinished limit c frames (after_event limit (Damage (STX ∷ (body ++ LF ∷ []))) w)
finished_damaged limit c frames body w bad finished = go finished.traffic
  where
    bytes : List ℕ
    bytes = STX ∷ (body ++ LF ∷ [])

    go : EndTraffic w → IsFinished limit c frames (after_event limit (Damage bytes) w)
    go (inl one) =
        let unnoticed : is_noticed ending (signals_after limit w.receiver.past bytes) ≡ false =
        ap (is_noticed ending) (signals-bad_body limit w.receiver.past body bad.fault bad.no_mark bad.is_bad) in
        let same : after_event limit (Damage bytes) w ≡ w =
        ap (λ us. damaged limit bytes us w) one.1
        ∙ cond-false (is_noticed ending (signals_after limit w.receiver.past bytes))
        (settled [] (hears limit one.0 bytes (computer_state_of w)) w) w unnoticed in
        subst (IsFinished limit c frames) (sym same) finished
    go (inr none) = subst (IsFinished limit c frames) (sym (ap (λ us. damaged limit bytes us w) none.0)) finished

finished_reply : (limit c : ℕ) (frames : List FrameContent) (w : World) → IsFinished limit c frames w
    → IsFinished limit c frames (after_event limit Reply w)
finished_reply limit c frames w finished = subst (IsFinished limit c frames)
    (sym (ap (λ rs. replied limit rs w) finished.no_reply)) finished

finished_bad_reply :
    (limit c : ℕ) (frames : List FrameContent) (r : ℕ) (w : World) → IsFinished limit c frames w
    → IsFinished limit c frames (after_event limit (DamageReply r) w)
finished_bad_reply limit c frames r w finished =
    subst (IsFinished limit c frames) (sym (ap (λ rs. reply_damaged limit r rs w) finished.no_reply)) finished

finished_round :
    (limit c : ℕ) (frames : List FrameContent) (round : Round) (w : World)
    → IsLimit limit
    → IsNoticed limit round
    → IsFinished limit c frames w
    → IsFinished limit c frames (runs limit (round_events round) w)
finished_round limit c frames undisturbed w is_limit noticed finished =
    finished_reply limit c frames (after_event limit Deliver w)
    (finished_delivered limit c frames w is_limit finished).finished
finished_round limit c frames without_room w is_limit noticed finished =
    finished_reply limit c frames (after_event limit DeliverNoRoom w)
    (finished_no_room limit c frames w is_limit finished)
finished_round limit c frames (bad_frame body) w is_limit noticed finished =
    finished_reply limit c frames (after_event limit (Damage (STX ∷ (body ++ LF ∷ []))) w)
    (finished_damaged limit c frames body w noticed finished)
finished_round limit c frames (bad_reply r) w is_limit noticed finished =
    finished_bad_reply limit c frames r (after_event limit Deliver w)
    (finished_delivered limit c frames w is_limit finished).finished

pub runs-append : (limit : ℕ) (xs ys : List Event) (w : World)
    → runs limit (xs ++ ys) w ≡ runs limit ys (runs limit xs w)
runs-append limit [] ys w = refl
runs-append limit (x ∷ xs) ys w = runs-append limit xs ys (after_event limit x w)

finished_rounds :
    (limit c : ℕ) (frames : List FrameContent) (rounds : List Round) (w : World)
    → IsLimit limit
    → All (IsNoticed limit) rounds
    → IsFinished limit c frames w
    → IsFinished limit c frames (runs limit (flat_map round_events rounds) w)
finished_rounds limit c frames [] w is_limit noticed finished = finished
finished_rounds limit c frames (round ∷ rounds) w is_limit noticed finished =
    subst (IsFinished limit c frames) (sym (runs-append limit (round_events round) (flat_map round_events rounds) w))
    (finished_rounds limit c frames rounds (runs limit (round_events round) w) is_limit
    (All-tail (IsNoticed limit) round rounds noticed)
    (finished_round limit c frames round w is_limit (All-head (IsNoticed limit) round rounds noticed) finished))

-- a frame that awaits its reply is not acknowledged yet
some_remaining : (limit c : ℕ) (frames : List FrameContent) (k t : ℕ) (w : World) → IsSent limit c frames k t w → 0 < k
some_remaining limit c frames k t w sent =
    let awaiting = awaiting_of limit w sent.tracked.holds sent.awaits in
    let remaining = sent.remaining in
    let counted = awaiting.acknowledged_is in
    let whole : length frames ≡ length awaiting.before + suc (length awaiting.left) =
    ap length (sym (sender_frames limit c frames w sent.tracked sent.awaits) ∙ awaiting.frames_are)
    ∙ length-append awaiting.before (awaiting.frame ∷ awaiting.left) in
    omega arith

-- rounds, one by one
through :
    (limit c : ℕ) (frames : List FrameContent) (rounds : List Round) (row k t : ℕ) (w : World)
    → IsLimit limit
    → length frames < 4294967295
    → All (IsNoticed limit) rounds
    → FewInARow row rounds
    → k ≤ good_rounds rounds
    → t ≤ suc row
    → IsSent limit c frames k t w
    → IsFinished limit c frames (runs limit (flat_map round_events rounds) w)
through limit c frames [] row k t w is_limit few noticed in_a_row enough tries sent =
    let some = some_remaining limit c frames k t w sent in
    absurd (omega arith)
through limit c frames (undisturbed ∷ rounds) row k t w is_limit few noticed in_a_row enough tries sent =
    go (undisturbed_round limit c frames k t w is_limit few sent)
    (through limit c frames rounds 0 (k - 1) 1 (runs limit (round_events undisturbed) w) is_limit few later
    in_a_row (omega arith) (omega arith))
  where
    later : All (IsNoticed limit) rounds
    later = All-tail (IsNoticed limit) undisturbed rounds noticed

    w2 : World
    w2 = runs limit (round_events undisturbed) w

    go :
        GoesOn limit c frames (k - 1) w2
        → (IsSent limit c frames (k - 1) 1 w2
        → IsFinished limit c frames (runs limit (flat_map round_events rounds) w2))
        → IsFinished limit c frames (runs limit (flat_map round_events rounds) w2)
    go (inl finished) goes_on = finished_rounds limit c frames rounds w2 is_limit later finished
    go (inr sent2) goes_on = goes_on sent2
through limit c frames (round ∷ rounds) row k t w is_limit few noticed in_a_row enough tries sent =
    let few_row : suc row < most_tries = in_a_row.0 in
    let few_tries : t < most_tries = omega arith in
    let w2 : World = runs limit (round_events round) w in
    subst (IsFinished limit c frames) (sym (runs-append limit (round_events round) (flat_map round_events rounds) w))
    (go (disturbed_round limit c frames k t round w is_limit few few_tries
    (All-head (IsNoticed limit) round rounds noticed) sent)
    (λ j n below enough2. through limit c frames rounds (suc row) j n w2 is_limit few later in_a_row.1 enough2 below))
  where
    later : All (IsNoticed limit) rounds
    later = All-tail (IsNoticed limit) round rounds noticed

    w3 : World
    w3 = runs limit (round_events round) w

    go :
        GoesOnOrAgain limit c frames k t w3
        → ((j n : ℕ) → n ≤ suc (suc row) → j ≤ good_rounds rounds → IsSent limit c frames j n w3
        → IsFinished limit c frames (runs limit (flat_map round_events rounds) w3))
        → IsFinished limit c frames (runs limit (flat_map round_events rounds) w3)
    go (inl (inl finished)) goes_on = finished_rounds limit c frames rounds w3 is_limit later finished
    go (inl (inr sent2)) goes_on = goes_on (k - 1) 1 (omega arith) (omega arith) sent2
    go (inr sent2) goes_on = goes_on k (t + 1) (omega arith) enough sent2

-- ENQ opens the line of a receiver that is ready
record IsOpened (n : ℕ) (d : ComputerState) : Type 0 where
  reply_is : d.replies ≡ ACK ∷ []
  is_open : d.receiver.is_open ≡ true
  room_is : d.receiver.room ≡ true
  length_is : length d.sessions ≡ n

enquiry_heard :
    (limit s : ℕ) (d : ComputerState)
    → d.replies ≡ []
    → d.receiver.readiness ≡ Readinesses.Ready
    → d.receiver.room ≡ true
    → IsOpened (length d.sessions) (hears limit s (ENQ ∷ []) d)
unfolding signal_after
enquiry_heard limit s d none ready room =
    by_signals (IsOpened (length d.sessions)) limit s (ENQ ∷ []) d (Enq ∷ []) refl (go d.receiver.is_open)
  where
    past : List ℕ
    past = stream_with d.receiver.past (ENQ ∷ [])

    request : IsOpened (length d.sessions) (at_past past (booked s (answered_request d.receiver.readiness d.receiver)
        d))
    request =
        subst (λ r. IsOpened (length d.sessions) (at_past past (booked s (answered_request r d.receiver) d)))
        (sym ready)
        (record { reply_is = ap (λ xs. xs ++ ACK ∷ []) none; is_open = refl; room_is = room; length_is = refl })

    go : (is_open : Bool) → IsOpened (length d.sessions)
        (at_past past (booked s (heard_by {limit = limit} is_open Enq d.receiver) d))
    go true = request
    go false = request

-- the line is opened, and the first frame sent
begun :
    (limit : ℕ) (texts : List (List ℕ)) (w : World)
    → IsLimit limit
    → Holds limit w
    → IsCalm w
    → w.receiver.room ≡ true
    → Holds limit (begins limit None texts w)
    → GoesOn limit (length w.sessions) (session_frames limit texts) (length (session_frames limit texts))
    (runs limit (Deliver ∷ Reply ∷ []) (begins limit None texts w))
begun limit texts w is_limit h calm room holds =
    let c : ℕ = length w.sessions in
    let w1 : World = begins limit None texts w in
    let request : Travelling = record { session = c; load = enquiry } in
    let d : ComputerState = computer_state_of w1 in
    let after : ComputerState = hears limit c (load_bytes enquiry) d in
    let opened = enquiry_heard limit c d refl calm.ready room in
    let alone : w1.units ≡ request ∷ [] = ap (λ us. us ++ request ∷ []) calm.no_unit in
    let w2 : World = after_event limit Deliver w1 in
    let e2 : w2 ≡ settled [] after w1 = ap (λ us. delivered limit us w1) alone in
    let unmuted : w.to_drop ≡ 0 = zero_to_drop w.to_drop w.units h.to_drop_within calm.no_unit in
    let no_reply : w.replies ≡ [] = (subst (λ p. InPhase p w) calm.neutral h.phase).no_reply in
    let replies_are : (settled [] after w1).replies ≡ ACK ∷ [] =
    heard_replies w.to_drop after.replies w.replies unmuted no_reply ∙ opened.reply_is in
    let holds2 : Holds limit (settled [] after w1) =
    subst (Holds limit) e2 (event_holds limit Deliver w1 is_limit holds) in
    let w3 : World = record (settled [] after w1) { replies = [] } in
    let e3 : after_event limit Reply w2 ≡ sender_steps {limit = limit}
    (sends_first (session_frames limit texts) (started limit texts)) w3 =
    ap (after_event limit Reply) e2 ∙ ap (λ rs. replied limit rs (settled [] after w1)) replies_are in
    let count : length (session_frames limit texts) ≡ length (session_frames limit texts) = refl in
    sent_on limit c (session_frames limit texts) (length (session_frames limit texts)) (started limit texts) w3
    (after_event limit Reply w2)
    refl (opened.length_is ∙ more_sessions w.sessions (new_session texts)) holds2.to_drop_within
    (event_holds limit Reply w2 is_limit (event_holds limit Deliver w1 is_limit holds))
    refl refl opened.is_open opened.room_is (sym (kept_frames limit (settled [] after w1) AwaitLine holds2 refl))
    (omega arith)
    (session_frames limit texts) e3
  where
    more_sessions : (ss : List Session) (x : Session) → length (ss ++ x ∷ []) ≡ suc (length ss)
    more_sessions ss x =
        let more = length_push ss x in
        omega arith

-- the session when it is finished
session_finished :
    (limit c : ℕ) (texts : List (List ℕ)) (w : World)
    → IsFinished limit c (session_frames limit texts) w
    → session_at c w.sessions ≡ done_session limit texts
session_finished limit c texts w finished =
    let frames : List FrameContent = session_frames limit texts in
    let h = finished.tracked.holds in
    let x : Session = session_at w.current w.sessions in
    let sound : IsSound limit x = h.sound w.current in
    let frames_same : session_frames limit x.texts ≡ frames = finished.tracked.frames_are in
    let texts_is : x.texts ≡ texts =
    sym (groups-session_frames limit x.texts) ∙ ap (groups []) frames_same ∙ groups-session_frames limit texts in
    let done : x.outcome ≡ Some Done = sym h.current.outcome_is ∙ finished.outcome_is in
    let all_acknowledged = sound.done_acknowledged done in
    let enough = sound.acknowledged_of_accepted in
    let accepted_of_frames : IsPrefix x.accepted (session_frames limit x.texts) =
    prefix_trans x.accepted x.sent (session_frames limit x.texts) sound.accepted_of_sent sound.sent_of_frames in
    let accepted_is : x.accepted ≡ session_frames limit x.texts =
    whole_prefix x.accepted (session_frames limit x.texts) accepted_of_frames (omega arith) in
    let accepted_count : length x.accepted ≡ length (session_frames limit x.texts) = ap length accepted_is in
    let sent_count : length x.accepted + length sound.accepted_of_sent.rest ≡ length x.sent =
    sym (length-append x.accepted sound.accepted_of_sent.rest) ∙ ap length sound.accepted_of_sent.joined in
    let sent_is : x.sent ≡ session_frames limit x.texts =
    whole_prefix x.sent (session_frames limit x.texts) sound.sent_of_frames (omega arith) in
    let count_same : length (session_frames limit x.texts) ≡ length frames = ap length frames_same in
    let acknowledged_is : x.acknowledged ≡ length frames = omega arith in
    let delivered_is : x.handed ≡ texts = delivers_all_from_sound limit x sound done ∙ texts_is in
    let whole : x ≡ done_session limit texts =
    same_session x (done_session limit texts) texts_is (sent_is ∙ frames_same) (accepted_is ∙ frames_same)
    acknowledged_is delivered_is done in
    subst (λ k. session_at k w.sessions ≡ done_session limit texts) finished.tracked.current_is whole
  where
    same_session :
        (x y : Session)
        → x.texts ≡ y.texts
        → x.sent ≡ y.sent
        → x.accepted ≡ y.accepted
        → x.acknowledged ≡ y.acknowledged
        → x.handed ≡ y.handed
        → x.outcome ≡ y.outcome
        → x ≡ y
    same_session x y p q r s t u =
        λ i. record { texts = p i; sent = q i; accepted = r i; acknowledged = s i; handed = t i; outcome = u i }

pub carried :
    (limit : ℕ) (texts : List (List ℕ)) (rounds : List Round) (w : World)
    → IsLimit limit
    → Holds limit w
    → IsCalm w
    → w.receiver.room ≡ true
    → AreSendable w texts
    → AreEnough limit texts rounds
    → IsCarried limit texts w (runs limit (session_events texts rounds) w)
carried limit texts rounds w is_limit h calm room sendable enough =
    let c : ℕ = length w.sessions in
    let frames : List FrameContent = session_frames limit texts in
    let w1 : World = begins limit None texts w in
    let e1 : after_event limit (Start texts) w ≡ w1 = ap (λ fault. begins limit fault texts w) sendable.not_refused in
    let holds1 : Holds limit w1 = subst (Holds limit) e1 (event_holds limit (Start texts) w is_limit h) in
    let can = can_start w.sender texts sendable.not_refused in
    let few = few-session_frames limit texts is_limit can.sendable sendable.few in
    let w2 : World = runs limit (Deliver ∷ Reply ∷ []) w1 in
    let finished : IsFinished limit c frames (runs limit (flat_map round_events rounds) w2) =
    go c frames w2 enough.noticed (begun limit texts w is_limit h calm room holds1)
    (λ sent. through limit c frames rounds 0 (length frames) 1 w2 is_limit few enough.noticed enough.few_in_a_row
    enough.enough_good (omega arith) sent) in
    let over : IsSessionFinished limit c frames (runs limit (flat_map round_events rounds ++ Deliver ∷ []) w2) =
    subst (IsSessionFinished limit c frames) (sym (runs-append limit (flat_map round_events rounds) (Deliver ∷ []) w2))
    (finished_delivered limit c frames (runs limit (flat_map round_events rounds) w2) is_limit finished) in
    let result : IsCarried limit texts w (runs limit (flat_map round_events rounds ++ Deliver ∷ []) w2) = record {
      one_more = over.finished.tracked.length_is;
      session_is =
          session_finished limit c texts (runs limit (flat_map round_events rounds ++ Deliver ∷ []) w2) over.finished;
      sender_neutral = over.finished.neutral;
      receiver_neutral = over.closed;
    } in
    subst
    (λ v. IsCarried limit texts w (runs limit (Deliver ∷ Reply ∷ (flat_map round_events rounds ++ Deliver ∷ [])) v))
    (sym e1) result
  where
    go :
        (c : ℕ) (frames : List FrameContent) (v : World)
        → All (IsNoticed limit) rounds
        → GoesOn limit c frames (length frames) v
        → (IsSent limit c frames (length frames) 1 v
        → IsFinished limit c frames (runs limit (flat_map round_events rounds) v))
        → IsFinished limit c frames (runs limit (flat_map round_events rounds) v)
    go c frames v noticed (inl finished) later = finished_rounds limit c frames rounds v is_limit noticed finished
    go c frames v noticed (inr sent) later = later sent

pub carries_through : (limit : ℕ) → IsLimit limit → CarriesThrough limit
carries_through limit is_limit events texts rounds calm sendable enough =
    let w : World = world limit events in
    subst (IsCarried limit texts w) (sym (runs-append limit events (session_events texts rounds) new_world))
    (carried limit texts rounds w is_limit (runs_hold limit events new_world is_limit (new_holds limit)) calm
    (room_runs limit events new_world refl) sendable enough)

-- rounds that nothing disturbs
few-undisturbed : (n : ℕ) → FewInARow 0 (replicate n undisturbed)
few-undisturbed zero = tt
few-undisturbed (suc n) = few-undisturbed n

good-undisturbed : (n : ℕ) → good_rounds (replicate n undisturbed) ≡ n
good-undisturbed zero = refl
good-undisturbed (suc n) = ap suc (good-undisturbed n)

pub enough-undisturbed : (limit : ℕ) (texts : List (List ℕ))
    → AreEnough limit texts (replicate (length (session_frames limit texts)) undisturbed)
enough-undisturbed limit texts =
    let n : ℕ = length (session_frames limit texts) in
    let good = good-undisturbed n in
    record {
      noticed = All-replicate (IsNoticed limit) n undisturbed tt;
      few_in_a_row = few-undisturbed n;
      enough_good = omega arith;
    }

single : (xs : List Session) (d : Session) → length xs ≡ 1 → xs ≡ get_or xs 0 d ∷ []
single [] d e = absurd (omega arith)
single (x ∷ []) d e = refl
single (x ∷ y ∷ xs) d e = absurd (omega arith)

pub runs_quietly : (limit : ℕ) → IsLimit limit → RunsQuietly limit
runs_quietly limit is_limit texts sendable =
    let n : ℕ = length (session_frames limit texts) in
    let enough = enough-undisturbed limit texts in
    let calm : IsCalm new_world = record { no_unit = refl; neutral = refl; ready = refl } in
    let is_carried = carried limit texts (replicate n undisturbed) new_world is_limit (new_holds limit) calm refl
    sendable enough in
    let after : World = world limit (quiet_events limit texts) in
    record {
      sessions_are =
          single after.sessions (new_session []) is_carried.one_more ∙ ap (λ x. x ∷ []) is_carried.session_is;
      sender_neutral = is_carried.sender_neutral;
      receiver_neutral = is_carried.receiver_neutral;
    }
