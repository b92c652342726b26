-- Why a session is carried through to a careful receiver: what comes of it between frames is heard as ever.
use Rattle.std.proofs.Common.{◌≡◌, ℕ, suc, Bool, true, false, List, [], ◌∷◌, ◌++◌, length, None}
use Rattle.std.proofs.Common.{refl, ap, sym, ◌∙◌, subst, arith, map, drop, ◌+◌}
use Rattle.std.specs.Prelude.{◌==◌, ◌&&◌, ◌||◌, All, if◌then◌else◌, nat_lt}
use Rattle.std.specs.List.{fold, flat_map}
use Rattle.std.proofs.lemmas.Bool.{cond_both}
use Rattle.std.proofs.lemmas.Bool.Decides.{nat_tests}
use Rattle.std.proofs.lemmas.List.{length_push}
use Rattle.std.proofs.lemmas.List.Elements.{All-head, All-tail}
use Rattle.lis_text.specs.Control.{STX, ENQ, EOT, ACK, LF}
use Rattle.lis_frame.specs.declared.scanner.SignalOf.{SignalOf}
use Rattle.lis_frame.specs.declared.scanner.SignalOf.TheVariants.{Eot, Good, Bad}
use Rattle.lis_frame.specs.Limit.{IsLimit}
use Rattle.lis_frame.specs.Frame.{FrameContent, IsContent, frame_bytes}
use Rattle.lis_frame.specs.Stream.{is_mark, open_body, signal_after, signals_after, stream_with}
use Rattle.lis_frame.proofs.FrameLaws.{IsFrame-frame_bytes}
use Rattle.lis_frame.proofs.StreamLaws.{signals-frame_bytes, stream_with-last}
use Rattle.lis_link.specs.declared.sender.EmitOf.{EmitOf}
use Rattle.lis_link.specs.declared.sender.EmitOf.TheVariants as Emits
use Rattle.lis_link.specs.declared.sender.Phase.{Phase}
use Rattle.lis_link.specs.declared.sender.Phase.TheVariants.{Neutral, AwaitLine, Busy, Contention, AwaitReply}
use Rattle.lis_link.specs.declared.sender.Outcome.TheVariants.{SixTries, TimedOut}
use Rattle.lis_link.specs.Receiver.{ReceiverState, heard_by, on_byte}
use Rattle.lis_link.specs.Sender.{SenderState, SenderStep, gives, ends as ends_with, sends_first, sends_again}
use Rattle.lis_link.specs.Sender.{on_accepted, on_reply, reply_in, most_tries, started, finished_with}
use Rattle.lis_link.specs.Sender.{start_fault_in}
use Rattle.lis_world.specs.declared.event.Event.{Event}
use Rattle.lis_world.specs.declared.event.Event.TheVariants.{Start, Deliver, DeliverNoRoom, Damage, Reply, DamageReply}
use Rattle.lis_world.specs.declared.event.Event.TheVariants.{SenderTimer}
use Rattle.lis_world.specs.Unit.{Load, enquiry, ending, one_frame, Travelling, load_bytes}
use Rattle.lis_world.specs.Session.{Session, new_session, changed, follows}
use Rattle.lis_world.specs.World.{World, ComputerState, new_world, computer_state_of, booked, hears, settled}
use Rattle.lis_world.specs.World.{lowered, replies_with}
use Rattle.lis_world.specs.inside.Playing.{runs}
use Rattle.lis_world.specs.Steps.{emitted, with_sender, begins, delivered, room_at, is_noticed, damaged}
use Rattle.lis_world.specs.Steps.{replied, reply_damaged, after_event}
use Rattle.lis_world.specs.Progress.{Round, undisturbed, without_room, bad_frame, bad_reply, round_events, IsBadBody}
use Rattle.lis_world.specs.Progress.{IsNoticed, IsCalm, session_events, IsCarried, AreSendable, AreEnough}
use Rattle.lis_world.proofs.Invariant.{InPhase, Holds}
use Rattle.lis_world.proofs.Hearing.{at_past, hears_signals, hears-signals}
use Rattle.lis_world.proofs.BadHeard.{signals-bad_body}
use Rattle.lis_world.proofs.Sending.{zero_to_drop}
use Rattle.lis_world.proofs.Safety.{event_holds}
use Rattle.lis_world.proofs.Carrying.{carried, runs-append}
use Rattle.lis_world.proofs.Heard.{booked_after}
use Rattle.lis_world.proofs.SessionLemmas.{length-changed, at-changed_same, at-more_last}
use Rattle.lis_careful.specs.Careful.{heard_as, careful_by}
use Rattle.lis_careful.specs.inside.Hearing.{AreUnspecial, is_special}
use Rattle.lis_careful.specs.World.{gives as heard_signal, careful_signals, hears_carefully}
use Rattle.lis_careful.specs.World.{is_noticed_carefully, delivered_carefully, damaged_carefully}
use Rattle.lis_careful.specs.World.{after_event_carefully, careful_world}
use Rattle.lis_careful.specs.Carried.{CarriesThroughCarefully, unanswered_events, IsUnanswered, CarriesAfterOneMore}
use Rattle.lis_careful.proofs.Receiving.{itself, start_step, on_byte-past}
use Rattle.lis_careful.proofs.Heard.{closed, unspecial_hears}
use Rattle.lis_careful.proofs.Frames.{inner_of, encoding_of, unspecial_after_start, signals-unspecial}
use Rattle.lis_careful.proofs.OneByte.{start_outside}
use Rattle.lis_careful.proofs.Follows.{start_silent}
use Rattle.lis_careful.proofs.Histories.{HasContent, none_within, content_of_load, HoldsOn, holds_from, new_holds_on}
use Rattle.lis_careful.proofs.Histories.{are_histories}

-- ---- bytes between frames are heard as ever, up to the stream

-- two sides that are the same but for their streams, each between frames
record Alike (a b : ComputerState) : Type 0 where
  side : ComputerState
  a_past : List ℕ
  b_past : List ℕ
  a_is : a ≡ at_past a_past side
  b_is : b ≡ at_past b_past side
  a_outside : open_body a_past ≡ None
  b_outside : open_body b_past ≡ None

abbrev NoEnquiry : Load → Type 0
NoEnquiry enquiry = ⊥
NoEnquiry ending = Unit {0}
NoEnquiry (one_frame f) = Unit {0}

fed_outside : (past xs : List ℕ) → open_body (stream_with past (xs ++ LF ∷ [])) ≡ None
unfolding open_body
fed_outside past xs = ap open_body (stream_with-last past xs LF)

-- STX, bytes that are heard as themselves, and LF
started_hears : (limit s : ℕ) (rest : List ℕ) (d : ComputerState) → open_body d.receiver.past ≡ None
    → AreUnspecial rest
    → hears_carefully limit s (STX ∷ rest) d ≡ hears limit s (STX ∷ rest) d
started_hears limit s rest d outside plain =
    ap (λ step. hears_carefully limit s rest (booked s step d))
    (start_step limit d.receiver (none_within d.receiver.past outside))
    ∙ unspecial_hears limit s rest (booked s (on_byte limit STX d.receiver) d) plain

unmarked_unspecial : (body : List ℕ) → All (λ b. is_mark b ≡ false) body → AreUnspecial (body ++ LF ∷ [])
unmarked_unspecial [] none = (refl, tt)
unmarked_unspecial (b ∷ body) none = (
  unmarked b (All-head (λ b. is_mark b ≡ false) b body none),
  unmarked_unspecial body (All-tail (λ b. is_mark b ≡ false) b body none),
)
  where
    unmarked : (b : ℕ) → is_mark b ≡ false → is_special b ≡ false
    unmarked b h = grind (arith, nat_tests)

module _ (limit s : ℕ) (d : ComputerState) (p q : List ℕ) (p_outside : open_body p ≡ None)
    (q_outside : open_body q ≡ None) where
  -- what gives the same signals, whatever came before it
  body_alike : (xs : List ℕ) (signals : List (SignalOf limit)) → AreUnspecial (xs ++ LF ∷ [])
      → ((past : List ℕ) → signals_after limit past (STX ∷ (xs ++ LF ∷ [])) ≡ signals)
      → Alike (hears_carefully limit s (STX ∷ (xs ++ LF ∷ [])) (at_past p d))
      (hears limit s (STX ∷ (xs ++ LF ∷ [])) (at_past q d))
  body_alike xs signals plain given =
      let bytes : List ℕ = STX ∷ (xs ++ LF ∷ []) in
      record {
        side = hears_signals s signals d;
        a_past = stream_with p bytes;
        b_past = stream_with q bytes;
        a_is =
            started_hears limit s (xs ++ LF ∷ []) (at_past p d) p_outside plain
            ∙ hears-signals limit s bytes p d
            ∙ ap (λ xs. at_past (stream_with p bytes) (hears_signals s xs d)) (given p);
        b_is =
            hears-signals limit s bytes q d
            ∙ ap (λ xs. at_past (stream_with q bytes) (hears_signals s xs d)) (given q);
        a_outside = fed_outside (STX ∷ p) xs;
        b_outside = fed_outside (STX ∷ q) xs;
      }

  frame_alike : (f : FrameContent) → IsContent limit f
      → Alike (hears_carefully limit s (frame_bytes f) (at_past p d)) (hears limit s (frame_bytes f) (at_past q d))
  frame_alike f content =
      let is_frame = IsFrame-frame_bytes limit f content in
      let inner : List ℕ = inner_of f is_frame.high is_frame.low in
      let are : frame_bytes f ≡ STX ∷ (inner ++ LF ∷ []) = encoding_of limit (frame_bytes f) f is_frame in
      subst (λ bytes. Alike (hears_carefully limit s bytes (at_past p d)) (hears limit s bytes (at_past q d))) (sym are)
      (body_alike inner (Good f ∷ []) (unspecial_after_start limit (frame_bytes f) f is_frame)
      (λ past. ap (signals_after limit past) (sym are) ∙ signals-frame_bytes limit past f content))

  ending_alike : (is_open : Bool) → d.receiver.is_open ≡ is_open
      → Alike (hears_carefully limit s (EOT ∷ []) (at_past p d)) (hears limit s (EOT ∷ []) (at_past q d))
  unfolding signal_after open_body
  ending_alike true e = record {
    side = record d { receiver = record d.receiver { is_open = false } };
    a_past = [];
    b_past = EOT ∷ q;
    a_is = ap (λ o. booked s (careful_by (o && true) limit EOT (at_past p d).receiver) (at_past p d)) e;
    b_is = ap (λ o. booked s (heard_by {limit = limit} o Eot (at_past (EOT ∷ q) d).receiver) (at_past q d)) e;
    a_outside = refl;
    b_outside = refl;
  }
  ending_alike false e = record {
    side = d;
    a_past = EOT ∷ p;
    b_past = EOT ∷ q;
    a_is =
        ap (λ o. booked s (careful_by (o && true) limit EOT (at_past p d).receiver) (at_past p d)) e
        ∙ ap (λ within. booked s (on_byte limit (heard_as within EOT) (at_past p d).receiver) (at_past p d)) p_outside
        ∙ ap (λ o. booked s (heard_by {limit = limit} o Eot (at_past (EOT ∷ p) d).receiver) (at_past p d)) e;
    b_is = ap (λ o. booked s (heard_by {limit = limit} o Eot (at_past (EOT ∷ q) d).receiver) (at_past q d)) e;
    a_outside = refl;
    b_outside = refl;
  }

  load_alike : (load : Load) → NoEnquiry load → HasContent limit load
      → Alike (hears_carefully limit s (load_bytes load) (at_past p d)) (hears limit s (load_bytes load) (at_past q d))
  load_alike enquiry none content = absurd none
  load_alike ending none content = ending_alike d.receiver.is_open refl
  load_alike (one_frame f) none content = frame_alike f content

  bad_alike : (body : List ℕ) → IsBadBody limit body
      → Alike (hears_carefully limit s (STX ∷ (body ++ LF ∷ [])) (at_past p d))
      (hears limit s (STX ∷ (body ++ LF ∷ [])) (at_past q d))
  bad_alike body bad =
      body_alike body (Bad bad.fault ∷ []) (unmarked_unspecial body bad.no_mark)
      (λ past. signals-bad_body limit past body bad.fault bad.no_mark bad.is_bad)

-- ---- the link: two worlds that are the same but for the receiver's stream, between frames

abbrev with_past : List ℕ → World → World
with_past past w = record w { receiver = record w.receiver { past = past } }

record SameWorlds (w v : World) : Type 0 where
  world : World
  w_past : List ℕ
  v_past : List ℕ
  w_is : w ≡ with_past w_past world
  v_is : v ≡ with_past v_past world
  w_outside : open_body w_past ≡ None
  v_outside : open_body v_past ≡ None

-- the front unit has left the link
settled_same : (us : List Travelling) (x : World) (p q : List ℕ) (a b : ComputerState) → Alike a b
    → SameWorlds (settled us a (with_past p x)) (settled us b (with_past q x))
settled_same us x p q a b h = record {
  world = settled us h.side x;
  w_past = h.a_past;
  v_past = h.b_past;
  w_is = ap (λ side. settled us side (with_past p x)) h.a_is;
  v_is = ap (λ side. settled us side (with_past q x)) h.b_is;
  w_outside = h.a_outside;
  v_outside = h.b_outside;
}

room_same : (room : Bool) (w v : World) → SameWorlds w v → SameWorlds (room_at room w) (room_at room v)
room_same room w v h = record {
  world = room_at room h.world;
  w_past = h.w_past;
  v_past = h.v_past;
  w_is = ap (room_at room) h.w_is;
  v_is = ap (room_at room) h.v_is;
  w_outside = h.w_outside;
  v_outside = h.v_outside;
}

-- no ENQ is on its way, and each frame is one of a text
abbrev NoneAsks : List Travelling → Type 0
NoneAsks [] = Unit {0}
NoneAsks (u ∷ us) = NoEnquiry u.load × NoneAsks us

abbrev FrontContent : ℕ → List Travelling → Type 0
FrontContent limit [] = Unit {0}
FrontContent limit (u ∷ us) = HasContent limit u.load

abbrev is_frame : Load → Bool
is_frame enquiry = false
is_frame ending = false
is_frame (one_frame f) = true

module _ (limit : ℕ) (x : World) (p q : List ℕ) (p_outside : open_body p ≡ None) (q_outside : open_body q ≡ None) where
  same_still : SameWorlds (with_past p x) (with_past q x)
  same_still = record {
    world = x;
    w_past = p;
    v_past = q;
    w_is = refl;
    v_is = refl;
    w_outside = p_outside;
    v_outside = q_outside;
  }

  delivered_same : (units : List Travelling) → NoneAsks units → FrontContent limit units
      → SameWorlds (delivered_carefully limit units (with_past p x)) (delivered limit units (with_past q x))
  delivered_same [] none content = same_still
  delivered_same (u ∷ us) none content =
      settled_same us x p q _ _
      (load_alike limit u.session (computer_state_of x) p q p_outside q_outside u.load none.0 content)

  -- damage, heard as one bad frame
  module _ (body : List ℕ) (bad : IsBadBody limit body) where
    abbrev bad_bytes : List ℕ
    bad_bytes = STX ∷ (body ++ LF ∷ [])

    heard_bad : careful_signals limit bad_bytes (with_past p x).receiver ≡ heard_signal (Bad bad.fault) ∷ []
    heard_bad =
        start_outside limit (body ++ LF ∷ []) (with_past p x).receiver p_outside
        ∙ signals-unspecial limit (body ++ LF ∷ []) (with_past (STX ∷ p) x).receiver
        (unmarked_unspecial body bad.no_mark)
        ∙ ap (map heard_signal) (start_silent limit p (body ++ LF ∷ [])
        ∙ signals-bad_body limit p body bad.fault bad.no_mark bad.is_bad)

    given_bad : signals_after limit q bad_bytes ≡ Bad bad.fault ∷ []
    given_bad = signals-bad_body limit q body bad.fault bad.no_mark bad.is_bad

    carefully_seen : (load : Load)
        → is_noticed_carefully load (careful_signals limit bad_bytes (with_past p x).receiver) ≡ is_frame load
    carefully_seen load = ap (is_noticed_carefully load) heard_bad ∙ by load
      where
        by : (load : Load) → is_noticed_carefully {limit = limit} load (heard_signal (Bad bad.fault) ∷ [])
            ≡ is_frame load
        by enquiry = refl
        by ending = refl
        by (one_frame f) = refl

    seen : (load : Load) → is_noticed load (signals_after limit q bad_bytes) ≡ is_frame load
    seen load = ap (is_noticed load) given_bad ∙ by load
      where
        by : (load : Load) → is_noticed {limit = limit} load (Bad bad.fault ∷ []) ≡ is_frame load
        by enquiry = refl
        by ending = refl
        by (one_frame f) = refl

    damaged_same : (units : List Travelling)
        → SameWorlds (damaged_carefully limit bad_bytes units (with_past p x))
        (damaged limit bad_bytes units (with_past q x))
    damaged_same [] = same_still
    damaged_same (u ∷ us) = by (is_frame u.load) (carefully_seen u.load) (seen u.load)
      where
        by : (test : Bool)
            → is_noticed_carefully u.load (careful_signals limit bad_bytes (with_past p x).receiver) ≡ test
            → is_noticed u.load (signals_after limit q bad_bytes) ≡ test
            → SameWorlds (damaged_carefully limit bad_bytes (u ∷ us) (with_past p x))
            (damaged limit bad_bytes (u ∷ us) (with_past q x))
        by true e f =
            rw (e, f) (settled_same us x p q _ _
            (bad_alike limit u.session (computer_state_of x) p q p_outside q_outside body bad))
        by false e f = rw (e, f) same_still

-- ---- what the sender does is of no account to the receiver's stream, and no reply makes it ask

emitted_past : {limit : ℕ} (emit : EmitOf limit) (past : List ℕ) (w : World)
    → emitted emit (with_past past w) ≡ with_past past (emitted emit w)
emitted_past Emits.Nothing past w = refl
emitted_past Emits.Enq past w = refl
emitted_past Emits.Eot past w = refl
emitted_past Emits.Nak past w = refl
emitted_past (Emits.Frame frame) past w = refl

replied_past : (limit : ℕ) (replies : List ℕ) (past : List ℕ) (w : World)
    → replied limit replies (with_past past w) ≡ with_past past (replied limit replies w)
replied_past limit [] past w = refl
replied_past limit (b ∷ replies) past w =
    let step : SenderStep limit = on_reply b w.sender in
    emitted_past step.emit past (with_sender step.after (record w { replies = replies }))

reply_damaged_past : (limit damage : ℕ) (replies : List ℕ) (past : List ℕ) (w : World)
    → reply_damaged limit damage replies (with_past past w) ≡ with_past past (reply_damaged limit damage replies w)
reply_damaged_past limit damage [] past w = refl
reply_damaged_past limit damage (b ∷ replies) past w = by (damage == ACK || damage == EOT)
  where
    by : (test : Bool)
        → (if test then with_past past w else replied limit (damage ∷ replies) (with_past past w))
        ≡ with_past past (if test then w else replied limit (damage ∷ replies) w)
    by true = refl
    by false = replied_past limit (damage ∷ replies) past w

abbrev AsksNot : {limit : ℕ} → EmitOf limit → Type 0
AsksNot Emits.Enq = ⊥
AsksNot emit = Unit {0}

first_not : (limit : ℕ) (frames : List FrameContent) (s : SenderState)
    → AsksNot (sends_first {limit = limit} frames s).emit
first_not limit [] s = tt
first_not limit (frame ∷ frames) s = tt

again_not : (limit : ℕ) (frames : List FrameContent) (s : SenderState)
    → AsksNot (sends_again {limit = limit} frames s).emit
again_not limit [] s = tt
again_not limit (frame ∷ frames) s =
    cond_both (nat_lt s.tries most_tries) (gives {limit = limit} (Emits.Frame frame) (record s { tries = s.tries + 1 }))
    (ends_with {limit = limit} SixTries s) (λ step. AsksNot step.emit) (λ few. tt) (λ many. tt)

reply_not : (limit : ℕ) (p : Phase) (b : ℕ) (s : SenderState) → AsksNot (reply_in {limit = limit} p b s).emit
reply_not limit Neutral b s =
    cond_both (b == ENQ) (gives {limit = limit} Emits.Nak s) (gives {limit = limit} Emits.Nothing s)
    (λ step. AsksNot step.emit) (λ enq. tt) (λ other. tt)
reply_not limit AwaitLine b s =
    cond_both (b == ACK) (sends_first {limit = limit} s.frames s)
    (if b == ENQ then gives {limit = limit} Emits.Nothing (record s { phase = Contention })
    else gives {limit = limit} Emits.Nothing (record s { phase = Busy })) (λ step. AsksNot step.emit)
    (λ ack. first_not limit s.frames s)
    (λ other. cond_both (b == ENQ) (gives {limit = limit} Emits.Nothing (record s { phase = Contention }))
    (gives {limit = limit} Emits.Nothing (record s { phase = Busy })) (λ step. AsksNot step.emit) (λ enq. tt)
    (λ nak. tt))
reply_not limit Busy b s = tt
reply_not limit Contention b s = tt
reply_not limit AwaitReply b s =
    cond_both (b == ACK || b == EOT) (on_accepted {limit = limit} s)
    (sends_again {limit = limit} (drop s.acknowledged s.frames) s) (λ step. AsksNot step.emit)
    (λ yes. first_not limit (drop (s.acknowledged + 1) s.frames) _)
    (λ other. again_not limit (drop s.acknowledged s.frames) s)

one_more_none : (us : List Travelling) (u : Travelling) → NoneAsks us → NoEnquiry u.load → NoneAsks (us ++ u ∷ [])
one_more_none [] u none is = (is, tt)
one_more_none (v ∷ us) u none is = (none.0, one_more_none us u none.1 is)

emitted_none : {limit : ℕ} (emit : EmitOf limit) (w : World) → AsksNot emit → NoneAsks w.units
    → NoneAsks (emitted emit w).units
emitted_none Emits.Nothing w not none = none
emitted_none Emits.Enq w not none = absurd not
emitted_none Emits.Eot w not none = one_more_none w.units (record { session = w.current; load = ending }) none tt
emitted_none Emits.Nak w not none = none
emitted_none (Emits.Frame frame) w not none =
    one_more_none w.units (record { session = w.current; load = one_frame frame }) none tt

replied_none : (limit : ℕ) (replies : List ℕ) (w : World) → NoneAsks w.units → NoneAsks (replied limit replies w).units
replied_none limit [] w none = none
replied_none limit (b ∷ replies) w none =
    let step : SenderStep limit = on_reply b w.sender in
    emitted_none step.emit (with_sender step.after (record w { replies = replies }))
    (reply_not limit w.sender.phase b w.sender) none

-- ---- a session

-- what holds through it
record Going (limit : ℕ) (w v : World) : Type 0 where
  same : SameWorlds w v
  holds : Holds limit v
  none : NoneAsks v.units

abbrev careful_runs : ℕ → List Event → World → World
careful_runs limit events w = fold (λ w event. after_event_carefully limit event w) w events

front_content : (limit : ℕ) (is_limit : IsLimit limit) (v : World) (units : List Travelling) → Holds limit v
    → v.units ≡ units → FrontContent limit units
front_content limit is_limit v [] h are = tt
front_content limit is_limit v (u ∷ us) h are = content_of_load limit v u us is_limit h are

module _ (limit : ℕ) (is_limit : IsLimit limit) where
  -- what is done to both worlds
  both : (w v : World) → (f g : World → World) → (h : SameWorlds w v)
      → SameWorlds (f (with_past h.w_past h.world)) (g (with_past h.v_past h.world)) → SameWorlds (f w) (g v)
  both w v f g h done =
      subst (λ y. SameWorlds (f y) (g v)) (sym h.w_is)
      (subst (λ y. SameWorlds (f (with_past h.w_past h.world)) (g y)) (sym h.v_is) done)

  delivered_none : (units : List Travelling) (v : World) → v.units ≡ units → NoneAsks units
      → NoneAsks (delivered limit units v).units
  delivered_none [] v are none = subst NoneAsks (sym are) none
  delivered_none (u ∷ us) v are none = none.1

  deliver_going : (w v : World) → Going limit w v
      → Going limit (after_event_carefully limit Deliver w) (after_event limit Deliver v)
  deliver_going w v h =
      let x : World = h.same.world in
      let none : NoneAsks x.units = subst (λ (y : World). NoneAsks y.units) h.same.v_is h.none in
      let units_are : v.units ≡ x.units = ap (λ (y : World). y.units) h.same.v_is in
      record {
        same = both w v (λ y. delivered_carefully limit y.units y) (λ y. delivered limit y.units y) h.same
            (delivered_same limit x h.same.w_past h.same.v_past h.same.w_outside h.same.v_outside x.units none
            (front_content limit is_limit v x.units h.holds units_are));
        holds = event_holds limit Deliver v is_limit h.holds;
        none = delivered_none v.units v refl h.none;
      }

  no_room_going : (w v : World) → Going limit w v
      → Going limit (after_event_carefully limit DeliverNoRoom w) (after_event limit DeliverNoRoom v)
  no_room_going w v h =
      let x : World = h.same.world in
      let none : NoneAsks x.units = subst (λ (y : World). NoneAsks y.units) h.same.v_is h.none in
      let units_are : v.units ≡ x.units = ap (λ (y : World). y.units) h.same.v_is in
      record {
        same = both w v (λ y. room_at true (delivered_carefully limit y.units (room_at false y)))
            (λ y. room_at true (delivered limit y.units (room_at false y))) h.same
            (room_same true _ _
            (delivered_same limit (room_at false x) h.same.w_past h.same.v_past h.same.w_outside h.same.v_outside
            x.units none (front_content limit is_limit v x.units h.holds units_are)));
        holds = event_holds limit DeliverNoRoom v is_limit h.holds;
        none = delivered_none v.units (room_at false v) refl h.none;
      }

  damaged_none : (bytes : List ℕ) (units : List Travelling) (v : World) → v.units ≡ units → NoneAsks units
      → NoneAsks (damaged limit bytes units v).units
  damaged_none bytes [] v are none = subst NoneAsks (sym are) none
  damaged_none bytes (u ∷ us) v are none =
      cond_both (is_noticed u.load (signals_after limit v.receiver.past bytes))
      (settled us (hears limit u.session bytes (computer_state_of v)) v) v (λ (y : World). NoneAsks y.units)
      (λ noticed. none.1) (λ other. subst NoneAsks (sym are) none)

  damage_going : (body : List ℕ) (w v : World) → IsBadBody limit body → Going limit w v
      → Going limit (after_event_carefully limit (Damage (STX ∷ (body ++ LF ∷ []))) w)
      (after_event limit (Damage (STX ∷ (body ++ LF ∷ []))) v)
  damage_going body w v bad h =
      let bytes : List ℕ = STX ∷ (body ++ LF ∷ []) in
      record {
        same = both w v (λ y. damaged_carefully limit bytes y.units y) (λ y. damaged limit bytes y.units y) h.same
            (damaged_same limit h.same.world h.same.w_past h.same.v_past h.same.w_outside h.same.v_outside body bad
            h.same.world.units);
        holds = event_holds limit (Damage bytes) v is_limit h.holds;
        none = damaged_none bytes v.units v refl h.none;
      }

  -- an event that leaves the receiver as it is
  past_going : (w v : World) → (f : World → World) → (h : Going limit w v)
      → ((past : List ℕ) (y : World) → f (with_past past y) ≡ with_past past (f y))
      → Holds limit (f v) → NoneAsks (f v).units → Going limit (f w) (f v)
  past_going w v f h commutes holds none = record {
    same = both w v f f h.same (record {
      world = f h.same.world;
      w_past = h.same.w_past;
      v_past = h.same.v_past;
      w_is = commutes h.same.w_past h.same.world;
      v_is = commutes h.same.v_past h.same.world;
      w_outside = h.same.w_outside;
      v_outside = h.same.v_outside;
    });
    holds = holds;
    none = none;
  }

  reply_going : (w v : World) → Going limit w v
      → Going limit (after_event_carefully limit Reply w) (after_event limit Reply v)
  reply_going w v h =
      past_going w v (λ y. replied limit y.replies y) h (λ past y. replied_past limit y.replies past y)
      (event_holds limit Reply v is_limit h.holds) (replied_none limit v.replies v h.none)

  reply_damaged_none : (b : ℕ) (replies : List ℕ) (v : World) → NoneAsks v.units
      → NoneAsks (reply_damaged limit b replies v).units
  reply_damaged_none b [] v none = none
  reply_damaged_none b (c ∷ replies) v none =
      cond_both (b == ACK || b == EOT) v (replied limit (b ∷ replies) v) (λ (y : World). NoneAsks y.units)
      (λ ignored. none) (λ taken. replied_none limit (b ∷ replies) v none)

  bad_reply_going : (b : ℕ) (w v : World) → Going limit w v
      → Going limit (after_event_carefully limit (DamageReply b) w) (after_event limit (DamageReply b) v)
  bad_reply_going b w v h =
      past_going w v (λ y. reply_damaged limit b y.replies y) h
      (λ past y. reply_damaged_past limit b y.replies past y)
      (event_holds limit (DamageReply b) v is_limit h.holds) (reply_damaged_none b v.replies v h.none)

  -- rounds
  round_going : (round : Round) (w v : World) → IsNoticed limit round → Going limit w v
      → Going limit (careful_runs limit (round_events round) w) (runs limit (round_events round) v)
  round_going undisturbed w v noticed h = reply_going _ _ (deliver_going w v h)
  round_going without_room w v noticed h = reply_going _ _ (no_room_going w v h)
  round_going (bad_frame body) w v noticed h = reply_going _ _ (damage_going body w v noticed h)
  round_going (bad_reply b) w v noticed h = bad_reply_going b _ _ (deliver_going w v h)

  careful_runs-append : (xs ys : List Event) (w : World)
      → careful_runs limit (xs ++ ys) w ≡ careful_runs limit ys (careful_runs limit xs w)
  careful_runs-append [] ys w = refl
  careful_runs-append (x ∷ xs) ys w = careful_runs-append xs ys (after_event_carefully limit x w)

  joined_going : (xs ys : List Event) (w v : World)
      → Going limit (careful_runs limit ys (careful_runs limit xs w)) (runs limit ys (runs limit xs v))
      → Going limit (careful_runs limit (xs ++ ys) w) (runs limit (xs ++ ys) v)
  joined_going xs ys w v h =
      subst (λ y. Going limit y (runs limit (xs ++ ys) v)) (sym (careful_runs-append xs ys w))
      (subst (Going limit (careful_runs limit ys (careful_runs limit xs w))) (sym (runs-append limit xs ys v)) h)

  rounds_going : (rounds : List Round) (w v : World) → All (IsNoticed limit) rounds → Going limit w v
      → Going limit (careful_runs limit (flat_map round_events rounds) w) (runs limit (flat_map round_events rounds) v)
  rounds_going [] w v noticed h = h
  rounds_going (round ∷ rounds) w v noticed h =
      joined_going (round_events round) (flat_map round_events rounds) w v
      (rounds_going rounds (careful_runs limit (round_events round) w) (runs limit (round_events round) v)
      (All-tail (IsNoticed limit) round rounds noticed)
      (round_going round w v (All-head (IsNoticed limit) round rounds noticed) h))

-- what is carried there is carried here
carried_same : (limit : ℕ) (texts : List (List ℕ)) (before w v : World) → SameWorlds w v
    → IsCarried limit texts before v → IsCarried limit texts before w
carried_same limit texts before w v h there =
    let given = subst (IsCarried limit texts before) h.v_is there in
    subst (IsCarried limit texts before) (sym h.w_is) (record {
      one_more = given.one_more;
      session_is = given.session_is;
      sender_neutral = given.sender_neutral;
      receiver_neutral = given.receiver_neutral;
    })

-- ENQ on a line that isn't open
asked_outside : (past : List ℕ) → open_body (ENQ ∷ past) ≡ None
unfolding open_body
asked_outside past = refl

asked_hears : (limit s : ℕ) (d : ComputerState) → d.receiver.is_open ≡ false
    → hears_carefully limit s (ENQ ∷ []) d ≡ hears limit s (ENQ ∷ []) d
asked_hears limit s d shut =
    ap (λ o. booked s (careful_by (o && true) limit ENQ d.receiver) d) shut
    ∙ ap (λ c. booked s (on_byte limit c d.receiver) d) (itself (open_body d.receiver.past) ENQ refl)

carried_carefully : (limit : ℕ) (texts : List (List ℕ)) (rounds : List Round) (w : World) → IsLimit limit
    → Holds limit w → IsCalm w → w.receiver.room ≡ true → w.receiver.is_open ≡ false → AreSendable w texts
    → AreEnough limit texts rounds
    → IsCarried limit texts w (careful_runs limit (session_events texts rounds) w)
carried_carefully limit texts rounds w is_limit h calm room shut sendable enough =
    let c : ℕ = length w.sessions in
    let request : Travelling = record { session = c; load = enquiry } in
    let w1 : World = begins limit None texts w in
    let d : ComputerState = computer_state_of w1 in
    let started_is : after_event limit (Start texts) w ≡ w1 =
    ap (λ fault. begins limit fault texts w) sendable.not_refused in
    let alone : w1.units ≡ request ∷ [] = ap (λ us. us ++ request ∷ []) calm.no_unit in
    let w2 : World = settled [] (hears limit c (ENQ ∷ []) d) w1 in
    let delivered_is : after_event limit Deliver w1 ≡ w2 = ap (λ us. delivered limit us w1) alone in
    let carefully_is : after_event_carefully limit Deliver w1 ≡ w2 =
    ap (λ us. delivered_carefully limit us w1) alone
    ∙ ap (λ side. settled [] side w1) (asked_hears limit c d shut) in
    let holds : Holds limit w2 =
    subst (Holds limit) delivered_is (event_holds limit Deliver w1 is_limit
    (subst (Holds limit) started_is (event_holds limit (Start texts) w is_limit h))) in
    let outside : open_body w2.receiver.past ≡ None =
    ap (λ (r : ReceiverState). open_body r.past) (booked_after c (on_byte limit ENQ d.receiver) d)
    ∙ ap open_body (on_byte-past limit ENQ d.receiver) ∙ asked_outside d.receiver.past in
    let rest : List Event = flat_map round_events rounds ++ Deliver ∷ [] in
    let opened : Going limit w2 w2 = record {
      same = same_still limit w2 w2.receiver.past w2.receiver.past outside outside;
      holds = holds;
      none = tt;
    } in
    let first = reply_going limit is_limit w2 w2 opened in
    let w3 : World = after_event limit Reply w2 in
    let over : Going limit (careful_runs limit rest w3) (runs limit rest w3) =
    joined_going limit is_limit (flat_map round_events rounds) (Deliver ∷ []) w3 w3
    (deliver_going limit is_limit _ _ (rounds_going limit is_limit rounds w3 w3 enough.noticed first)) in
    let there : IsCarried limit texts w (runs limit rest w3) =
    subst (λ y. IsCarried limit texts w (runs limit (Reply ∷ rest) y))
    (ap (after_event limit Deliver) started_is ∙ delivered_is)
    (carried limit texts rounds w is_limit h calm room sendable enough) in
    subst (λ y. IsCarried limit texts w (careful_runs limit (Reply ∷ rest) y))
    (sym (ap (after_event_carefully limit Deliver) started_is ∙ carefully_is))
    (carried_same limit texts w (careful_runs limit rest w3) (runs limit rest w3) over.same there)

-- ---- one that starts on an open line

-- after its ENQ, its timer and its EOT
abbrev left_unanswered : ℕ → List (List ℕ) → World → World
left_unanswered limit texts w = record w {
  sender = finished_with TimedOut (started limit texts);
  receiver = record (closed w.receiver) { past = EOT ∷ [] };
  units = [];
  replies = [];
  to_drop = 0;
  current = length w.sessions;
  sessions = changed (length w.sessions) (follows (finished_with TimedOut (started limit texts)))
      (w.sessions ++ new_session texts ∷ []);
}

abbrev asked_in_vain : ℕ → List (List ℕ) → World → World
asked_in_vain limit texts w = record (begins limit None texts w) {
  receiver = closed w.receiver;
  units = [];
  replies = [];
  to_drop = 0;
}

last_events : (limit : ℕ) (texts : List (List ℕ)) (w : World)
    → careful_runs limit (SenderTimer ∷ Deliver ∷ []) (asked_in_vain limit texts w) ≡ left_unanswered limit texts w
unfolding signal_after open_body
last_events limit texts w = refl

unanswered_is : (limit : ℕ) (texts : List (List ℕ)) (w : World) → Holds limit w → IsCalm w
    → w.receiver.is_open ≡ true → AreSendable w texts
    → careful_runs limit (unanswered_events texts) w ≡ left_unanswered limit texts w
unanswered_is limit texts w h calm is_open sendable =
    let c : ℕ = length w.sessions in
    let request : Travelling = record { session = c; load = enquiry } in
    let w1 : World = begins limit None texts w in
    let alone : w1.units ≡ request ∷ [] = ap (λ us. us ++ request ∷ []) calm.no_unit in
    let no_drop : w.to_drop ≡ 0 = zero_to_drop w.to_drop w.units h.to_drop_within calm.no_unit in
    let no_reply : w.replies ≡ [] = (subst (λ p. InPhase p w) calm.neutral h.phase).no_reply in
    let dropped : after_event_carefully limit Deliver w1 ≡ asked_in_vain limit texts w =
    ap (λ us. delivered_carefully limit us w1) alone
    ∙ ap (λ o. settled [] (booked c (careful_by (o && true) limit ENQ w.receiver) (computer_state_of w1)) w1) is_open
    ∙ ap (λ n. record w1 {
      receiver = closed w.receiver;
      units = [];
      replies = replies_with n [] w.replies;
      to_drop = lowered n;
    }) no_drop
    ∙ ap (λ (rs : List ℕ). record w1 { receiver = closed w.receiver; units = []; replies = rs ++ []; to_drop = 0 })
    no_reply in
    ap (λ fault. careful_runs limit (Deliver ∷ SenderTimer ∷ Deliver ∷ []) (begins limit fault texts w))
    sendable.not_refused
    ∙ ap (careful_runs limit (SenderTimer ∷ Deliver ∷ [])) dropped
    ∙ last_events limit texts w

is_unanswered : (limit : ℕ) (texts : List (List ℕ)) (w : World) → IsCalm w
    → IsUnanswered texts w (left_unanswered limit texts w)
is_unanswered limit texts w calm =
    let ss : List Session = w.sessions ++ new_session texts ∷ [] in
    let follow : Session → Session = follows (finished_with TimedOut (started limit texts)) in
    let more : length ss ≡ suc (length w.sessions) = omega (arith, length_push w.sessions (new_session texts)) in
    record {
      one_more = length-changed (length w.sessions) follow ss ∙ more;
      session_is =
          at-changed_same (length w.sessions) follow ss (omega (arith, more))
          ∙ ap follow (at-more_last w.sessions (new_session texts));
      calm = record { no_unit = refl; neutral = refl; ready = calm.ready };
      closed = refl;
    }

-- ---- the laws

careful_holds : (limit : ℕ) → IsLimit limit → (events : List Event) → HoldsOn limit (careful_world limit events)
careful_holds limit is_limit events =
    let all = are_histories limit is_limit events in
    subst (HoldsOn limit) all.same (holds_from limit all.events new_world is_limit (new_holds_on limit))

pub carries_through_carefully : (limit : ℕ) → IsLimit limit → CarriesThroughCarefully limit
carries_through_carefully limit is_limit events texts rounds calm shut sendable enough =
    let w : World = careful_world limit events in
    let h = careful_holds limit is_limit events in
    subst (IsCarried limit texts w) (sym (careful_runs-append limit is_limit events (session_events texts rounds)
    new_world))
    (carried_carefully limit texts rounds w is_limit h.holds calm h.has_room shut sendable enough)

pub carries_after_one_more : (limit : ℕ) → IsLimit limit → CarriesAfterOneMore limit
carries_after_one_more limit is_limit events texts rounds calm is_open sendable enough =
    let w : World = careful_world limit events in
    let h = careful_holds limit is_limit events in
    let left_is : left_unanswered limit texts w ≡ careful_world limit (events ++ unanswered_events texts) =
    sym (careful_runs-append limit is_limit events (unanswered_events texts) new_world
    ∙ unanswered_is limit texts w h.holds calm is_open sendable) in
    let left : IsUnanswered texts w (careful_world limit (events ++ unanswered_events texts)) =
    subst (IsUnanswered texts w) left_is (is_unanswered limit texts w calm) in
    let again : AreSendable (careful_world limit (events ++ unanswered_events texts)) texts = record {
      not_refused =
          ap (λ p. start_fault_in p texts) (left.calm.neutral ∙ sym calm.neutral) ∙ sendable.not_refused;
      few = sendable.few;
    } in (
      left,
      carries_through_carefully limit is_limit (events ++ unanswered_events texts) texts rounds left.calm left.closed
          again enough,
    )
