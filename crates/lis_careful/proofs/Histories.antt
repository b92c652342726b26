-- What happens to a careful receiver is what some events do to one as the profile has it.
use Rattle.std.proofs.Common.{◌≡◌, ℕ, ◌⊎◌, inl, inr, Bool, true, false, List, [], ◌∷◌, ◌++◌, Option, None, Some, refl}
use Rattle.std.proofs.Common.{ap, sym, ◌∙◌, subst}
use Rattle.std.specs.List.{fold}
use Rattle.lis_text.specs.Control.{STX, EOT, ENQ, LF}
use Rattle.lis_text.specs.declared.readiness.Readiness.{Readiness}
use Rattle.lis_text.specs.declared.readiness.Readiness.TheVariants as Readinesses
use Rattle.lis_frame.specs.declared.frame.FrameFault.{FrameFault}
use Rattle.lis_frame.specs.declared.scanner.SignalOf.TheVariants.{Bad}
use Rattle.lis_frame.specs.Limit.{IsLimit}
use Rattle.lis_frame.specs.Frame.{FrameContent, IsContent, frame_bytes}
use Rattle.lis_frame.specs.Stream.{open_body, signals_after, stream_with}
use Rattle.lis_frame.proofs.FrameLaws.{IsFrame-frame_bytes}
use Rattle.lis_link.specs.Receiver.{ReceiverState, receiver_restarted, with_readiness, heard_by, on_byte}
use Rattle.std.specs.Prelude.{if◌then◌else◌, ◌==◌, ◌||◌}
use Rattle.lis_careful.specs.Careful.{ends_session, heard_as, careful_by, on_byte_carefully}
use Rattle.lis_careful.specs.Careful.{begins_within}
use Rattle.lis_careful.proofs.Receiving.{start_step, itself}
use Rattle.lis_world.specs.declared.event.Event.{Event}
use Rattle.lis_world.specs.declared.event.Event.TheVariants.{Start, Deliver, DeliverNoRoom, Damage, Lose, Reply}
use Rattle.lis_world.specs.declared.event.Event.TheVariants.{DamageReply, LoseReply, SenderTimer, ReceiverTimer}
use Rattle.lis_world.specs.declared.event.Event.TheVariants.{RestartSender, RestartReceiver, Ready, Busy, Contending}
use Rattle.lis_world.specs.Unit.{Load, enquiry, ending, one_frame, Travelling, load_bytes}
use Rattle.lis_world.specs.World.{World, ComputerState, new_world, computer_state_of, booked, hears, settled}
use Rattle.lis_world.specs.Steps.{is_noticed, room_at, delivered, damaged, after_event}
use Rattle.lis_world.specs.Session.{session_at}
use Rattle.lis_world.specs.Safe.{Safe}
use Rattle.lis_world.proofs.Hearing.{at_past, hears_signals, hears-heard}
use Rattle.lis_world.proofs.Invariant.{Leads, Holds}
use Rattle.lis_world.proofs.Delivery.{leads_of, next_frame}
use Rattle.lis_world.proofs.Room.{room_after}
use Rattle.lis_world.proofs.Safety.{event_holds, new_holds, always_safe}
use Rattle.lis_careful.specs.World.{CarefulSignal, ends, gives}
use Rattle.lis_careful.specs.World.{careful_signals, hears_carefully, is_noticed_carefully, delivered_carefully}
use Rattle.lis_careful.specs.World.{damaged_carefully, after_event_carefully}
use Rattle.lis_careful.specs.Laws.{AreHistories, AlwaysSafeCarefully}
use Rattle.lis_careful.proofs.Heard.{no_end, given_of, plainly, closed, closed_side, ended, unspecial_hears}
use Rattle.lis_careful.proofs.Frames.{inner_of, encoding_of, unspecial_after_start, frame_within}

-- the event that makes a receiver so ready
abbrev pub readies : Readiness → Event
readies Readinesses.Ready = Ready
readies Readinesses.Busy = Busy
readies Readinesses.Contending = Contending

-- what a careful receiver hears in the place of a unit is one of these for a receiver as the profile has it: nothing,
-- the same event, damage, or damage after a restart
pub data Instead : Type 0 where
  not_at_all : Instead
  as_it_is : Instead
  bad : List ℕ → Instead
  anew : Readiness → List ℕ → Instead

abbrev pub events_of : Event → Instead → List Event
events_of event not_at_all = []
events_of event as_it_is = event ∷ []
events_of event (bad bytes) = Damage bytes ∷ []
events_of event (anew readiness bytes) = RestartReceiver ∷ readies readiness ∷ Damage bytes ∷ []

abbrev pub from : ℕ → List Event → World → World
from limit events w = fold (λ w event. after_event limit event w) w events

-- ---- damage

readied : (limit : ℕ) (readiness : Readiness) (w : World)
    → after_event limit (readies readiness) w ≡ record w { receiver = with_readiness readiness w.receiver }
readied limit Readinesses.Ready w = refl
readied limit Readinesses.Busy w = refl
readied limit Readinesses.Contending w = refl

-- a receiver with room that is restarted, and then as ready as it was, is closed
anew_is : (r : ReceiverState) → r.room ≡ true → with_readiness r.readiness (receiver_restarted r) ≡ closed r
anew_is r has_room = ap (λ (room : Bool). record r { is_open = false; room = room; past = [] }) (sym has_room)

-- damage that gives nothing, or of a frame one bad frame, is noticed
noticed : (limit : ℕ) (bytes : List ℕ) (u : Travelling) (us : List Travelling) (w : World)
    → is_noticed u.load (signals_after limit w.receiver.past bytes) ≡ true
    → damaged limit bytes (u ∷ us) w ≡ settled us (hears limit u.session bytes (computer_state_of w)) w
noticed limit bytes u us w e = rw e refl

anew_damaged : (limit : ℕ) (bytes : List ℕ) (u : Travelling) (us : List Travelling) (w : World)
    → w.units ≡ u ∷ us → w.receiver.room ≡ true → signals_after limit [] bytes ≡ []
    → from limit (RestartReceiver ∷ readies w.receiver.readiness ∷ Damage bytes ∷ []) w
    ≡ settled us (hears limit u.session bytes (closed_side (computer_state_of w))) w
anew_damaged limit bytes u us w are has_room silent =
    let next : World = record w { receiver = closed w.receiver } in
    ap (after_event limit (Damage bytes))
    (readied limit w.receiver.readiness (record w { receiver = receiver_restarted w.receiver })
    ∙ ap (λ (r : ReceiverState). record w { receiver = r }) (anew_is w.receiver has_room))
    ∙ ap (λ units. damaged limit bytes units next) are
    ∙ noticed limit bytes u us next (ap (is_noticed u.load) silent)

-- what is noticed carefully
pub data Noticed {limit : ℕ} (load : Load) (signals : List (CarefulSignal limit)) : Type 0 where
  nothing : signals ≡ [] → Noticed load signals
  ending_in : signals ≡ ends ∷ [] → Noticed load signals
  one_bad : (frame : FrameContent) → (fault : FrameFault) → load ≡ one_frame frame → signals ≡ gives (Bad fault) ∷ []
      → Noticed load signals

pub noticed_cases : {limit : ℕ} (load : Load) (signals : List (CarefulSignal limit))
    → is_noticed_carefully load signals ≡ true → Noticed load signals
noticed_cases load [] e = nothing refl
noticed_cases load (ends ∷ []) e = ending_in refl
noticed_cases load (ends ∷ x ∷ xs) e = cc
noticed_cases enquiry (gives x ∷ xs) e = cc
noticed_cases ending (gives x ∷ xs) e = cc
noticed_cases (one_frame f) (gives (Bad fault) ∷ []) e = one_bad f fault refl refl
noticed_cases (one_frame f) (gives x ∷ xs) e = cc

-- so damage that is noticed carefully is damage that is noticed, with a restart before it or without one
pub record Becomes (limit : ℕ) (event : Event) (after w : World) : Type 0 where
  pub instead : Instead
  pub same : from limit (events_of event instead) w ≡ after

bad_damaged : (limit : ℕ) (bytes : List ℕ) (u : Travelling) (us : List Travelling) (w : World)
    → w.units ≡ u ∷ us → is_noticed u.load (signals_after limit w.receiver.past bytes) ≡ true
    → from limit (Damage bytes ∷ []) w ≡ settled us (hears limit u.session bytes (computer_state_of w)) w
bad_damaged limit bytes u us w are e =
    ap (λ units. damaged limit bytes units w) are ∙ noticed limit bytes u us w e

damage_as : (limit : ℕ) (event : Event) (bytes : List ℕ) (u : Travelling) (us : List Travelling) (w : World)
    → w.units ≡ u ∷ us → w.receiver.room ≡ true → Noticed u.load (careful_signals limit bytes w.receiver)
    → Becomes limit event (settled us (hears_carefully limit u.session bytes (computer_state_of w)) w) w
damage_as limit event bytes u us w are has_room (nothing none) =
    let plain = plainly limit u.session bytes (computer_state_of w) (ap no_end none) in
    let silent : signals_after limit w.receiver.past plain.bytes ≡ [] = plain.signals_are ∙ ap given_of none in
    record {
      instead = bad plain.bytes;
      same = bad_damaged limit plain.bytes u us w are (ap (is_noticed u.load) silent)
          ∙ ap (λ side. settled us side w) (sym plain.same);
    }
damage_as limit event bytes u us w are has_room (ending_in one) =
    let end = ended limit u.session bytes (computer_state_of w) one in
    record {
      instead = anew w.receiver.readiness end.bytes;
      same = anew_damaged limit end.bytes u us w are has_room end.silent
          ∙ ap (λ side. settled us side w) (sym end.same);
    }
damage_as limit event bytes u us w are has_room (one_bad frame fault load_is one) =
    let plain = plainly limit u.session bytes (computer_state_of w) (ap no_end one) in
    let signals : signals_after limit w.receiver.past plain.bytes ≡ Bad fault ∷ [] =
    plain.signals_are ∙ ap given_of one in
    record {
      instead = bad plain.bytes;
      same = bad_damaged limit plain.bytes u us w are
          (ap (is_noticed u.load) signals ∙ ap (λ load. is_noticed {limit = limit} load (Bad fault ∷ [])) load_is)
          ∙ ap (λ side. settled us side w) (sym plain.same);
    }

-- ---- a unit that comes

pub data Comes (limit s : ℕ) (load : Load) (d : ComputerState) : Type 0 where
  as_ever : hears_carefully limit s (load_bytes load) d ≡ hears limit s (load_bytes load) d → Comes limit s load d
  closes : hears_carefully limit s (load_bytes load) d ≡ closed_side d → Comes limit s load d
  comes_bad : (bytes : List ℕ) → (frame : FrameContent) → (fault : FrameFault) → load ≡ one_frame frame
      → hears_carefully limit s (load_bytes load) d ≡ hears limit s bytes d
      → signals_after limit d.receiver.past bytes ≡ Bad fault ∷ [] → Comes limit s load d

abbrev pub HasContent : ℕ → Load → Type 0
HasContent limit enquiry = Unit {0}
HasContent limit ending = Unit {0}
HasContent limit (one_frame frame) = IsContent limit frame

-- an ENQ or an EOT, by whether the line is open
one_byte : (limit s b : ℕ) (d : ComputerState) → (b == ENQ || b == EOT) ≡ true → (b == STX) ≡ false
    → (hears_carefully limit s (b ∷ []) d ≡ hears limit s (b ∷ []) d)
    ⊎ (hears_carefully limit s (b ∷ []) d ≡ closed_side d)
one_byte limit s b d special other = by d.receiver.is_open refl
  where
    by : (is_open : Bool) → d.receiver.is_open ≡ is_open
        → (hears_carefully limit s (b ∷ []) d ≡ hears limit s (b ∷ []) d)
        ⊎ (hears_carefully limit s (b ∷ []) d ≡ closed_side d)
    by true e =
        let ends_here : ends_session d.receiver b ≡ true = rw (e, special) refl in
        inr (ap (λ t. booked s (careful_by t limit b d.receiver) d) ends_here)
    by false e =
        let goes : ends_session d.receiver b ≡ false = rw e refl in
        let same : heard_as (open_body d.receiver.past) b ≡ b = itself (open_body d.receiver.past) b other in
        inl (ap (λ t. booked s (careful_by t limit b d.receiver) d) goes
        ∙ ap (λ c. hears limit s (c ∷ []) d) same)

pub none_within : (past : List ℕ) → open_body past ≡ None → begins_within (open_body past) STX ≡ false
none_within past e = rw e refl

comes : (limit s : ℕ) (load : Load) (d : ComputerState) → HasContent limit load → Comes limit s load d
comes limit s enquiry d content = by (one_byte limit s ENQ d refl refl)
  where
    by : (hears_carefully limit s (ENQ ∷ []) d ≡ hears limit s (ENQ ∷ []) d)
        ⊎ (hears_carefully limit s (ENQ ∷ []) d ≡ closed_side d) → Comes limit s enquiry d
    by (inl e) = as_ever e
    by (inr e) = closes e
comes limit s ending d content = by (one_byte limit s EOT d refl refl)
  where
    by : (hears_carefully limit s (EOT ∷ []) d ≡ hears limit s (EOT ∷ []) d)
        ⊎ (hears_carefully limit s (EOT ∷ []) d ≡ closed_side d) → Comes limit s ending d
    by (inl e) = as_ever e
    by (inr e) = closes e
comes limit s (one_frame frame) d content = by (open_body d.receiver.past) refl
  where
    by : (within : Option (List ℕ)) → open_body d.receiver.past ≡ within → Comes limit s (one_frame frame) d
    by None e =
        let is_frame = IsFrame-frame_bytes limit frame content in
        let rest : List ℕ = inner_of frame is_frame.high is_frame.low ++ LF ∷ [] in
        let bytes_are : frame_bytes frame ≡ STX ∷ rest = encoding_of limit (frame_bytes frame) frame is_frame in
        let first : on_byte_carefully limit STX d.receiver ≡ on_byte limit STX d.receiver =
        start_step limit d.receiver (none_within d.receiver.past e) in
        as_ever (ap (λ xs. hears_carefully limit s xs d) bytes_are
        ∙ ap (λ step. hears_carefully limit s rest (booked s step d)) first
        ∙ unspecial_hears limit s rest (booked s (on_byte limit STX d.receiver) d)
        (unspecial_after_start limit (frame_bytes frame) frame is_frame)
        ∙ ap (λ xs. hears limit s xs d) (sym bytes_are))
    by (Some body) e =
        let within = frame_within limit (frame_bytes frame) body frame d.receiver
        (IsFrame-frame_bytes limit frame content) e in
        let plain = plainly limit s (frame_bytes frame) d (ap no_end within.1) in
        comes_bad plain.bytes frame within.0 refl plain.same (plain.signals_are ∙ ap given_of within.1)

delivered_as : (limit : ℕ) (u : Travelling) (us : List Travelling) (w : World) → w.units ≡ u ∷ us
    → w.receiver.room ≡ true → Comes limit u.session u.load (computer_state_of w)
    → Becomes limit Deliver
    (settled us (hears_carefully limit u.session (load_bytes u.load) (computer_state_of w)) w) w
delivered_as limit u us w are has_room (as_ever same) = record {
  instead = as_it_is;
  same = ap (λ units. delivered limit units w) are ∙ ap (λ side. settled us side w) (sym same);
}
delivered_as limit u us w are has_room (closes same) = record {
  instead = anew w.receiver.readiness [];
  same = anew_damaged limit [] u us w are has_room refl ∙ ap (λ side. settled us side w) (sym same);
}
delivered_as limit u us w are has_room (comes_bad bytes frame fault load_is same signals) = record {
  instead = bad bytes;
  same = bad_damaged limit bytes u us w are
      (ap (is_noticed u.load) signals ∙ ap (λ load. is_noticed {limit = limit} load (Bad fault ∷ [])) load_is)
      ∙ ap (λ side. settled us side w) (sym same);
}

-- the same while there is no room: what is bad, or ends the session, is of no account to the room
module _ (limit s : ℕ) (us : List Travelling) (w : World) (has_room : w.receiver.room ≡ true) where
  closed_room : room_at true (settled us (closed_side (computer_state_of (room_at false w))) (room_at false w))
      ≡ settled us (closed_side (computer_state_of w)) w
  closed_room = ap (λ (room : Bool).
      settled us (record (computer_state_of w) {
        receiver = record w.receiver { is_open = false; room = room; past = [] };
      }) w) (sym has_room)

  side_with : Bool → ComputerState
  side_with room = record (computer_state_of w) { receiver = record w.receiver { room = room } }

  bad_by : (is_open : Bool) (fault : FrameFault) (past : List ℕ)
      → room_at true (settled us (at_past past (booked s (heard_by {limit = limit} is_open (Bad fault)
      (record w.receiver { room = false })) (computer_state_of (room_at false w)))) (room_at false w))
      ≡ settled us (at_past past (booked s (heard_by {limit = limit} is_open (Bad fault) w.receiver)
      (computer_state_of w))) w
  bad_by true fault past = ap (λ (room : Bool).
      settled us (at_past past (booked s (heard_by {limit = limit} true (Bad fault)
      (record w.receiver { room = room })) (record (computer_state_of w) {
        receiver = record w.receiver { room = room };
      }))) w) (sym has_room)
  bad_by false fault past = ap (λ (room : Bool).
      settled us (at_past past (booked s (heard_by {limit = limit} false (Bad fault)
      (record w.receiver { room = room })) (record (computer_state_of w) {
        receiver = record w.receiver { room = room };
      }))) w) (sym has_room)

  bad_room : (bytes : List ℕ) (fault : FrameFault) → signals_after limit w.receiver.past bytes ≡ Bad fault ∷ []
      → room_at true (settled us (hears limit s bytes (computer_state_of (room_at false w))) (room_at false w))
      ≡ settled us (hears limit s bytes (computer_state_of w)) w
  bad_room bytes fault signals =
      let past : List ℕ = stream_with w.receiver.past bytes in
      let without = computer_state_of (room_at false w) in
      ap (λ side. room_at true (settled us side (room_at false w)))
      (hears-heard limit s bytes without
      ∙ ap (λ xs. at_past past (hears_signals s xs without)) signals)
      ∙ bad_by w.receiver.is_open fault past
      ∙ ap (λ side. settled us side w)
      (sym (hears-heard limit s bytes (computer_state_of w)
      ∙ ap (λ xs. at_past past (hears_signals s xs (computer_state_of w))) signals))

without_room : (limit : ℕ) (u : Travelling) (us : List Travelling) (w : World) → w.units ≡ u ∷ us
    → w.receiver.room ≡ true → Comes limit u.session u.load (computer_state_of (room_at false w))
    → Becomes limit DeliverNoRoom
    (room_at true (settled us (hears_carefully limit u.session (load_bytes u.load)
    (computer_state_of (room_at false w))) (room_at false w))) w
without_room limit u us w are has_room (as_ever same) = record {
  instead = as_it_is;
  same = ap (λ units. room_at true (delivered limit units (room_at false w))) are
      ∙ ap (λ side. room_at true (settled us side (room_at false w))) (sym same);
}
without_room limit u us w are has_room (closes same) = record {
  instead = anew w.receiver.readiness [];
  same = anew_damaged limit [] u us w are has_room refl
      ∙ sym (closed_room limit u.session us w has_room)
      ∙ ap (λ side. room_at true (settled us side (room_at false w))) (sym same);
}
without_room limit u us w are has_room (comes_bad bytes frame fault load_is same signals) = record {
  instead = bad bytes;
  same = bad_damaged limit bytes u us w are
      (ap (is_noticed u.load) signals ∙ ap (λ load. is_noticed {limit = limit} load (Bad fault ∷ [])) load_is)
      ∙ sym (bad_room limit u.session us w has_room bytes fault signals)
      ∙ ap (λ side. room_at true (settled us side (room_at false w))) (sym same);
}

-- ---- each event

pub content_of_load : (limit : ℕ) (w : World) (u : Travelling) (us : List Travelling) → IsLimit limit → Holds limit w
    → w.units ≡ u ∷ us → HasContent limit u.load
content_of_load limit w u us is_limit h are = by u.load (leads_of limit w u us h are)
  where
    by : (load : Load) → Leads w.sessions w.receiver.is_open w.opened u.session load → HasContent limit load
    by enquiry leads = tt
    by ending leads = tt
    by (one_frame frame) leads =
        (next_frame limit (session_at u.session w.sessions) leads.0 frame is_limit (h.sound u.session)
        leads.1.sent_is).content

event_as : (limit : ℕ) (event : Event) (w : World) → IsLimit limit → Holds limit w → w.receiver.room ≡ true
    → Becomes limit event (after_event_carefully limit event w) w
event_as limit Deliver w is_limit h has_room = by w.units refl
  where
    by : (units : List Travelling) → w.units ≡ units → Becomes limit Deliver (delivered_carefully limit units w) w
    by [] are = record { instead = as_it_is; same = ap (λ units. delivered limit units w) are }
    by (u ∷ us) are = delivered_as limit u us w are has_room
        (comes limit u.session u.load (computer_state_of w) (content_of_load limit w u us is_limit h are))
event_as limit DeliverNoRoom w is_limit h has_room = by w.units refl
  where
    by : (units : List Travelling) → w.units ≡ units
        → Becomes limit DeliverNoRoom (room_at true (delivered_carefully limit units (room_at false w))) w
    by [] are = record {
      instead = as_it_is;
      same = ap (λ units. room_at true (delivered limit units (room_at false w))) are;
    }
    by (u ∷ us) are = without_room limit u us w are has_room
        (comes limit u.session u.load (computer_state_of (room_at false w))
        (content_of_load limit w u us is_limit h are))
event_as limit (Damage bytes) w is_limit h has_room = by w.units refl
  where
    by : (units : List Travelling) → w.units ≡ units
        → Becomes limit (Damage bytes) (damaged_carefully limit bytes units w) w
    by [] are = record { instead = bad bytes; same = ap (λ units. damaged limit bytes units w) are }
    by (u ∷ us) are = test (is_noticed_carefully u.load (careful_signals limit bytes w.receiver)) refl
      where
        test : (seen : Bool) → is_noticed_carefully u.load (careful_signals limit bytes w.receiver) ≡ seen
            → Becomes limit (Damage bytes)
            (if seen then settled us (hears_carefully limit u.session bytes (computer_state_of w)) w else w) w
        test true e = damage_as limit (Damage bytes) bytes u us w are has_room
            (noticed_cases u.load (careful_signals limit bytes w.receiver) e)
        test false e = record { instead = not_at_all; same = refl }
event_as limit (Start texts) w is_limit h has_room = record { instead = as_it_is; same = refl }
event_as limit Lose w is_limit h has_room = record { instead = as_it_is; same = refl }
event_as limit Reply w is_limit h has_room = record { instead = as_it_is; same = refl }
event_as limit (DamageReply damage) w is_limit h has_room = record { instead = as_it_is; same = refl }
event_as limit LoseReply w is_limit h has_room = record { instead = as_it_is; same = refl }
event_as limit SenderTimer w is_limit h has_room = record { instead = as_it_is; same = refl }
event_as limit ReceiverTimer w is_limit h has_room = record { instead = as_it_is; same = refl }
event_as limit RestartSender w is_limit h has_room = record { instead = as_it_is; same = refl }
event_as limit RestartReceiver w is_limit h has_room = record { instead = as_it_is; same = refl }
event_as limit Ready w is_limit h has_room = record { instead = as_it_is; same = refl }
event_as limit Busy w is_limit h has_room = record { instead = as_it_is; same = refl }
event_as limit Contending w is_limit h has_room = record { instead = as_it_is; same = refl }

-- ---- each list of events

from-append : (limit : ℕ) (xs ys : List Event) (w : World) → from limit (xs ++ ys) w ≡ from limit ys (from limit xs w)
from-append limit [] ys w = refl
from-append limit (x ∷ xs) ys w = from-append limit xs ys (after_event limit x w)

-- the invariant of the world, and that there is room, hold on
pub record HoldsOn (limit : ℕ) (w : World) : Type 0 where
  pub holds : Holds limit w
  pub has_room : w.receiver.room ≡ true

pub holds_from : (limit : ℕ) (events : List Event) (w : World) → IsLimit limit → HoldsOn limit w
    → HoldsOn limit (from limit events w)
holds_from limit [] w is_limit h = h
holds_from limit (event ∷ events) w is_limit h =
    holds_from limit events (after_event limit event w) is_limit (record {
      holds = event_holds limit event w is_limit h.holds;
      has_room = room_after limit event w h.has_room;
    })

pub record IsFrom (limit : ℕ) (after w : World) : Type 0 where
  pub events : List Event
  pub same : from limit events w ≡ after

pub careful_from : (limit : ℕ) (events : List Event) (w : World) → IsLimit limit → HoldsOn limit w
    → IsFrom limit (fold (λ w event. after_event_carefully limit event w) w events) w
careful_from limit [] w is_limit h = record { events = []; same = refl }
careful_from limit (event ∷ events) w is_limit h =
    let one = event_as limit event w is_limit h.holds h.has_room in
    let next : World = after_event_carefully limit event w in
    let later = careful_from limit events next is_limit
    (subst (HoldsOn limit) one.same (holds_from limit (events_of event one.instead) w is_limit h)) in
    record {
      events = events_of event one.instead ++ later.events;
      same = from-append limit (events_of event one.instead) later.events w
          ∙ ap (from limit later.events) one.same ∙ later.same;
    }

pub new_holds_on : (limit : ℕ) → HoldsOn limit new_world
new_holds_on limit = record { holds = new_holds limit; has_room = refl }

pub are_histories : (limit : ℕ) → IsLimit limit → AreHistories limit
are_histories limit is_limit events =
    let all = careful_from limit events new_world is_limit (new_holds_on limit) in
    record { events = all.events; same = all.same }

pub always_safe_carefully : (limit : ℕ) → IsLimit limit → AlwaysSafeCarefully limit
always_safe_carefully limit is_limit events =
    let all = are_histories limit is_limit events in
    subst (Safe limit) all.same (always_safe limit is_limit all.events)
