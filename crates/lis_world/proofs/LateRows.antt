-- The definitions of the line that answers late, at lists of events, by computation; and why a session may not start on
-- it at any time.
use Rattle.std.proofs.Common.{◌≡◌, ℕ, ◌≤◌, Bool, true, false, List, [], ◌∷◌, ◌++◌, length, map, Some, refl, subst}
use Rattle.std.proofs.Common.{arith}
use Rattle.std.specs.Prelude.{All}
use Rattle.lis_frame.specs.Frame.{frame_bytes}
use Rattle.lis_frame.specs.FrameBody.{body_fault}
use Rattle.lis_frame.specs.Stream.{signal_after, open_body}
use Rattle.lis_frame.specs.Pieces.{session_frames, pieces}
use Rattle.lis_link.specs.declared.sender.Outcome.TheVariants.{TimedOut, Restarted}
use Rattle.lis_world.specs.declared.event.Event.{Event}
use Rattle.lis_world.specs.declared.event.Event.TheVariants.{Deliver, Lose, Reply, SenderTimer, RestartSender}
use Rattle.lis_world.specs.declared.event.LateEvent.{LateEvent}
use Rattle.lis_world.specs.declared.event.LateEvent.TheVariants.{Happens, Reconnect}
use Rattle.lis_world.specs.Session.{Session}
use Rattle.lis_world.specs.World.{World, new_world}
use Rattle.lis_world.specs.Safe.{IsSafe}
use Rattle.lis_world.specs.Late.{late_world, is_empty, is_quiet, is_answered, at_any_time, has_no_unit, has_no_reply}
use Rattle.lis_world.specs.Late.{UnsafeWhere}
use Rattle.lis_world.specs.LateDiscipline.{StartInTime}
use Rattle.lis_world.proofs.DefinitionRows.{start, done_letter, unheard_letter, begun_letter}

abbrev ComesTo : (World → Bool) → List LateEvent → List Session → Type 0
ComesTo may_start events sessions = (late_world may_start 240 events).sessions ≡ sessions

-- the ACK to the ENQ of a session that timed out comes during the next session, which takes it as the answer to its own
-- ENQ; the ACK to that ENQ then acknowledges its frame, which is lost
abbrev early_start : List Event
early_start = start 0x41 ∷ Deliver ∷ SenderTimer ∷ start 0x42 ∷ Reply ∷ Deliver ∷ Deliver ∷ Reply ∷ Lose ∷ []

abbrev timed_out_letter : ℕ → Session
timed_out_letter letter = record (begun_letter letter) { outcome = Some TimedOut }

abbrev untaken_done : ℕ → Session
untaken_done letter = record (done_letter letter) { accepted = []; handed = [] }

an_early_start_takes_a_late_reply : ComesTo at_any_time (map Happens early_start)
    (timed_out_letter 0x41 ∷ untaken_done 0x42 ∷ [])
unfolding signal_after open_body body_fault session_frames pieces frame_bytes
an_early_start_takes_a_late_reply = refl

-- a restart leaves the late ACK on the link as a timer does
a_restart_leaves_a_late_reply : ComesTo at_any_time
    (map Happens (start 0x41 ∷ Deliver ∷ RestartSender ∷ start 0x42 ∷ Reply ∷ Deliver ∷ Reply ∷ Lose ∷ []))
    (record (begun_letter 0x41) { outcome = Some Restarted } ∷ untaken_done 0x42 ∷ [])
unfolding signal_after open_body body_fault session_frames pieces frame_bytes
a_restart_leaves_a_late_reply = refl

-- that start does nothing if sessions start on a quiet link alone
an_early_start_is_not_allowed : ComesTo is_quiet (map Happens early_start) (timed_out_letter 0x41 ∷ [])
unfolding signal_after open_body body_fault session_frames pieces frame_bytes
an_early_start_is_not_allowed = refl

-- it begins a session once the line is connected anew, or the late reply has come; after EOT the link is quiet, but not
-- empty
abbrev carried : Event → List Event
carried begin = begin ∷ Deliver ∷ Reply ∷ Deliver ∷ Reply ∷ []

a_new_line_is_quiet : ComesTo is_empty
    (map Happens (start 0x41 ∷ Deliver ∷ SenderTimer ∷ []) ++ Reconnect ∷ map Happens (carried (start 0x42)))
    (timed_out_letter 0x41 ∷ done_letter 0x42 ∷ [])
unfolding signal_after open_body body_fault session_frames pieces frame_bytes
a_new_line_is_quiet = refl

a_late_reply_changes_nothing : ComesTo is_empty
    (map Happens (start 0x41 ∷ Deliver ∷ SenderTimer ∷ Reply ∷ Deliver ∷ carried (start 0x42)))
    (timed_out_letter 0x41 ∷ done_letter 0x42 ∷ [])
unfolding signal_after open_body body_fault session_frames pieces frame_bytes
a_late_reply_changes_nothing = refl

abbrev start_after_an_ending : List Event
start_after_an_ending =
    start 0x41 ∷ Deliver ∷ SenderTimer ∷ Reply ∷ start 0x42 ∷ Deliver ∷ Deliver ∷ Reply ∷ Deliver ∷ Reply ∷ []

after_an_ending : ComesTo is_quiet (map Happens start_after_an_ending)
    (timed_out_letter 0x41 ∷ done_letter 0x42 ∷ [])
unfolding signal_after open_body body_fault session_frames pieces frame_bytes
after_an_ending = refl

an_ending_is_not_empty : ComesTo is_empty (map Happens start_after_an_ending) (timed_out_letter 0x41 ∷ [])
unfolding signal_after open_body body_fault session_frames pieces frame_bytes
an_ending_is_not_empty = refl

-- a session that is done leaves its EOT on the link, and the next one starts after it
done_and_at_once : ComesTo is_answered (map Happens
    (carried (start 0x41) ++ start 0x42 ∷ Deliver ∷ Deliver ∷ Reply ∷ Deliver ∷ Reply ∷ []))
    (done_letter 0x41 ∷ done_letter 0x42 ∷ [])
unfolding signal_after open_body body_fault session_frames pieces frame_bytes
done_and_at_once = refl

-- after one that timed out none starts at once
timed_out_and_not_at_once : ComesTo is_answered (map Happens early_start) (timed_out_letter 0x41 ∷ [])
unfolding signal_after open_body body_fault session_frames pieces frame_bytes
timed_out_and_not_at_once = refl

-- ---- what a program can keep

-- a new line after a session that timed out
renewed_in_time : StartInTime 240
    (map Happens (start 0x41 ∷ Deliver ∷ SenderTimer ∷ []) ++ Reconnect ∷ map Happens (start 0x42 ∷ [])) new_world true
unfolding signal_after open_body body_fault session_frames pieces frame_bytes
renewed_in_time = ((λ e. refl), (tt, (tt, (tt, ((λ e. refl), tt)))))

-- none
early_is_not_in_time : StartInTime 240 (map Happens early_start) new_world true → ⊥
unfolding signal_after open_body body_fault session_frames pieces frame_bytes
early_is_not_in_time in_time =
    let early : true ≡ false = in_time.1.1.1.0 refl in
    absurd (cc)

-- one that comes during the session
during_is_not_in_time :
    StartInTime 240
    (map Happens (start 0x41 ∷ Deliver ∷ []) ++ Reconnect ∷ map Happens (SenderTimer ∷ start 0x42 ∷ [])) new_world true
    → ⊥
unfolding signal_after open_body body_fault session_frames pieces frame_bytes
during_is_not_in_time in_time =
    let early : true ≡ false = in_time.1.1.1.1.0 refl in
    absurd (cc)

-- ---- what is not safe

-- a session that acknowledges a frame that was never taken
not_safe :
    (may_start : World → Bool) (events : List Event)
    → ComesTo may_start (map Happens events) (timed_out_letter 0x41 ∷ untaken_done 0x42 ∷ [])
    → UnsafeWhere may_start 240
not_safe may_start events come = (
  map Happens events,
  λ safe.
      let each : All (IsSafe 240) (timed_out_letter 0x41 ∷ untaken_done 0x42 ∷ []) =
      subst (All (IsSafe 240)) come safe.0 in
      let counted : 1 ≤ length (untaken_done 0x42).accepted =
      (each 1 (done_letter 0) (omega arith)).acknowledged_of_accepted in
      absurd (omega arith),
)

pub not_at_any_time : UnsafeWhere at_any_time 240
not_at_any_time = not_safe at_any_time early_start an_early_start_takes_a_late_reply

-- the late reply is still on the link, or the unit that it answers is
abbrev start_before_a_reply : List Event
start_before_a_reply = start 0x41 ∷ Deliver ∷ SenderTimer ∷ Deliver ∷ start 0x42 ∷ Reply ∷ Deliver ∷ Reply ∷ Lose ∷ []

abbrev start_after_a_unit : List Event
start_after_a_unit = start 0x41 ∷ SenderTimer ∷ start 0x42 ∷ Deliver ∷ Reply ∷ Deliver ∷ Deliver ∷ Reply ∷ Lose ∷ []

a_late_reply_is_taken : ComesTo has_no_unit (map Happens start_before_a_reply)
    (timed_out_letter 0x41 ∷ untaken_done 0x42 ∷ [])
unfolding signal_after open_body body_fault session_frames pieces frame_bytes
a_late_reply_is_taken = refl

the_reply_to_a_late_unit_is_taken : ComesTo has_no_reply (map Happens start_after_a_unit)
    (timed_out_letter 0x41 ∷ untaken_done 0x42 ∷ [])
unfolding signal_after open_body body_fault session_frames pieces frame_bytes
the_reply_to_a_late_unit_is_taken = refl

abbrev start_after_a_frame : List Event
start_after_a_frame =
    start 0x41
    ∷ Deliver
    ∷ Reply
    ∷ SenderTimer
    ∷ start 0x42
    ∷ Deliver
    ∷ Reply
    ∷ Deliver
    ∷ Deliver
    ∷ Reply
    ∷ Lose
    ∷ []

the_reply_to_a_late_frame_is_taken : ComesTo has_no_reply (map Happens start_after_a_frame)
    (unheard_letter 0x41 ∷ untaken_done 0x42 ∷ [])
unfolding signal_after open_body body_fault session_frames pieces frame_bytes
the_reply_to_a_late_frame_is_taken = refl

-- a link with a unit that causes a reply is not quiet
not_quiet_after_an_enquiry : ComesTo is_quiet (map Happens start_after_a_unit) (timed_out_letter 0x41 ∷ [])
unfolding signal_after open_body body_fault session_frames pieces frame_bytes
not_quiet_after_an_enquiry = refl

not_quiet_after_a_frame : ComesTo is_quiet (map Happens start_after_a_frame) (unheard_letter 0x41 ∷ [])
unfolding signal_after open_body body_fault session_frames pieces frame_bytes
not_quiet_after_a_frame = refl

pub not_before_a_reply : UnsafeWhere has_no_unit 240
not_before_a_reply = not_safe has_no_unit start_before_a_reply a_late_reply_is_taken

pub not_after_a_unit : UnsafeWhere has_no_reply 240
not_after_a_unit = not_safe has_no_reply start_after_a_unit the_reply_to_a_late_unit_is_taken
