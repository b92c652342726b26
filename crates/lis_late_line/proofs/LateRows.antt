-- The line that answers late at lists of events, by computation; and why the rule is needed for each ENQ.
use Rattle.std.proofs.Common.{◌≡◌, ℕ, ◌≤◌, true, false, List, [], ◌∷◌, ◌++◌, length, Some, refl, subst, arith}
use Rattle.std.specs.Prelude.{All, Bool}
use Rattle.lis_frame.specs.Frame.{frame_bytes}
use Rattle.lis_frame.specs.FrameBody.{body_fault}
use Rattle.lis_frame.specs.Stream.{signal_after, open_body}
use Rattle.lis_frame.specs.Pieces.{session_frames, pieces}
use Rattle.lis_link.specs.declared.sender.Outcome.TheVariants.{TimedOut}
use Rattle.lis_world.specs.Session.{Session}
use Rattle.lis_world.specs.Safe.{IsSafe}
use Rattle.lis_world.proofs.DefinitionRows.{done_letter, begun_letter}
use Rattle.lis_station.specs.Station.{StationState}
use Rattle.lis_station.specs.Line.{StationEvent, arrive, damage, lose, timer, at_analyzer}
use Rattle.lis_station.specs.Line.{at_computer}
use Rattle.lis_station.proofs.LineRows.{begins}
use Rattle.lis_late_line.specs.Late.{LateEvent, on_line, reconnect, two_way_late}
use Rattle.lis_late_line.specs.Discipline.{on_each_start, on_each_wait, on_each_enquiry, but_after_nak, Rule}
use Rattle.lis_late_line.specs.Discipline.{on_new_lines, on_quiet_lines, keeps, UnsafeByRule, UnsafeFor}

-- an event at the analyzer, and at the computer
abbrev A : StationEvent → LateEvent
A event = on_line (at_analyzer event)

abbrev C : StationEvent → LateEvent
C event = on_line (at_computer event)

-- the sessions of the analyzer, and those of the computer
abbrev ComesTo : List LateEvent → List Session → List Session → Type 0
ComesTo events analyzers computers =
    ((two_way_late 240 events).near.sessions ≡ analyzers) × ((two_way_late 240 events).far.sessions ≡ computers)

-- these events keep both rules for such ENQ alone, and neither for each
record KeepsOnly (enquiry : StationEvent → StationState → Bool) (events : List LateEvent) : Type 0 where
  on_new : keeps (on_new_lines enquiry) 240 events ≡ true
  on_quiet : keeps (on_quiet_lines enquiry) 240 events ≡ true
  each_new : keeps (on_new_lines on_each_enquiry) 240 events ≡ false
  each_quiet : keeps (on_quiet_lines on_each_enquiry) 240 events ≡ false

-- a session that is done, though its frame was never taken
abbrev untaken_done : ℕ → Session
untaken_done letter = record (done_letter letter) { accepted = []; handed = [] }

abbrev timed_out_letter : ℕ → Session
timed_out_letter letter = record (begun_letter letter) { outcome = Some TimedOut }

-- ---- a session starts on the old line

-- the ACK to the ENQ of a session that timed out acknowledges the next one's ENQ, and the ACK to that its lost frame
abbrev started_on_the_old_line : List LateEvent
started_on_the_old_line =
    A (begins 0x41) ∷ A timer ∷ C arrive ∷ A (begins 0x42) ∷ C arrive ∷ A arrive ∷ C arrive ∷ C lose ∷ A arrive ∷ []

an_old_line_acknowledges : ComesTo started_on_the_old_line (timed_out_letter 0x41 ∷ untaken_done 0x42 ∷ []) []
unfolding signal_after open_body body_fault session_frames pieces frame_bytes
an_old_line_acknowledges = (refl, refl)

keeps_at_waits : KeepsOnly on_each_wait started_on_the_old_line
unfolding signal_after open_body body_fault session_frames pieces frame_bytes
keeps_at_waits = record { on_new = refl; on_quiet = refl; each_new = refl; each_quiet = refl }

-- ---- a sender asks again on the old line

-- both ask at once; the ACK to the analyzer's first ENQ comes after its wait, as the reply to its second one
abbrev asked_on_the_old_line : LateEvent → List LateEvent
asked_on_the_old_line put_off =
    A (begins 0x41) ∷ C (begins 0x42) ∷ C timer ∷ put_off ∷ C arrive ∷ A timer ∷ A lose ∷ A arrive ∷ C arrive ∷ C lose
    ∷ A arrive ∷ []

a_wait_leaves_a_late_reply : ComesTo (asked_on_the_old_line (A arrive)) (begun_letter 0x41 ∷ untaken_done 0x41 ∷ [])
    (timed_out_letter 0x42 ∷ [])
unfolding signal_after open_body body_fault session_frames pieces frame_bytes
a_wait_leaves_a_late_reply = (refl, refl)

keeps_at_starts : KeepsOnly on_each_start (asked_on_the_old_line (A arrive))
unfolding signal_after open_body body_fault session_frames pieces frame_bytes
keeps_at_starts = record { on_new = refl; on_quiet = refl; each_new = refl; each_quiet = refl }

-- the same if the computer's ENQ comes as NAK
abbrev enquiry_as_nak : LateEvent
enquiry_as_nak = A (damage (0x15 ∷ []))

a_wait_after_nak_leaves_a_late_reply : ComesTo (asked_on_the_old_line enquiry_as_nak)
    (begun_letter 0x41 ∷ untaken_done 0x41 ∷ []) (timed_out_letter 0x42 ∷ [])
unfolding signal_after open_body body_fault session_frames pieces frame_bytes
a_wait_after_nak_leaves_a_late_reply = (refl, refl)

keeps_but_after_nak : KeepsOnly but_after_nak (asked_on_the_old_line enquiry_as_nak)
unfolding signal_after open_body body_fault session_frames pieces frame_bytes
keeps_but_after_nak = record { on_new = refl; on_quiet = refl; each_new = refl; each_quiet = refl }

-- ---- by the rule

-- the same events with a new line before the ENQ: the late replies are gone, and the session is done
abbrev after_a_new_line : List LateEvent
after_a_new_line = C arrive ∷ A arrive ∷ C arrive ∷ A arrive ∷ C arrive ∷ []

started_on_a_new_line : ComesTo
    (A (begins 0x41) ∷ A timer ∷ C arrive ∷ reconnect ∷ A (begins 0x42) ∷ after_a_new_line)
    (timed_out_letter 0x41 ∷ done_letter 0x42 ∷ []) []
unfolding signal_after open_body body_fault session_frames pieces frame_bytes
started_on_a_new_line = (refl, refl)

asked_on_a_new_line : ComesTo
    (A (begins 0x41) ∷ C (begins 0x42) ∷ C timer ∷ A arrive ∷ C arrive ∷ reconnect ∷ A timer ∷ after_a_new_line)
    (begun_letter 0x41 ∷ done_letter 0x41 ∷ []) (timed_out_letter 0x42 ∷ [])
unfolding signal_after open_body body_fault session_frames pieces frame_bytes
asked_on_a_new_line = (refl, refl)

starts_by_the_rule : keeps (on_new_lines on_each_enquiry) 240
    (A (begins 0x41) ∷ A timer ∷ C arrive ∷ reconnect ∷ A (begins 0x42) ∷ after_a_new_line) ≡ true
unfolding signal_after open_body body_fault session_frames pieces frame_bytes
starts_by_the_rule = refl

asks_by_the_rule : keeps (on_new_lines on_each_enquiry) 240
    (A (begins 0x41) ∷ C (begins 0x42) ∷ C timer ∷ A arrive ∷ C arrive ∷ reconnect ∷ A timer ∷ after_a_new_line) ≡ true
unfolding signal_after open_body body_fault session_frames pieces frame_bytes
asks_by_the_rule = refl

-- after a session that is done the next one starts on the same line
starts_after_a_done_session : keeps (on_new_lines on_each_enquiry) 240
    (A (begins 0x41) ∷ C arrive ∷ A arrive ∷ C arrive ∷ A arrive ∷ A (begins 0x42) ∷ []) ≡ true
unfolding signal_after open_body body_fault session_frames pieces frame_bytes
starts_after_a_done_session = refl

-- a line that is connected anew during a session is new after it, for one ENQ
abbrev after_a_new_line_in_a_session : List LateEvent → Bool
after_a_new_line_in_a_session events = keeps (on_new_lines on_each_enquiry) 240
    (A (begins 0x41) ∷ reconnect ∷ A timer ∷ A (begins 0x42) ∷ events)

is_new_once : (after_a_new_line_in_a_session [] ≡ true)
    × (after_a_new_line_in_a_session (A timer ∷ A (begins 0x43) ∷ []) ≡ false)
unfolding signal_after open_body body_fault session_frames pieces frame_bytes
is_new_once = (refl, refl)

-- once the late reply has come the line is quiet, though the timer's EOT is still on it; it is not before that
abbrev quiet_after : List LateEvent → Bool
quiet_after events = keeps (on_quiet_lines on_each_enquiry) 240
    (A (begins 0x41) ∷ C arrive ∷ A timer ∷ (events ++ A (begins 0x42) ∷ []))

starts_on_a_quiet_line : (quiet_after (A arrive ∷ []) ≡ true) × (quiet_after [] ≡ false)
unfolding signal_after open_body body_fault session_frames pieces frame_bytes
starts_on_a_quiet_line = (refl, refl)

-- nor while what causes a reply is on its way
an_unanswered_line_is_not_quiet : keeps (on_quiet_lines on_each_enquiry) 240
    (A (begins 0x41) ∷ A timer ∷ A (begins 0x42) ∷ []) ≡ false
unfolding signal_after open_body body_fault session_frames pieces frame_bytes
an_unanswered_line_is_not_quiet = refl

-- ---- what is not safe

-- the analyzer's second session has acknowledged a frame that was never taken
second_untaken :
    (rule : Rule) (events : List LateEvent) (first : Session) (computers : List Session) (letter : ℕ)
    → keeps rule 240 events ≡ true
    → ComesTo events (first ∷ untaken_done letter ∷ []) computers
    → UnsafeByRule rule 240
second_untaken rule events first computers letter kept come = (
  events,
  kept,
  λ safe.
      let each : All (IsSafe 240) (first ∷ untaken_done letter ∷ []) = subst (All (IsSafe 240)) come.0 safe.0.0 in
      let counted : 1 ≤ length (untaken_done letter).accepted =
      (each 1 (done_letter 0) (omega arith)).acknowledged_of_accepted in
      absurd (omega arith),
)

both_untaken :
    (enquiry : StationEvent → StationState → Bool) (events : List LateEvent) (first : Session)
    (computers : List Session) (letter : ℕ)
    → KeepsOnly enquiry events
    → ComesTo events (first ∷ untaken_done letter ∷ []) computers
    → UnsafeFor enquiry 240
both_untaken enquiry events first computers letter kept come = (
  second_untaken (on_new_lines enquiry) events first computers letter kept.on_new come,
  second_untaken (on_quiet_lines enquiry) events first computers letter kept.on_quiet come,
)

pub not_waits_alone : UnsafeFor on_each_wait 240
not_waits_alone =
    both_untaken on_each_wait started_on_the_old_line (timed_out_letter 0x41) [] 0x42 keeps_at_waits
    an_old_line_acknowledges

pub not_starts_alone : UnsafeFor on_each_start 240
not_starts_alone =
    both_untaken on_each_start (asked_on_the_old_line (A arrive)) (begun_letter 0x41) (timed_out_letter 0x42 ∷ []) 0x41
    keeps_at_starts a_wait_leaves_a_late_reply

pub not_but_after_nak : UnsafeFor but_after_nak 240
not_but_after_nak =
    both_untaken but_after_nak (asked_on_the_old_line enquiry_as_nak) (begun_letter 0x41) (timed_out_letter 0x42 ∷ [])
    0x41 keeps_but_after_nak a_wait_after_nak_leaves_a_late_reply
