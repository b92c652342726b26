-- Why each rule of the law of both ways is needed: a list of events after which a session is not safe without it, by
-- computation.
use Rattle.std.proofs.Common.{◌≡◌, ℕ, ◌≤◌, false, List, [], ◌∷◌, length, Some, refl}
use Rattle.std.proofs.Common.{ap, subst, arith}
use Rattle.std.specs.Prelude.{All}
use Rattle.lis_frame.specs.Frame.{FrameContent, frame_bytes}
use Rattle.lis_frame.specs.FrameBody.{body_fault}
use Rattle.lis_frame.specs.Stream.{signal_after, open_body}
use Rattle.lis_frame.specs.Pieces.{session_frames, pieces}
use Rattle.lis_link.specs.declared.sender.Outcome.TheVariants.{TimedOut, Restarted}
use Rattle.lis_world.specs.Session.{Session}
use Rattle.lis_world.specs.Safe.{IsSafe}
use Rattle.lis_world.proofs.DefinitionRows.{one_letter, done_letter, begun_letter}
use Rattle.lis_station.specs.Line.{arrive, damage, lose, timer, close_line, restart, set_ready}
use Rattle.lis_station.specs.Line.{LineEvent, at_analyzer, at_computer}
use Rattle.lis_station.specs.LeftOut.{Rule, starts_on_free_line, asks_again_on_free_line, ending_is_no_acknowledgement}
use Rattle.lis_station.specs.LeftOut.{no_reply_after_timer, no_reply_after_wait, no_reply_after_restart}
use Rattle.lis_station.specs.LeftOut.{two_way_without, UnsafeWithout}
use Rattle.lis_station.proofs.LineRows.{begins}

-- the sessions of the analyzer, and those of the computer
abbrev ComesTo : Rule → List LineEvent → List Session → List Session → Type 0
ComesTo rule events analyzers computers =
    ((two_way_without rule 240 events).near.sessions ≡ analyzers)
    × ((two_way_without rule 240 events).far.sessions ≡ computers)

-- a session that is done, though its frame was never taken
abbrev untaken_done : ℕ → Session
untaken_done letter = record (done_letter letter) { accepted = []; handed = [] }

-- the EOT of a session that the computer asked for and did not get comes in the place of the reply to a lost frame
abbrev ended_in_place_of_a_reply : List LineEvent
ended_in_place_of_a_reply =
    at_analyzer (begins 0x41) ∷ at_computer arrive ∷ at_analyzer arrive ∷ at_computer close_line ∷ at_computer lose
    ∷ at_computer (begins 0x42) ∷ at_analyzer lose ∷ at_computer timer ∷ at_analyzer arrive ∷ []

ending_acknowledges : ComesTo ending_is_no_acknowledgement ended_in_place_of_a_reply (untaken_done 0x41 ∷ [])
    (record (begun_letter 0x42) { outcome = Some TimedOut } ∷ [])
unfolding signal_after open_body body_fault session_frames pieces frame_bytes
ending_acknowledges = (refl, refl)

-- the ACK to the ENQ of a session that timed out acknowledges the next one's ENQ, and the ACK to that its lost frame
abbrev replied_after_the_timer : List LineEvent
replied_after_the_timer =
    at_analyzer (begins 0x41) ∷ at_analyzer timer ∷ at_computer arrive ∷ at_analyzer (begins 0x42) ∷ at_computer arrive
    ∷ at_analyzer arrive ∷ at_computer arrive ∷ at_computer lose ∷ at_analyzer arrive ∷ []

late_reply_acknowledges : ComesTo no_reply_after_timer replied_after_the_timer
    (record (begun_letter 0x41) { outcome = Some TimedOut } ∷ untaken_done 0x42 ∷ []) []
unfolding signal_after open_body body_fault session_frames pieces frame_bytes
late_reply_acknowledges = (refl, refl)

-- the same after a restart
abbrev replied_after_a_restart : List LineEvent
replied_after_a_restart =
    at_analyzer (begins 0x41) ∷ at_analyzer restart ∷ at_computer arrive ∷ at_analyzer (begins 0x42)
    ∷ at_analyzer arrive ∷ at_computer arrive ∷ at_computer lose ∷ at_analyzer arrive ∷ []

reply_after_a_restart_acknowledges : ComesTo no_reply_after_restart replied_after_a_restart
    (record (begun_letter 0x41) { outcome = Some Restarted } ∷ untaken_done 0x42 ∷ []) []
unfolding signal_after open_body body_fault session_frames pieces frame_bytes
reply_after_a_restart_acknowledges = (refl, refl)

-- both ask at once; the ACK to the analyzer's first ENQ comes after its wait, as the reply to its second one
abbrev replied_after_the_wait : List LineEvent
replied_after_the_wait =
    at_analyzer (begins 0x41) ∷ at_computer (begins 0x42) ∷ at_computer timer ∷ at_analyzer arrive ∷ at_computer arrive
    ∷ at_analyzer timer ∷ at_analyzer lose ∷ at_analyzer arrive ∷ at_computer arrive ∷ at_computer lose
    ∷ at_analyzer arrive ∷ []

late_reply_to_a_waiting_sender : ComesTo no_reply_after_wait replied_after_the_wait
    (begun_letter 0x41 ∷ untaken_done 0x41 ∷ []) (record (begun_letter 0x42) { outcome = Some TimedOut } ∷ [])
unfolding signal_after open_body body_fault session_frames pieces frame_bytes
late_reply_to_a_waiting_sender = (refl, refl)

-- the rest of a frame of another text: its STX is in the receiver, and a byte before it is taken for a reply
abbrev rest_of_another_frame : List ℕ
rest_of_another_frame = 0x58 ∷ 0x31 ∷ 0x43 ∷ 0x03 ∷ 0x37 ∷ 0x37 ∷ 0x0d ∷ 0x0a ∷ []

-- the computer has the line, and the first byte of its frame has come; the analyzer asks for the line; what comes in
-- the place of the computer's EOT is taken for the reply, and then for the rest of that frame
abbrev ends_in_noise : List LineEvent
ends_in_noise = at_computer timer ∷ at_analyzer (damage rest_of_another_frame) ∷ []

abbrev started_on_an_open_line : List LineEvent
started_on_an_open_line =
    at_computer (begins 0x42) ∷ at_analyzer arrive ∷ at_computer arrive ∷ at_analyzer (damage (0x02 ∷ []))
    ∷ at_analyzer (begins 0x41) ∷ ends_in_noise

-- the session of the computer, in which another text was taken
abbrev another_taken : Session
another_taken = record (begun_letter 0x42) {
  sent = one_letter 0x42 ∷ [];
  accepted = one_letter 0x43 ∷ [];
  handed = (0x43 ∷ []) ∷ [];
  outcome = Some TimedOut;
}

start_on_an_open_line_takes_another_text : ComesTo starts_on_free_line started_on_an_open_line (begun_letter 0x41 ∷ [])
    (another_taken ∷ [])
unfolding signal_after open_body body_fault session_frames pieces frame_bytes
start_on_an_open_line_takes_another_text = (refl, refl)

-- the same if the analyzer waits since its ENQ was answered NAK, and asks again
abbrev asked_again_on_an_open_line : List LineEvent
asked_again_on_an_open_line =
    at_computer (set_ready false) ∷ at_analyzer (begins 0x41) ∷ at_computer arrive ∷ at_analyzer arrive
    ∷ at_computer (begins 0x42) ∷ at_analyzer arrive ∷ at_computer arrive ∷ at_analyzer (damage (0x02 ∷ []))
    ∷ at_analyzer timer ∷ ends_in_noise

asking_again_on_an_open_line_takes_another_text : ComesTo asks_again_on_free_line asked_again_on_an_open_line
    (begun_letter 0x41 ∷ begun_letter 0x41 ∷ []) (another_taken ∷ [])
unfolding signal_after open_body body_fault session_frames pieces frame_bytes
asking_again_on_an_open_line_takes_another_text = (refl, refl)

-- ---- what is not safe

-- the analyzer's first session, or its second one, has acknowledged a frame that was never taken
first_untaken :
    (rule : Rule) (events : List LineEvent) (computers : List Session) (letter : ℕ)
    → ComesTo rule events (untaken_done letter ∷ []) computers → UnsafeWithout rule 240
first_untaken rule events computers letter come = (
  events,
  λ safe.
      let each : All (IsSafe 240) (untaken_done letter ∷ []) = subst (All (IsSafe 240)) come.0 safe.0.0 in
      let counted : 1 ≤ length (untaken_done letter).accepted =
      (each 0 (done_letter 0) (omega arith)).acknowledged_of_accepted in
      absurd (omega arith),
)

second_untaken :
    (rule : Rule) (events : List LineEvent) (first : Session) (computers : List Session) (letter : ℕ)
    → ComesTo rule events (first ∷ untaken_done letter ∷ []) computers → UnsafeWithout rule 240
second_untaken rule events first computers letter come = (
  events,
  λ safe.
      let each : All (IsSafe 240) (first ∷ untaken_done letter ∷ []) = subst (All (IsSafe 240)) come.0 safe.0.0 in
      let counted : 1 ≤ length (untaken_done letter).accepted =
      (each 1 (done_letter 0) (omega arith)).acknowledged_of_accepted in
      absurd (omega arith),
)

-- the letter of the first frame
abbrev front_of : List ℕ → ℕ
front_of [] = 0
front_of (b ∷ bytes) = b

abbrev letter_of : List FrameContent → ℕ
letter_of [] = 0
letter_of (frame ∷ frames) = front_of frame.text

-- the computer's session has accepted a frame that it never sent
unsent_taken :
    (rule : Rule) (events : List LineEvent) (analyzers : List Session)
    → ComesTo rule events analyzers (another_taken ∷ []) → UnsafeWithout rule 240
unsent_taken rule events analyzers come = (
  events,
  λ safe.
      let each : All (IsSafe 240) (another_taken ∷ []) = subst (All (IsSafe 240)) come.1 safe.1.0 in
      let prefix = (each 0 (done_letter 0) (omega arith)).accepted_of_sent in
      let same : 0x43 ≡ 0x42 = ap letter_of prefix.joined in
      absurd (omega (arith, same)),
)

pub needs_free_start : UnsafeWithout starts_on_free_line 240
needs_free_start =
    unsent_taken starts_on_free_line started_on_an_open_line (begun_letter 0x41 ∷ [])
    start_on_an_open_line_takes_another_text

pub needs_free_asking : UnsafeWithout asks_again_on_free_line 240
needs_free_asking =
    unsent_taken asks_again_on_free_line asked_again_on_an_open_line (begun_letter 0x41 ∷ begun_letter 0x41 ∷ [])
    asking_again_on_an_open_line_takes_another_text

pub needs_ending : UnsafeWithout ending_is_no_acknowledgement 240
needs_ending =
    first_untaken ending_is_no_acknowledgement ended_in_place_of_a_reply
    (record (begun_letter 0x42) { outcome = Some TimedOut } ∷ []) 0x41 ending_acknowledges

pub needs_timer : UnsafeWithout no_reply_after_timer 240
needs_timer =
    second_untaken no_reply_after_timer replied_after_the_timer
    (record (begun_letter 0x41) { outcome = Some TimedOut }) [] 0x42 late_reply_acknowledges

pub needs_wait : UnsafeWithout no_reply_after_wait 240
needs_wait =
    second_untaken no_reply_after_wait replied_after_the_wait (begun_letter 0x41)
    (record (begun_letter 0x42) { outcome = Some TimedOut } ∷ []) 0x41 late_reply_to_a_waiting_sender

pub needs_restart : UnsafeWithout no_reply_after_restart 240
needs_restart =
    second_untaken no_reply_after_restart replied_after_a_restart
    (record (begun_letter 0x41) { outcome = Some Restarted }) [] 0x42 reply_after_a_restart_acknowledges
